-- By whether a node may be added, and then by whether the layout has a mask (Masks).
use mathlib.Core.Bool.{false}
use mathlib.Core.Path.{◌≡◌, sym, ◌∙◌}
use native.Mathlib.Omega.{arith}
use lib.ListN.{length-take}
use Rattle.definition.specs.Request.{adds_no_node}
use Rattle.pointer.specs.Pointer.{thin_pointer_of}
use Rattle.layout.specs.Filled.{afterwards}
use Rattle.layout.proofs.Answers.{HasMask, answers_of, answers-none}
use Rattle.parts.proofs.Lent.{records-of}
use Rattle.library_frames.specs.Settings.{fields_of}
use Rattle.library_frames.proofs.Masks.{blank, blank-length, performed-mask, performed-none, performed-same, performed-node}
use Rattle.library_frames.proofs.retags.retag_held.Goals as goal

pub retag_without_node-requires : goal.retag_without_node-requires
retag_without_node-requires c = (c.requires.0, records-of c.requires.1)

pub returns-then-adds_no_node : goal.returns-then-adds_no_node
returns-then-adds_no_node c = let t = c.args in
    λ s held count.
    performed-same t.settings (thin_pointer_of t.p) t.layout.now s (sym c.adds_no_node.ensures ∙ c.if-adds_no_node.true) (c.retag_without_node.ensures s (records-of held))
    held.trees

pub slice_bounds-reborrow-end : goal.slice_bounds-reborrow-end
slice_bounds-reborrow-end c =
    let has : HasMask c.args.layout.now blank (afterwards c.args.layout.now blank) c.in-Ok.len =
    answers_of c.args.layout.now blank blank-length _ (sym c.in-Ok.is ∙ c.freeze_mask.ensures.0) in
    omega (arith, has.bound, c.freeze_mask.auto.mask, blank-length, length-take c.in-Ok.len c.freeze_mask.new.mask)

pub slice_bounds-mask-end : goal.slice_bounds-mask-end
slice_bounds-mask-end c =
    let has : HasMask c.args.layout.now blank (afterwards c.args.layout.now blank) c.in-Ok.len =
    answers_of c.args.layout.now blank blank-length _ (sym c.in-Ok.is ∙ c.freeze_mask.ensures.0) in
    omega (arith, has.bound, c.freeze_mask.auto.mask, blank-length)

pub returns-in-Ok : goal.returns-in-Ok
returns-in-Ok c = let adds : adds_no_node (fields_of c.args.settings) ≡ false = sym c.adds_no_node.ensures ∙ c.if-adds_no_node.false in
    let has-mask : let layout = c.args.layout.now in HasMask layout blank (afterwards layout blank) c.in-Ok.len = answers_of c.args.layout.now blank blank-length _ (sym c.in-Ok.is ∙ c.freeze_mask.ensures.0) in
    let t = c.args in
    λ s held count.
    performed-node t.settings (thin_pointer_of t.p) t.layout.now s (adds)
    (performed-mask t.settings (thin_pointer_of t.p) t.layout.now s c.reborrow_settings-w.result c.reborrow_settings-w.ensures blank _ (has-mask) _ c.freeze_mask.ensures.1
    (c.reborrow.ensures.retagged s 0 held count))

pub returns-in-Err : goal.returns-in-Err
returns-in-Err c = let adds : adds_no_node (fields_of c.args.settings) ≡ false = sym c.adds_no_node.ensures ∙ c.if-adds_no_node.false in
    let t = c.args in
    λ s held count.
    rw c.from.ensures
    (performed-node t.settings (thin_pointer_of t.p) t.layout.now s (adds)
    (performed-none t.settings (thin_pointer_of t.p) t.layout.now s (answers-none t.layout.now blank blank-length _ (sym c.in-Err.is ∙ c.freeze_mask.ensures.0)) held.trees))
