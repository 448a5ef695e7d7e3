-- By the protector, and then by the answer.
use mathlib.Core.Bool.{Bool}
use mathlib.Core.Path.{◌≡◌, refl, sym, ap}
use mathlib.Core.Bool.{false}
use Rattle.definition.specs.Memory.{named_pointer}
use Rattle.answer.specs.Answer.{answer_of}
use Rattle.library_frames.specs.Settings.{protects}
use Rattle.library_frames.specs.Outcome.{entered_node}
use Rattle.library_frames.proofs.Entering.{unprotected, protected}
use Rattle.library_frames.proofs.retags.entered_node.Goals as goal
use Rattle.library_frames.proofs.retags.entered_node.Goals.{then-adds_no_node-via-then-adds_no_node, then-adds_no_node-via-else-adds_no_node+then-not-settings}

pub returns-then-adds_no_node : goal.returns-then-adds_no_node
returns-then-adds_no_node c = λ words.
    let t = c.args in
    let none : protects t.settings ≡ false =
    elim c.then-adds_no_node.branch [
      | then-adds_no_node-via-then-adds_no_node w ↦ unprotected t.settings w.if-adds_no_node.ensures refl
      | then-adds_no_node-via-else-adds_no_node+then-not-settings w ↦ unprotected t.settings w.if-adds_no_node.ensures w.if-not-settings.true
    ]
    in
    ap (λ (b : Bool). entered_node b (named_pointer (answer_of t.answer words).names)) (sym none)

pub returns-in-Pointer : goal.returns-in-Pointer
returns-in-Pointer c = λ words. rw (protected c.args.settings c.if-adds_no_node.ensures c.if-not-settings.false, c.in-Pointer.is)
