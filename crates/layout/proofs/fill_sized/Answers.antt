-- By the room in the buffer.
use Prim.Native.Nat.{ℕ, ◌≤◌}
use mathlib.Core.List.{map, ◌++◌}
use mathlib.Core.Path.{◌≡◌, sym, ap, ◌∙◌}
use lib.ListN.{length, take, drop}
use lib.Seq.{length-take-le}
use Rattle.layout.specs.Filled.{mask_bytes}
use Rattle.definition.specs.Notation.{table}
use Rattle.definition.specs.Layout.{unsafe_cell, is_freeze}
use Rattle.layout.proofs.Fill.{no_room, room}
use Rattle.layout.proofs.fill_sized.Goals as goal

pub returns-then-mask-size : goal.returns-then-mask-size
returns-then-mask-size c = no_room c.args.mask.now c.requires c.args.size (is_freeze (map unsafe_cell c.args.cells.now)) c.if-mask-size.true

pub slice_bounds-cells_to_freeze_mask-end-2 : goal.slice_bounds-cells_to_freeze_mask-end-2
slice_bounds-cells_to_freeze_mask-end-2 c = sym (length-take-le c.args.size c.args.mask.now c.if-mask-size.false)

pub returns : goal.returns
returns c = let f = is_freeze (map unsafe_cell c.args.cells.now) in
    let fits : c.args.size ≤ length c.args.mask.now = c.if-mask-size.false in
    let e : c.cells_to_freeze_mask.new.mask ≡ mask_bytes (table (length (take c.args.size c.args.mask.now)) f) = c.cells_to_freeze_mask.ensures in
    room c.args.mask.now c.requires c.args.size f (c.cells_to_freeze_mask.new.mask ++ drop c.args.size c.args.mask.now) fits
    (ap (λ l. l ++ drop c.args.size c.args.mask.now) (e ∙ ap (λ (n : ℕ). mask_bytes (table n f)) (length-take-le c.args.size c.args.mask.now fits)))
