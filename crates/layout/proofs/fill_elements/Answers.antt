-- By the room in the buffer; then the first element is filled and repeated (Fill, repeated).
use Prim.Native.Nat.{ℕ, ◌*◌, ◌%◌, ◌≤◌, ◌<◌}
use mathlib.Core.List.{List, map, ◌++◌}
use mathlib.Core.Path.{◌≡◌, sym, ap, ◌∙◌}
use native.Mathlib.Omega.{arith}
use lib.Seq.{length_front, length-take-le}
use lib.ListN.{length, take, drop}
use Rattle.layout.specs.Filled.{mask_bytes}
use Rattle.definition.specs.Notation.{table}
use Rattle.definition.specs.Layout.{unsafe_cell, is_freeze}
use Rattle.layout.proofs.Lists.{product-fits, factor-above, factor-within}
use Rattle.layout.proofs.Fill.{no_room, no_bytes, repeated}
use Rattle.layout.proofs.fill_elements.Goals as goal

pub overflow_mul-total : goal.overflow_mul-total
overflow_mul-total c = record { fits = product-fits c.args.count c.args.size c.ranges.count.fits c.ranges.size.fits }

pub returns-then-mask-total : goal.returns-then-mask-total
returns-then-mask-total c = let a = c.args in
    no_room a.mask.now c.requires (a.count * a.size) (λ b. is_freeze (map unsafe_cell a.cells.now) (b % a.size)) c.if-mask-total.true

pub returns-then-total-eq0 : goal.returns-then-total-eq0
returns-then-total-eq0 c = let a = c.args in
    no_bytes a.mask.now c.requires (a.count * a.size) (λ b. is_freeze (map unsafe_cell a.cells.now) (b % a.size)) c.if-total-eq0.true

pub slice_bounds-cells_to_freeze_mask-end : goal.slice_bounds-cells_to_freeze_mask-end
slice_bounds-cells_to_freeze_mask-end c = omega (arith, factor-within c.args.count c.args.size c.if-total-eq0.false, c.if-mask-total.false)

pub slice_bounds-cells_to_freeze_mask-end-2 : goal.slice_bounds-cells_to_freeze_mask-end-2
slice_bounds-cells_to_freeze_mask-end-2 c = let a = c.args in
    sym (length-take-le a.size a.mask.now (omega (arith, factor-within a.count a.size c.if-total-eq0.false, c.if-mask-total.false)))

pub slice_bounds-repeat-end-2 : goal.slice_bounds-repeat-end-2
slice_bounds-repeat-end-2 c = let a = c.args in
    let first : List ℕ = c.cells_to_freeze_mask.new.mask in
    sym (length-take-le (a.count * a.size) (first ++ drop a.size a.mask.now)
    (omega (arith, length_front a.mask.now first a.size c.cells_to_freeze_mask.auto.mask, c.if-mask-total.false)))

pub repeat-requires : goal.repeat-requires
repeat-requires c = factor-above c.args.count c.args.size c.if-total-eq0.false

pub returns : goal.returns
returns c = let a = c.args in
    let cells = map unsafe_cell a.cells.now in
    -- one element has bytes, and is within all of them
    let above : 0 < a.size = factor-above a.count a.size c.if-total-eq0.false in
    let within : a.size ≤ a.count * a.size = factor-within a.count a.size c.if-total-eq0.false in
    let e : c.cells_to_freeze_mask.new.mask ≡ mask_bytes (table (length (take a.size a.mask.now)) (is_freeze cells)) = c.cells_to_freeze_mask.ensures in
    repeated a.mask.now c.requires a.size (a.count * a.size) cells c.cells_to_freeze_mask.new.mask c.repeat.new.mask above within c.if-mask-total.false
    (e ∙ ap (λ (n : ℕ). mask_bytes (table n (is_freeze cells))) (length-take-le a.size a.mask.now (omega (arith, within, c.if-mask-total.false))))
    c.repeat.ensures
