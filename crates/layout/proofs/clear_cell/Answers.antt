-- The cell's part, as far as the mask goes (Cells).
use Rattle.std.proofs.Common.{◌≡◌, ◌-◌, ap, replicate, rules, arith}
use Rattle.definition.specs.Layout.{UnsafeCell}
use Rattle.layout.proofs.Cells.{run-written}
use Rattle.layout.proofs.clear_cell.Goals as goal

pub returns : goal.returns
returns c =
    let offset = ap (λ (x : UnsafeCell). x.offset) c.from-cell.ensures in
    let size = ap (λ (x : UnsafeCell). x.size) c.from-cell.ensures in
    let zeros : c.fill.new.self ≡ replicate (c.min-end.result - c.min-start.result) 0 = search rules in
    rw zeros (run-written 0 _ _ c.min-start.result c.min-end.result c.args.mask.now (omega (arith, offset)) (omega (arith, size)))
