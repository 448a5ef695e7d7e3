-- The invariant: the mask is that of the cells passed. At first it is all ones; each cell is cleared.
use Rattle.std.proofs.Common.{◌≡◌, length, replicate, rules, ◌∙◌}
use Rattle.layout.proofs.Cells.{all_ones, next-cell}
use Rattle.layout.proofs.cells_to_freeze_mask.Goals as goal

pub loop-word-init : goal.loop-word-init
loop-word-init c =
    let ones : c.fill.new.self ≡ replicate (length c.args.mask.now) 1 = search rules in
    rw (c.fill.auto.self, ones) (all_ones (length c.args.mask.now))

pub loop-word-preserved : goal.loop-word-preserved
loop-word-preserved c = let l = c.loop-word in
    c.clear_cell.ensures ∙ next-cell _ c.args.cells.now l.word-index l.mask c.loop-word-test.true l.invariant
