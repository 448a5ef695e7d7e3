-- The invariant: the answer of the cells that are left, from the end of the last one on, is the answer of all.
use mathlib.Core.Path.{sym, ap, ◌∙◌}
use native.Mathlib.Omega.{arith}
use Rattle.definition.specs.Layout.{UnsafeCell}
use Rattle.layout.proofs.Cells.{fits_more, fits-fails, fits-end}
use Rattle.layout.proofs.cells_fit.Goals as goal

pub returns-then-cell-end : goal.returns-then-cell-end
returns-then-cell-end c = let l = c.loop-word in
    let a = c.args in
    let offset = ap (λ (x : UnsafeCell). x.offset) c.from-cell.ensures in
    sym (fits-fails l.end a.size a.cells.now l.word-index c.loop-word-test.true (omega (arith, offset))) ∙ l.invariant

pub loop-word-preserved : goal.loop-word-preserved
loop-word-preserved c = let l = c.loop-word in
    let a = c.args in
    let offset = ap (λ (x : UnsafeCell). x.offset) c.from-cell.ensures in
    let size = ap (λ (x : UnsafeCell). x.size) c.from-cell.ensures in
    rw (offset, size) (sym (fits_more l.end a.size a.cells.now l.word-index c.loop-word-test.true (omega (arith, offset))) ∙ l.invariant)

pub returns : goal.returns
returns c = sym (fits-end c.loop-word.end c.args.size c.args.cells.now c.loop-word.word-index (omega arith)) ∙ c.loop-word.invariant
