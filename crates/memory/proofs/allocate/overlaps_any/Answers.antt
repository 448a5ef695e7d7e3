-- The loop has seen no overlap below i.
use mathlib.Core.Path.{◌≡◌, ◌∙◌, sym}
use native.Mathlib.Omega.{arith}
use borrow.Author.Count.{below_more}
use lib.ListN.{length}
use Rattle.definition.specs.Memory.{no_allocation, overlaps}
use Rattle.definition.proofs.Any.{any_at, any_none}
use Rattle.tables.proofs.Lookup.{allocs-length, made-count}
use Rattle.memory.proofs.allocate.overlaps_any.Goals as goal

pub made_count-i-end-requires : goal.made_count-i-end-requires
made_count-i-end-requires c = allocs-length c.requires.1

pub overlaps_at-requires : goal.overlaps_at-requires
overlaps_at-requires c = (c.requires.0, (c.requires.1, omega (arith, c.made_count-i-end.ensures ∙ made-count c.requires.1)))

pub returns-then-overlaps_at : goal.returns-then-overlaps_at
returns-then-overlaps_at c = λ m h.
    let a = c.args in
    sym (any_at (overlaps a.address a.len) no_allocation m c.loop-i.i (omega (arith, c.made_count-i-end.ensures ∙ made-count h)) (sym (c.overlaps_at.ensures m h) ∙ c.if-overlaps_at.true))

pub loop-i-preserved : goal.loop-i-preserved
loop-i-preserved c = λ m h. below_more _ _ (c.loop-i.invariant m h) (sym (c.overlaps_at.ensures m h) ∙ c.if-overlaps_at.false)

pub returns : goal.returns
returns c = λ m h.
    let a = c.args in
    let e : c.loop-i.i ≡ length m = omega (arith, c.made_count-i-end.ensures ∙ made-count h) in
    sym (any_none (overlaps a.address a.len) no_allocation m (rw e at (c.loop-i.invariant m h)))
