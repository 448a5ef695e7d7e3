-- The loop has seen none below i.
use mathlib.Core.Path.{◌≡◌, ◌∙◌, sym}
use native.Mathlib.Omega.{arith}
use borrow.Author.Count.{below_more}
use lib.ListN.{length}
use Rattle.definition.specs.Memory.{no_allocation}
use Rattle.definition.proofs.Any.{any_at, any_none}
use Rattle.pointer.specs.Width.{width_of}
use Rattle.tables.proofs.Lookup.{allocs-length, made-count}
use Rattle.wellformed.specs.AtWidth.{is_beyond}
use Rattle.wellformed.proofs.at_width.any_beyond.Goals as goal

pub made_count-i-end-requires : goal.made_count-i-end-requires
made_count-i-end-requires c = allocs-length c.requires.1

pub beyond_at-requires : goal.beyond_at-requires
beyond_at-requires c = (c.requires.0, (c.requires.1, omega (arith, c.made_count-i-end.ensures ∙ made-count c.requires.1)))

pub returns-then-beyond_at : goal.returns-then-beyond_at
returns-then-beyond_at c = λ m h.
    let a = c.args in
    sym (any_at (is_beyond (width_of a.width)) no_allocation m c.loop-i.i (omega (arith, c.made_count-i-end.ensures ∙ made-count h)) (sym (c.beyond_at.ensures m h) ∙ c.if-beyond_at.true))

pub loop-i-preserved : goal.loop-i-preserved
loop-i-preserved c = λ m h. below_more _ _ (c.loop-i.invariant m h) (sym (c.beyond_at.ensures m h) ∙ c.if-beyond_at.false)

pub returns : goal.returns
returns c = λ m h.
    let a = c.args in
    let e : c.loop-i.i ≡ length m = omega (arith, c.made_count-i-end.ensures ∙ made-count h) in
    sym (any_none (is_beyond (width_of a.width)) no_allocation m (rw e at (c.loop-i.invariant m h)))
