-- The loop has seen no live heap allocation below i.
use mathlib.Core.Path.{◌≡◌, ◌∙◌, sym, subst}
use native.Mathlib.Omega.{arith}
use borrow.Author.Count.{below_more}
use lib.ListN.{length}
use Rattle.tables.proofs.Lookup.{allocs-length, made-count}
use Rattle.definition.proofs.Leaks.{NoneBelow, Lowest}
use Rattle.bounds.proofs.Leak.{leak-found, leak-none}
use Rattle.bounds.proofs.leak_check.Goals as goal

pub made_count-count-requires : goal.made_count-count-requires
made_count-count-requires c = allocs-length c.requires.1

pub loop-i-init : goal.loop-i-init
loop-i-init c = λ m h k l. absurd (omega arith)

pub is_live_heap-requires : goal.is_live_heap-requires
is_live_heap-requires c = let (m, h) = c.requires in (m, (h, omega (arith, c.made_count-count.ensures ∙ made-count h)))

pub overflow_cast-result : goal.overflow_cast-result
overflow_cast-result c = let (m, h) = c.requires in
    omega (arith, c.made_count-count.ensures ∙ made-count h, h.valid.bounded.allocations)

pub returns-then-is_live_heap : goal.returns-then-is_live_heap
returns-then-is_live_heap c = λ m h.
    let lowest : Lowest m c.loop-i.i =
    record {
      made = omega (arith, c.made_count-count.ensures ∙ made-count h);
      leaks = sym (c.is_live_heap.ensures m h) ∙ c.if-is_live_heap.true;
      below = c.loop-i.invariant m h;
    } in
    leak-found m c.loop-i.i lowest

pub loop-i-preserved : goal.loop-i-preserved
loop-i-preserved c = λ m h. below_more _ _ (c.loop-i.invariant m h) (sym (c.is_live_heap.ensures m h) ∙ c.if-is_live_heap.false)

pub returns : goal.returns
returns c = λ m h.
    let e : c.loop-i.i ≡ length m = omega (arith, c.made_count-count.ensures ∙ made-count h) in
    leak-none m (subst (NoneBelow m) e (c.loop-i.invariant m h))
