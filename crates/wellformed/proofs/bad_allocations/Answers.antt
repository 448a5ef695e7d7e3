-- At i the answer is that for the allocations from i on, whose parts stand at the front of what is left (Walk).
use mathlib.Core.Path.{ap, ◌∙◌}
use Prim.Native.Nat.{ℕ, ◌*◌}
use native.Mathlib.Nat.{sub-zero}
use native.Mathlib.Omega.{arith}
use Rattle.wellformed.specs.WellFormed.{bad_allocations}
use Rattle.wellformed.proofs.Walk.{walk-front, walk-bad, walk-on, walk-fits, walk-rest}
use Rattle.wellformed.proofs.bad_allocations.Goals as goal

pub loop-i-init : goal.loop-i-init
loop-i-init c = let a = c.args in
    record {
      parents = omega arith;
      protectors = omega arith;
      words = omega arith;
      codes = omega arith;
      answer = ap (λ (k : ℕ). bad_allocations k 0 0 0 a.allocs.now a.parents.now a.protectors.now a.words.now a.codes.now) (sub-zero a.count);
    }

pub bad_allocation_at-requires : goal.bad_allocation_at-requires
bad_allocation_at-requires c = walk-front c.loop-i.invariant (omega (arith, c.requires.0)) c.requires.1.0 c.requires.1.1

pub returns-then-bad_allocation_at : goal.returns-then-bad_allocation_at
returns-then-bad_allocation_at c = walk-bad c.loop-i.invariant c.bad_allocation_at.ensures (omega arith) c.if-bad_allocation_at.true

pub overflow_add-at-in-loop-i : goal.overflow_add-at-in-loop-i
overflow_add-at-in-loop-i c = omega (arith, (walk-fits c.loop-i.invariant c.bad_allocation_at.ensures c.if-bad_allocation_at.false).parents)

pub overflow_add-at : goal.overflow_add-at
overflow_add-at c = omega (arith, (walk-fits c.loop-i.invariant c.bad_allocation_at.ensures c.if-bad_allocation_at.false).words)

pub overflow_mul-at : goal.overflow_mul-at
overflow_mul-at c = omega (arith, (walk-fits c.loop-i.invariant c.bad_allocation_at.ensures c.if-bad_allocation_at.false).codes)

pub overflow_add-at-in-loop-i-2 : goal.overflow_add-at-in-loop-i-2
overflow_add-at-in-loop-i-2 c = omega (arith, (walk-fits c.loop-i.invariant c.bad_allocation_at.ensures c.if-bad_allocation_at.false).codes)

pub loop-i-preserved : goal.loop-i-preserved
loop-i-preserved c = walk-on c.loop-i.invariant c.bad_allocation_at.ensures c.if-bad_allocation_at.false (omega arith)

pub returns : goal.returns
returns c = c.bad_rest.ensures ∙ walk-rest c.loop-i.invariant (c.args.count * 9) (omega arith) (omega arith)
