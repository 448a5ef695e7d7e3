-- At i all records from `from` on and before it were made.
use Rattle.std.proofs.Common.{◌≡◌, arith}
use Rattle.tables.specs.Decoding.{made_in}
use Rattle.tables.proofs.Lookup.{made-here, made-next}
use Rattle.tables.proofs.first_unmade.Goals as goal

pub returns-then-allocs-i : goal.returns-then-allocs-i
returns-then-allocs-i c = omega (arith, c.loop-i.invariant, made-here c.args.allocs.now c.loop-i.i (omega arith) c.if-allocs-i.true)

pub loop-i-preserved : goal.loop-i-preserved
loop-i-preserved c = omega (arith, c.loop-i.invariant, made-next c.args.allocs.now c.loop-i.i (omega arith) c.if-allocs-i.false)

pub returns : goal.returns
unfolding made_in
returns c = let e : c.loop-i.i ≡ 128 = omega arith in omega (arith, rw e at c.loop-i.invariant)
