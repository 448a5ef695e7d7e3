-- The array is zeros, and long enough.
use native.Mathlib.Omega.{arith}
use Prim.Native.Nat.{◌*◌}
use lib.Seq.{length-take-le}
use lib.ListN.{length, replicate}
use Rattle.visit.proofs.Plans.{zeros, zeros-taken}
use Rattle.tree.proofs.deallocation.strong_protector_after_write.Goals as goal

pub make_plan-requires-clause-roomy : goal.make_plan-requires-clause-roomy
make_plan-requires-clause-roomy c = let tree = c.requires.some.1.holds in
    let size = 4 * length c.args.parents.now in
    (record { size = length-take-le size (replicate 4096 0) (omega (arith, tree.few)); few = tree.few }, zeros-taken (replicate 4096 0) size (zeros 4096))
