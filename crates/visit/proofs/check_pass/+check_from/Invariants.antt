-- The invariant: what is left at m tells of the whole. The number of later nodes falls.
use Prim.Native.Nat.{◌-◌, ◌*◌}
use lib.ListN.{length}
use Rattle.visit.proofs.Turns.{Checking}
use Rattle.visit.proofs.check_pass.+check_from.Given as goal

abbrev pub decreases-check_from : goal.decreases-check_from
decreases-check_from l = length l.plan.now - 4 * l.first

abbrev pub invariant-loop-effect : goal.invariant-loop-effect
invariant-loop-effect l = Checking l.plan l.codes l.lent l.v l.first l.m l.effect

abbrev pub decreases-loop-effect : goal.decreases-loop-effect
decreases-loop-effect l = length l.plan - 4 * l.m
