-- The invariant: what is left at m leaves what the whole visit leaves. The number of later nodes falls.
use Prim.Native.Nat.{◌-◌, ◌*◌}
use mathlib.Core.Path.{◌≡◌}
use lib.ListN.{length}
use Rattle.visit.proofs.Turns.{Applying}
use Rattle.visit.proofs.apply_pass.+apply_from.Given as goal

abbrev pub decreases-apply_from : goal.decreases-apply_from
decreases-apply_from l = length l.plan.now - 4 * l.first

abbrev pub invariant-loop-v : goal.invariant-loop-v
invariant-loop-v l =
    Applying l.plan l.initial.codes l.lent l.v l.first l.m l.codes × (length l.codes ≡ length l.initial.codes)

abbrev pub decreases-loop-v : goal.decreases-loop-v
decreases-loop-v l = length l.plan - 4 * l.m
