-- The invariant: the nodes from m on are linked, and what is noted, or lies above `on`, is what lies above the accessed node.
use Prim.Native.Nat.{◌<◌}
use Rattle.visit.proofs.Plans.{Linking, Traced}
use Rattle.visit.proofs.plan.make_plan.Given as goal

abbrev pub invariant-loop-m : goal.invariant-loop-m
invariant-loop-m l = (l.on < l.m) × Linking l.v.spared l.parents l.plan l.m × Traced l.parents l.v.node l.plan l.on
