-- At n the answer is that for the nodes from n on.
use Prim.Native.Nat.{◌-◌, ◌*◌}
use mathlib.Core.Path.{◌≡◌}
use lib.ListN.{drop}
use Rattle.wellformed.specs.WellFormed.{bad_nodes}
use Rattle.wellformed.proofs.bad_nodes.Given as goal

abbrev pub invariant-loop-n : goal.invariant-loop-n
invariant-loop-n l = (bad_nodes l.live l.size l.n (l.count - l.n) (drop l.n l.parents) (drop l.n l.protectors) (drop (l.n * l.size) l.codes) ≡ bad_nodes l.live l.size 0 l.count l.parents l.protectors l.codes)
