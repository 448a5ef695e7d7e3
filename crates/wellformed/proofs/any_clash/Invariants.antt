-- At i the answer is that for the records from i on.
use Prim.Native.Nat.{◌-◌, ◌*◌}
use mathlib.Core.Path.{◌≡◌}
use lib.ListN.{drop}
use Rattle.wellformed.specs.WellFormed.{any_clash}
use Rattle.wellformed.proofs.any_clash.Given as goal

abbrev pub invariant-loop-i : goal.invariant-loop-i
invariant-loop-i l = (any_clash (l.count - l.i) (drop (l.i * 9) l.allocs) ≡ any_clash l.count l.allocs)
