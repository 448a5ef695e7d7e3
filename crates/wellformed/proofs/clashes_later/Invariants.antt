-- At j the answer is that for the records from j on.
use Prim.Native.Nat.{◌+◌, ◌-◌, ◌*◌}
use mathlib.Core.Path.{◌≡◌}
use lib.ListN.{drop}
use Rattle.wellformed.specs.WellFormed.{clashes_later, clashes_first}
use Rattle.wellformed.proofs.clashes_later.Given as goal

abbrev pub invariant-loop-j : goal.invariant-loop-j
invariant-loop-j l = clashes_later (l.count - l.j) l.address l.size (drop (l.j * 9) l.allocs) ≡ clashes_first (l.count - (l.i + 1)) (drop (l.i * 9) l.allocs)
