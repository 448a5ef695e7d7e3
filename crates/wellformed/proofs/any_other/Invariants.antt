-- The flag says whether one of the numbers seen is another.
use Rattle.std.proofs.Common.{◌≡◌, not, take}
use Rattle.std.specs.List.{list_any}
use Rattle.wellformed.proofs.any_other.Given as goal

abbrev pub invariant-loop-n : goal.invariant-loop-n
invariant-loop-n g l = l.found ≡ list_any (λ n. not (g.T.PartialEq.eq n l.zero)) (take l.n-index l.numbers)
