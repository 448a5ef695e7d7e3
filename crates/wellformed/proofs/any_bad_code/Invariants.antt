-- The flag says whether one of the codes seen is bad.
use Rattle.std.proofs.Common.{◌≡◌, take}
use Rattle.std.specs.List.{list_any}
use Rattle.wellformed.specs.WellFormed.{bad_code}
use Rattle.wellformed.proofs.any_bad_code.Given as goal

abbrev pub invariant-loop-code : goal.invariant-loop-code
invariant-loop-code l = l.bad ≡ list_any (bad_code l.live l.protector) (take l.code-index l.row)
