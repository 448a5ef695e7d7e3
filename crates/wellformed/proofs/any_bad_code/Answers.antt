-- All codes were seen.
use Rattle.std.proofs.Common.{arith}
use Rattle.std.proofs.lemmas.Grind.{common_steps}
use Rattle.definition.proofs.Any.{any_is_list_any}
use Rattle.wellformed.proofs.any_bad_code.Goals as goal

pub returns : goal.returns
returns c = rw any_is_list_any (grind (arith, common_steps))
