-- The fold is the test of all.
use Rattle.std.proofs.Common.{arith}
use Rattle.std.proofs.lemmas.Grind.{common_steps}
use Rattle.pointer.proofs.Folds.{any_is_fold}
use Rattle.pointer.proofs.width.any_position_from.Goals as goal

pub returns : goal.returns
returns c = rw any_is_fold (grind (arith, common_steps))
