-- Any other number is no width.
use Rattle.std.proofs.Common.{refl, arith}
use Rattle.pointer.proofs.Widths.{no-width}
use Rattle.pointer.proofs.width.WidthTryFromU64.try_from.Goals as goal

pub returns-in_default : goal.returns-in_default
returns-in_default c = (refl, no-width _ (λ e. omega arith) (λ e. omega arith) (λ e. omega arith))
