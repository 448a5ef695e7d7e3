-- No refusal has the number 0, which stands for none.
use Rattle.std.specs.Prelude.{◌<◌}
use Rattle.std.proofs.Common.{arith}
use Rattle.refusal.specs.Number.{number}
use Rattle.refusal.specs.declared.Refusal.{Refusal}
use Rattle.refusal.specs.declared.Refusal.TheVariants.{NotWellFormed, Malformed, WithoutMask, NeverMade, FailsPick, Misaligned, MissingProvenance, DeadAllocation, OutOfBounds, AwayFromStart, AnotherKind, AnotherSize, AnotherAlignment, BelowStart, SizeExceeded, NotProtected, LocalReadOfDisabled, LocalWriteOfFrozen, LocalWriteOfDisabled, LocalWriteOfReserved, ForeignReadOfUnique, ForeignWriteOfRead, ForeignWriteOfUnique, StrongProtector, MemoryLeak, LocalReadOfProtectedDisabled, LocalWriteOfProtectedFrozen, LocalWriteOfProtectedDisabled}

pub number_positive : (r : Refusal) → 0 < number r
number_positive NotWellFormed = omega arith
number_positive Malformed = omega arith
number_positive WithoutMask = omega arith
number_positive NeverMade = omega arith
number_positive FailsPick = omega arith
number_positive Misaligned = omega arith
number_positive MissingProvenance = omega arith
number_positive DeadAllocation = omega arith
number_positive OutOfBounds = omega arith
number_positive AwayFromStart = omega arith
number_positive AnotherKind = omega arith
number_positive AnotherSize = omega arith
number_positive AnotherAlignment = omega arith
number_positive BelowStart = omega arith
number_positive SizeExceeded = omega arith
number_positive NotProtected = omega arith
number_positive LocalReadOfDisabled = omega arith
number_positive LocalWriteOfFrozen = omega arith
number_positive LocalWriteOfDisabled = omega arith
number_positive LocalWriteOfReserved = omega arith
number_positive ForeignReadOfUnique = omega arith
number_positive ForeignWriteOfRead = omega arith
number_positive ForeignWriteOfUnique = omega arith
number_positive StrongProtector = omega arith
number_positive MemoryLeak = omega arith
number_positive LocalReadOfProtectedDisabled = omega arith
number_positive LocalWriteOfProtectedFrozen = omega arith
number_positive LocalWriteOfProtectedDisabled = omega arith
