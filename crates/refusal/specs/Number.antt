-- The numbers of the refusals, by the definition's names, and of what a request comes to that may be refused.
use Rattle.std.specs.Prelude.{ℕ, Result, Ok, Err}
use Rattle.definition.specs.Refusal as definition
use Rattle.refusal.specs.declared.Refusal.{Refusal}
use Rattle.refusal.specs.declared.Refusal.TheVariants.{NotWellFormed, Malformed, WithoutMask, NeverMade, FailsPick, Misaligned, MissingProvenance, DeadAllocation, OutOfBounds, AwayFromStart, AnotherKind, AnotherSize, AnotherAlignment, BelowStart, SizeExceeded, NotProtected, LocalReadOfDisabled, LocalWriteOfFrozen, LocalWriteOfDisabled, LocalWriteOfReserved, ForeignReadOfUnique, ForeignWriteOfRead, ForeignWriteOfUnique, StrongProtector, MemoryLeak, LocalReadOfProtectedDisabled, LocalWriteOfProtectedFrozen, LocalWriteOfProtectedDisabled}

abbrev pub number : Refusal → ℕ
number NotWellFormed = definition.not_well_formed
number Malformed = definition.malformed
number WithoutMask = definition.without_mask
number NeverMade = definition.never_made
number FailsPick = definition.fails_pick
number Misaligned = definition.misaligned
number MissingProvenance = definition.missing_provenance
number DeadAllocation = definition.dead_allocation
number OutOfBounds = definition.out_of_bounds
number AwayFromStart = definition.away_from_start
number AnotherKind = definition.another_kind
number AnotherSize = definition.another_size
number AnotherAlignment = definition.another_alignment
number BelowStart = definition.below_start
number SizeExceeded = definition.size_exceeded
number NotProtected = definition.not_protected
number LocalReadOfDisabled = definition.local_read_of_disabled
number LocalWriteOfFrozen = definition.local_write_of_frozen
number LocalWriteOfDisabled = definition.local_write_of_disabled
number LocalWriteOfReserved = definition.local_write_of_reserved
number ForeignReadOfUnique = definition.foreign_read_of_unique
number ForeignWriteOfRead = definition.foreign_write_of_read
number ForeignWriteOfUnique = definition.foreign_write_of_unique
number StrongProtector = definition.strong_protector
number MemoryLeak = definition.memory_leak
number LocalReadOfProtectedDisabled = definition.local_read_of_protected_disabled
number LocalWriteOfProtectedFrozen = definition.local_write_of_protected_frozen
number LocalWriteOfProtectedDisabled = definition.local_write_of_protected_disabled

-- 0 where nothing is refused
abbrev pub refusal_of : {A : Type 0} → Result A Refusal → ℕ
refusal_of (Ok a) = 0
refusal_of (Err r) = number r
