-- Why a request is turned down: the numbers of document 01 and of the change requests, each with its sentence, in checking order. 0 is no refusal.
use Rattle.std.specs.Prelude.{ℕ}

-- "The lent memory is not well formed, or a lent buffer has another length than stated below."
abbrev pub not_well_formed : ℕ
not_well_formed = 1

-- "A field is outside its list, an alignment exponent exceeds 29, a byte word is malformed, or a frame is opened while open or used unopened."
abbrev pub malformed : ℕ
malformed = 2

-- "A retag of a shared reference, an unpin mutable reference or a box has a layout without a mask."
abbrev pub without_mask : ℕ
without_mask = 3

-- "A provenance or frame entry names an allocation or node never made."
abbrev pub never_made : ℕ
never_made = 4

-- "Allocation: the proposed address fails the test of `pick`."
abbrev pub fails_pick : ℕ
fails_pick = 5

-- "Load or store: the address is no multiple of the alignment."
abbrev pub misaligned : ℕ
misaligned = 6

-- "Provenance is missing, in a deallocation, or in kinds 2 to 4, 7 and 8 with a length other than zero (a retag's is its mask's)."
abbrev pub missing_provenance : ℕ
missing_provenance = 7

-- "The allocation is dead, in the same requests."
abbrev pub dead_allocation : ℕ
dead_allocation = 8

-- "In kinds 2 to 4, 7 and 8, the bytes are not all inside the allocation."
abbrev pub out_of_bounds : ℕ
out_of_bounds = 9

-- "Deallocation away from the start."
abbrev pub away_from_start : ℕ
away_from_start = 10

-- "Deallocation of another kind."
abbrev pub another_kind : ℕ
another_kind = 11

-- "Deallocation with another size."
abbrev pub another_size : ℕ
another_size = 12

-- "Deallocation with another alignment."
abbrev pub another_alignment : ℕ
another_alignment = 13

-- "A zero-length retag lies below its allocation's start."
abbrev pub below_start : ℕ
below_start = 14

-- "A size in the closing list would be exceeded; dead allocations count, as the Rust keeps them. The Rust's first test, for a too large allocation, has its
-- place here."
abbrev pub size_exceeded : ℕ
size_exceeded = 15

-- "A frame entry's node is not marked protected, or its row holds an unprotected code."
abbrev pub not_protected : ℕ
not_protected = 16

-- "Local read of Disabled."
abbrev pub local_read_of_disabled : ℕ
local_read_of_disabled = 17

-- "Local write of Frozen."
abbrev pub local_write_of_frozen : ℕ
local_write_of_frozen = 18

-- "Local write of Disabled."
abbrev pub local_write_of_disabled : ℕ
local_write_of_disabled = 19

-- M-100: "Every request answers 26, 27 and 28 in place of 17, 18 and 19 when the node is protected, met in the same visiting order." So 17 to 19 are of
-- nodes without a protector.
-- in place of 17: local read of protected Disabled
abbrev pub local_read_of_protected_disabled : ℕ
local_read_of_protected_disabled = 26

-- in place of 18: local write of protected Frozen
abbrev pub local_write_of_protected_frozen : ℕ
local_write_of_protected_frozen = 27

-- in place of 19: local write of protected Disabled
abbrev pub local_write_of_protected_disabled : ℕ
local_write_of_protected_disabled = 28

-- "Local write of protected Reserved that had a foreign read."
abbrev pub local_write_of_reserved : ℕ
local_write_of_reserved = 20

-- "Foreign read of protected Unique."
abbrev pub foreign_read_of_unique : ℕ
foreign_read_of_unique = 21

-- "Foreign write of protected Frozen or Reserved that had a local read."
abbrev pub foreign_write_of_read : ℕ
foreign_write_of_read = 22

-- "Foreign write of protected Unique (the Rust's message says "read" here)."
abbrev pub foreign_write_of_unique : ℕ
foreign_write_of_unique = 23

-- "Deallocation under a strong protector that prevents it."
abbrev pub strong_protector : ℕ
strong_protector = 24

-- "Leak check: a heap allocation is live; the answer names one such", the one with the lowest number (document 02, M-104)
abbrev pub memory_leak : ℕ
memory_leak = 25
