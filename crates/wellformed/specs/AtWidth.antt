-- When five lent buffers hold a memory of a target with pointers of so many bits (refusal 1). Document 02, M-110: "Address plus size is at most 2 to the
-- width, less 1", and no byte's position is too big, of dead allocations too.
use Rattle.std.specs.Prelude.{ℕ, ◌+◌, ◌≡◌, Bool, true, not, ◌&&◌, List}
use Rattle.definition.specs.Notation.{any}
use Rattle.definition.specs.Width.{Width}
use Rattle.definition.specs.Memory.{Allocation, Memory, size}
use Rattle.definition.specs.Request.{is_too_high, is_too_far}
use Rattle.definition.specs.Valid.{Narrow}
use Rattle.pointer.specs.Width.{is_width, width_at}
use Rattle.tables.specs.Encoding.{Buffers}
use Rattle.tables.specs.Decoding.{view}
use Rattle.tables.specs.Held.{Holds}
use Rattle.wellformed.specs.WellFormed.{well_formed}

-- an allocation's end is no address
abbrev pub is_beyond : Width → Allocation → Bool
is_beyond w a = is_too_high w (a.address + size a)

-- a memory, and the buffer of its words
unfoldable pub fits_in : Width → Memory → List ℕ → Bool
fits_in w m words = not (any (is_beyond w) m) && not (any (is_too_far w) words)

abbrev pub fits_width : Width → Buffers → Bool
fits_width w b = fits_in w (view b) b.words

-- the width is a number of bits, and any that is none of the three is refused
unfoldable pub well_formed_at : ℕ → Buffers → Bool
well_formed_at n b = is_width n && (well_formed b && fits_width (width_at n) b)

-- what it decides: the five buffers hold m, and m is in the addresses and positions of a width of n bits
pub record HoldsAt (n : ℕ) (m : Memory) (b : Buffers) : Type 0 where
  pub numbered : is_width n ≡ true
  pub holds : Holds m b
  pub narrow : Narrow (width_at n) m
