-- How wide the pointers of a target are. Document 02, M-110: "Make the width a parameter, 16, 32 or 64 bits, chosen when a memory is emptied and kept with it."
use Rattle.std.specs.Prelude.{ℕ, ◌/◌, ◌^◌}

pub data Width : Type 0 where
  Bits16 Bits32 Bits64 : Width

abbrev pub bits : Width → ℕ
bits Bits16 = 16
bits Bits32 = 32
bits Bits64 = 64

-- how many addresses there are: they go from 0 up to, not including, this number
abbrev pub addresses : Width → ℕ
addresses w = 2 ^ bits w

-- how many bytes a pointer has in memory: the positions of its fragments go from 0 up to, not including, this number
abbrev pub pointer_bytes : Width → ℕ
pointer_bytes w = bits w / 8
