-- Numbers side by side in one: 0x0a07 is 10 and 7, 8 bits each.
use Rattle.std.specs.Prelude.{ℕ, ◌+◌, ◌*◌, ◌/◌, ◌%◌, ◌^◌}

-- 16 bits each
abbrev pub four_lanes : ℕ → ℕ → ℕ → ℕ → ℕ
four_lanes a b c d = ((a * 2 ^ 16 + b) * 2 ^ 16 + c) * 2 ^ 16 + d

-- 8 bits each
abbrev pub eight_lanes : ℕ → ℕ → ℕ → ℕ → ℕ → ℕ → ℕ → ℕ → ℕ
eight_lanes a b c d e f g h =
    ((((((a * 2 ^ 8 + b) * 2 ^ 8 + c) * 2 ^ 8 + d) * 2 ^ 8 + e) * 2 ^ 8 + f) * 2 ^ 8 + g) * 2 ^ 8 + h

-- the bytes of a word, the highest in the lowest lane
abbrev pub byte_lanes : ℕ → ℕ
byte_lanes w = four_lanes (w % 256) (w / 256 % 256) (w / 65536 % 256) (w / 16777216)

-- its digits, the highest in the lowest lane, and f of each
abbrev pub digit_lanes : (ℕ → ℕ) → ℕ → ℕ
digit_lanes f w =
    eight_lanes
    (f (w % 16))
    (f (w / 16 % 16))
    (f (w / 256 % 16))
    (f (w / 4096 % 16))
    (f (w / 65536 % 16))
    (f (w / 1048576 % 16))
    (f (w / 16777216 % 16))
    (f (w / 268435456 % 16))
