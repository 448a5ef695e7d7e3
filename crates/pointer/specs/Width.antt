-- What the code's widths are in the definition, and the width as the number of its bits.
use Rattle.std.specs.Prelude.{◌≡◌, ℕ, Bool, false, ◌||◌, ◌==◌, if◌then◌else◌, Result, MatchResult}
use Rattle.definition.specs.Width as definition
use Rattle.pointer.specs.declared.width.Width.{Width}
use Rattle.pointer.specs.declared.width.Width.TheVariants.{Bits16, Bits32, Bits64}
use Rattle.pointer.specs.declared.width.NoWidth.{NoWidth}

abbrev pub width_of : Width → definition.Width
width_of Bits16 = definition.Width.Bits16
width_of Bits32 = definition.Width.Bits32
width_of Bits64 = definition.Width.Bits64

abbrev pub declared_width : definition.Width → Width
declared_width definition.Width.Bits16 = Bits16
declared_width definition.Width.Bits32 = Bits32
declared_width definition.Width.Bits64 = Bits64

-- "16, 32 or 64 bits"
unfoldable pub is_width : ℕ → Bool
is_width n = n == 16 || n == 32 || n == 64

-- 64 bits for a number that is no width; it is asked only of one that is
unfoldable pub width_at : ℕ → definition.Width
width_at n = if n == 16 then definition.Width.Bits16 else if n == 32 then definition.Width.Bits32 else definition.Width.Bits64

-- the width with so many bits, or the number, which is no width
abbrev pub IsWidthOf : ℕ → Result Width NoWidth → Type 0
IsWidthOf n r = MatchResult r (λ w. n ≡ definition.bits (width_of w)) (λ e. (e.0 ≡ n) × (is_width n ≡ false))
