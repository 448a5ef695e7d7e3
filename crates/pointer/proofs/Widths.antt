-- An address above the last one; a position too big for 64 bits, which there is none; and widths as numbers.
use Rattle.std.specs.Prelude.{Result, Ok, Err}
use Rattle.std.specs.Result.{is_ok, result_unwrap_or}
use Rattle.pointer.specs.declared.width.NoWidth.{NoWidth}
use Rattle.std.proofs.Common.{◌≡◌, ℕ, ◌-◌, ◌%◌, ◌^◌, true, false, ltb, List, [], ◌∷◌, sym, refl, ◌∙◌, arith, le-ltb, lt-ltb, eq-eqb, ne_eqb, eqb-true, le-leb}
use mathlib.Core.Bool.{false≢true}
use native.Mathlib.Decide.{ℕ_discrete, dec_lt}
use borrow.Author.Tests.{lt-leb}
use Rattle.definition.specs.Notation.{any}
use Rattle.definition.specs.Width.{Width, bits, addresses}
use Rattle.definition.specs.Width.Width.{Bits16, Bits32, Bits64}
use Rattle.definition.specs.Request.{position, is_too_high, is_too_far}
use Rattle.pointer.specs.declared.width.Width as code
use Rattle.pointer.specs.Width.{width_of, declared_width, is_width, width_at, IsWidthOf}
use Rattle.definition.proofs.ValidMemory.{some-address}

pub above-last : (w : Width) {last : ℕ} (address : ℕ) → last ≡ addresses w - 1 → ltb last address ≡ is_too_high w address
above-last w {last} address e =
    elim (dec_lt last address) [
      | yes l ↦ lt-ltb last address l ∙ sym (le-leb (addresses w) address (omega (arith, some-address w)))
      | no l ↦ le-ltb last address (omega arith) ∙ sym (lt-leb (addresses w) address (omega (arith, some-address w)))
    ]

pub none-far : (bytes : List ℕ) → any (is_too_far Bits64) bytes ≡ false
unfolding any is_too_far
none-far [] = refl
none-far (b ∷ bytes) = rw (lt-leb 8 (position b) (omega arith)) (none-far bytes)

-- 2^64 is a multiple of the number of addresses
pub wraps-further : (w : Width) (n : ℕ) → n % 2 ^ 64 % addresses w ≡ n % addresses w
wraps-further Bits16 n = omega arith
wraps-further Bits32 n = omega arith
wraps-further Bits64 n = omega arith

pub declared_same : (w : code.Width) → w ≡ declared_width (width_of w)
declared_same code.TheVariants.Bits16 = refl
declared_same code.TheVariants.Bits32 = refl
declared_same code.TheVariants.Bits64 = refl

-- ---- the width as the number of its bits
pub width-number : (w : Width) → (is_width (bits w) ≡ true) × (width_at (bits w) ≡ w)
unfolding is_width width_at
width-number Bits16 = (refl, refl)
width-number Bits32 = (refl, refl)
width-number Bits64 = (refl, refl)

pub number-width : (n : ℕ) → is_width n ≡ true → n ≡ bits (width_at n)
unfolding is_width width_at
number-width n e =
    elim (ℕ_discrete n 16) [
      | yes a ↦ rw (eq-eqb n 16 a) a
      | no a ↦
          elim (ℕ_discrete n 32) [
            | yes b ↦ rw (ne_eqb n 16 a, eq-eqb n 32 b) b
            | no b ↦ rw (ne_eqb n 16 a, ne_eqb n 32 b) (eqb-true n 64 (rw (ne_eqb n 16 a, ne_eqb n 32 b) at e))
          ]
    ]

-- ---- any other number is no width
pub no-width : (n : ℕ) → (n ≡ 16 → ⊥) → (n ≡ 32 → ⊥) → (n ≡ 64 → ⊥) → is_width n ≡ false
unfolding is_width
no-width n a b c = rw (ne_eqb n 16 a, ne_eqb n 32 b, ne_eqb n 64 c)

at-no-width : (n : ℕ) → is_width n ≡ false → width_at n ≡ Bits64
unfolding is_width width_at
at-no-width n e =
    elim (ℕ_discrete n 16) [
      | yes a ↦ absurd (false≢true (sym (rw (eq-eqb n 16 a) at e)))
      | no a ↦
          elim (ℕ_discrete n 32) [
            | yes b ↦ absurd (false≢true (sym (rw (ne_eqb n 16 a, eq-eqb n 32 b) at e)))
            | no b ↦ rw (ne_eqb n 16 a, ne_eqb n 32 b)
          ]
    ]

-- ---- what `try_from` gives, read as a flag, and as a width
pub gives-width : (n : ℕ) (r : Result code.Width NoWidth) → IsWidthOf n r → is_ok r ≡ is_width n
gives-width n (Ok w) e = rw e (sym (width-number (width_of w)).0)
gives-width n (Err x) e = sym e.1

pub gives-width-at : (n : ℕ) (r : Result code.Width NoWidth) → IsWidthOf n r → width_of (result_unwrap_or r code.TheVariants.Bits64) ≡ width_at n
gives-width-at n (Ok w) e = rw e (sym (width-number (width_of w)).1)
gives-width-at n (Err x) e = sym (at-no-width n e.1)
