-- A word's signed length as a number of 64 bits.
use Prim.Native.Nat.{ℕ, ◌^◌, ◌<◌}
use mathlib.Core.Path.{◌≡◌, refl, ap, ◌∙◌}
use native.Mathlib.Decide.{dec_lt}
use native.Mathlib.Omega.{arith}
use lib.IntN.{ℤ}
use mir.Syntax.{w32, w64}
use mir.Val.{SFits, of_z, to_z}
use mir.ValLaws.{to_z-Fits, of_z-to_z}
use mir.Facts.{to_z-of_z}
use borrow.Author.Tests.{lt-ltb, le-ltb}
use Rattle.definition.specs.Request.{bytes_back, bytes_ahead}
use Rattle.pointer.specs.Pointer.{back, ahead}

-- what a number reaches is what the word w says
abbrev pub Reaches : ℤ → ℕ → Type 0
Reaches z w = (back z ≡ bytes_back w) × (ahead z ≡ bytes_ahead w)

-- the number of 32 bits that has the word's bits
in_two's_complement : (w : ℕ) → w < 2 ^ 32 → Reaches (to_z w32 w) w
in_two's_complement w h =
    elim (dec_lt w (2 ^ 31)) [
      | yes l ↦ rw (lt-ltb w (2 ^ 31) l) (refl, refl)
      | no g ↦ rw (le-ltb w (2 ^ 31) (omega arith)) (omega arith, refl)
    ]

-- the same number as one of 64 bits
widened : (w : ℕ) → w < 2 ^ 32 → to_z w64 (of_z w64 (to_z w32 (of_z w32 (to_z w32 w)))) ≡ to_z w32 w
widened w h =
    let fits : SFits w64 (to_z w32 w) = record { sfits = omega (arith, (to_z-Fits w32 w (record { fits = h })).sfits) } in
    ap (λ (n : ℕ). to_z w64 (of_z w64 (to_z w32 n))) (of_z-to_z w32 w (record { fits = h })) ∙ to_z-of_z fits

pub reaches : (z : ℤ) (w : ℕ) → z ≡ to_z w32 w → w < 2 ^ 32 → Reaches (to_z w64 (of_z w64 (to_z w32 (of_z w32 z)))) w
reaches z w e h = rw (e, widened w h) (in_two's_complement w h)
