-- Booleans, and refusals combined by `when` and `or`, taken apart.
use Prim.Native.Nat.{ℕ, zero, suc, ◌+◌, ◌≤◌, ◌<◌}
use mathlib.Core.Path.{◌≡◌, refl, sym, subst}
use mathlib.Core.Bool.{Bool, true, false, not, ◌&&◌, ◌||◌, false≢true}
use mathlib.Core.Logic.{⊎_elim}
use native.Mathlib.Nat.{eq-or-lt_of_le}
use native.Mathlib.Omega.{arith}
use lib.Dec.{T, leb, ltb}
use borrow.Author.Tests.{le-leb, lt-leb, ltb-true, ltb-false}
use Rattle.definition.specs.Notation.{◌when◌, ◌or◌}

-- ---- `&&`, `||`, `not`
pub and_left : (a b : Bool) → a && b ≡ true → a ≡ true
and_left true b e = refl
and_left false b e = e

pub and_right : (a b : Bool) → a && b ≡ true → b ≡ true
and_right true b e = e
and_right false b e = absurd (false≢true e)

pub or-neither : (a b : Bool) → a || b ≡ false → (a ≡ false) × (b ≡ false)
or-neither true b e = absurd (false≢true (sym e))
or-neither false b e = (refl, e)

pub or-taken : (a b : Bool) → a ≡ true → a || b ≡ true
or-taken true b e = refl
or-taken false b e = absurd (false≢true e)

pub or-skip : (a b : Bool) → a ≡ false → a || b ≡ b
or-skip true b e = absurd (false≢true (sym e))
or-skip false b e = refl

pub not-not-false : (b : Bool) → not b ≡ false → b ≡ true
not-not-false true e = refl
not-not-false false e = sym e

-- ---- `ltb` and `leb`
pub ltb-leb : (a b : ℕ) → ltb a b ≡ not (leb b a)
ltb-leb a b = go (ltb a b) refl
  where
    go : (t : Bool) → ltb a b ≡ t → t ≡ not (leb b a)
    go true e = rw (lt-leb b a (ltb-true a b e))
    go false e = rw (le-leb b a (ltb-false a b e))

-- ---- a test that passes, as `T`
pub T-left : (a b : Bool) → T (a && b) → T a
T-left true b t = tt
T-left false b t = t

pub T-right : (a b : Bool) → T (a && b) → T b
T-right true b t = t
T-right false b t = absurd t

-- a computed test of the numbers lo, lo + 1, .. , n of them
abbrev pub every : (ℕ → Bool) → ℕ → ℕ → Bool
every f lo zero = true
every f lo (suc n) = f lo && every f (suc lo) n

pub in-range : (f : ℕ → Bool) (lo n : ℕ) → T (every f lo n) → (k : ℕ) → lo ≤ k → k < lo + n → T (f k)
in-range f lo zero t k a b = absurd (omega arith)
in-range f lo (suc n) t k a b =
    ⊎_elim (λ e. subst (λ (m : ℕ). T (f m)) e (T-left (f lo) (every f (suc lo) n) t))
    (λ l. in-range f (suc lo) n (T-right (f lo) (every f (suc lo) n) t) k l (omega arith))
    (eq-or-lt_of_le a)

-- ---- refusals
-- the later of two matters only where the earlier is none
pub or_later : (x y y' : ℕ) → (x ≡ 0 → y ≡ y') → (x or y) ≡ (x or y')
or_later zero y y' h = h refl
or_later (suc x) y y' h = refl

pub or_assoc : (x y z : ℕ) → ((x or y) or z) ≡ (x or (y or z))
or_assoc zero y z = refl
or_assoc (suc x) y z = refl

pub or-none : (x : ℕ) → (x or 0) ≡ x
or-none zero = refl
or-none (suc x) = refl

pub or_left : (x y : ℕ) → (x or y) ≡ 0 → x ≡ 0
or_left zero y e = refl
or_left (suc x) y e = e

pub or_right : (x y : ℕ) → (x or y) ≡ 0 → y ≡ 0
or_right zero y e = e
or_right (suc x) y e = absurd (omega arith)

pub when-none : (n : ℕ) (b : Bool) → (suc n when b) ≡ 0 → b ≡ false
when-none n true e = absurd (omega arith)
when-none n false e = refl
