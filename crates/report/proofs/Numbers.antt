-- The digits of numbers, one after the other.
use Prim.Native.Nat.{ℕ, zero, suc, ◌+◌, ◌-◌, ◌/◌, ◌%◌, ◌^◌, ◌≤◌, ◌<◌}
use mathlib.Core.Bool.{Bool, true, false}
use mathlib.Core.List.{List, [], ◌∷◌, ◌++◌, append_assoc}
use mathlib.Core.Path.{◌≡◌, refl, sym, ap, ◌∙◌}
use native.Mathlib.Decide.{dec_lt}
use native.Mathlib.Nat.{pow-suc}
use native.Mathlib.Omega.{arith}
use borrow.Author.Tests.{lt-ltb, le-ltb}
use lib.ListN.{length, length-append}
use Rattle.definition.specs.Output.{digit, decimal_within, decimal, hexadecimal}
use Rattle.report.specs.Digits.{two}

-- ---- a digit
pub digit_low : (n : ℕ) → n < 10 → n + 48 ≡ digit n
unfolding digit
digit_low n h = rw (lt-ltb n 10 h) (omega arith)

pub digit-high : (n : ℕ) → 10 ≤ n → n - 10 + 97 ≡ digit n
unfolding digit
digit-high n h = rw (le-ltb n 10 h) (omega arith)

pub ruleset digits = (digit_low, digit-high)

-- ---- decimal
-- the digits before the last, if there are any
abbrev split : Bool → ℕ → ℕ → List ℕ
split small most n = elim small [ true ↦ digit n ∷ [] | false ↦ decimal_within most (n / 10) ++ (digit (n % 10) ∷ []) ]

within-one : (most n : ℕ) → n < 10 → decimal_within most n ≡ digit n ∷ []
unfolding decimal_within
within-one zero n h = refl
within-one (suc most) n h = ap (λ (b : Bool). split b most n) (lt-ltb n 10 h)

within_more : (most n : ℕ) → 10 ≤ n → decimal_within (suc most) n ≡ decimal_within most (n / 10) ++ (digit (n % 10) ∷ [])
unfolding decimal_within
within_more most n h = ap (λ (b : Bool). split b most n) (le-ltb n 10 h)

-- n and more are enough
within-enough : (most more n : ℕ) → n ≤ most → n ≤ more → decimal_within most n ≡ decimal_within more n
within-enough zero more n h k = within-one zero n (omega arith) ∙ sym (within-one more n (omega arith))
within-enough (suc most) zero n h k = within-one (suc most) n (omega arith) ∙ sym (within-one zero n (omega arith))
within-enough (suc most) (suc more) n h k =
    elim (dec_lt n 10) [
      | yes l ↦ within-one (suc most) n l ∙ sym (within-one (suc more) n l)
      | no l ↦
          within_more most n (omega arith)
          ∙ ap (λ (t : List ℕ). t ++ (digit (n % 10) ∷ [])) (within-enough most more (n / 10) (omega arith) (omega arith))
          ∙ sym (within_more more n (omega arith))
    ]

pub decimal-one : (n : ℕ) → n < 10 → decimal n ≡ digit n ∷ []
unfolding decimal
decimal-one n h = within-one n n h

pub decimal-more : (n : ℕ) → 10 ≤ n → decimal n ≡ decimal (n / 10) ++ (digit (n % 10) ∷ [])
unfolding decimal
decimal-more n h =
    let e : n ≡ suc (n - 1) = omega arith in
    ap (λ (k : ℕ). decimal_within k n) e ∙ within_more (n - 1) n h
    ∙ ap (λ (t : List ℕ). t ++ (digit (n % 10) ∷ [])) (within-enough (n - 1) (n / 10) (n / 10) (omega arith) (omega arith))

-- ---- the last digits, behind those of the number without them
pub decimal-two : (n : ℕ) → 10 ≤ n → n < 100 → decimal n ≡ two n
decimal-two n h k = decimal-more n h ∙ ap (λ (t : List ℕ). t ++ (digit (n % 10) ∷ [])) (decimal-one (n / 10) (omega arith))

pub more-two : (n : ℕ) → 100 ≤ n → decimal n ≡ decimal (n / 100) ++ two (n % 100)
more-two n h =
    let e : n / 10 / 10 ≡ n / 100 = omega arith in
    let d : n / 10 % 10 ≡ n % 100 / 10 = omega arith in
    let f : n % 10 ≡ n % 100 % 10 = omega arith in
    decimal-more n (omega arith)
    ∙ ap (λ (t : List ℕ). t ++ (digit (n % 10) ∷ [])) (decimal-more (n / 10) (omega arith))
    ∙ append_assoc (decimal (n / 10 / 10)) (digit (n / 10 % 10) ∷ []) (digit (n % 10) ∷ [])
    ∙ ap (λ (q : ℕ). decimal q ++ (digit (n / 10 % 10) ∷ digit (n % 10) ∷ [])) e
    ∙ ap (λ (q : ℕ). decimal (n / 100) ++ (digit q ∷ digit (n % 10) ∷ [])) d
    ∙ ap (λ (q : ℕ). decimal (n / 100) ++ (digit (n % 100 / 10) ∷ digit q ∷ [])) f

-- a number below 10 to the k + 1 has at most k + 1 digits
decimal-short : (k n : ℕ) → n < 10 ^ suc k → length (decimal n) ≤ suc k
decimal-short zero n h = omega (arith, ap length (decimal-one n (omega arith)))
decimal-short (suc k) n h =
    elim (dec_lt n 10) [
      | yes l ↦ omega (arith, ap length (decimal-one n l))
      | no l ↦
          let q : n / 10 < 10 ^ suc k = omega (arith, pow-suc 10 (suc k)) in
          omega (
            arith,
            ap length (decimal-more n (omega arith)),
            length-append (decimal (n / 10)) (digit (n % 10) ∷ []),
            decimal-short k (n / 10) q,
          )
    ]

pub decimal-length : (n : ℕ) → n < 2 ^ 64 → length (decimal n) ≤ 20
decimal-length n h = decimal-short 19 n (omega arith)

-- ---- hexadecimal
pub hex-length : (digits n : ℕ) → length (hexadecimal digits n) ≡ digits
unfolding hexadecimal
hex-length zero n = refl
hex-length (suc digits) n = ap suc (hex-length digits n)
