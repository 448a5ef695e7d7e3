-- General laws: of products, and of lists whose parts are replaced.
use Prim.Native.Nat.{ℕ, zero, suc, ◌+◌, ◌-◌, ◌*◌, ◌^◌, ◌≤◌, ◌<◌}
use mathlib.Core.Path.{◌≡◌, ap, ◌∙◌}
use mathlib.Core.List.{List, ◌++◌, append-nil}
use native.Mathlib.Nat.{mul-zero, zero-mul, suc-mul, le_of_lt, lt_of_le_of_lt, mul-le-mul_left, mul-lt-mul_of_pos_right}
use native.Mathlib.Omega.{arith}
use lib.Dec.{lit<}
use lib.ListN.{length, take, drop, length-drop, drop_of_length-le}
use lib.Seq.{drop-append-add, drop-drop, take_at, drop_at, length-take-le}

-- ---- products
pub product-fits : (a b : ℕ) → a < 2 ^ 32 → b < 2 ^ 32 → a * b < 2 ^ 64
product-fits a b h l = lt_of_le_of_lt (mul-le-mul_left a (le_of_lt l)) (mul-lt-mul_of_pos_right h (lit< tt))

-- a factor of a product that is not 0
pub factor-above : (a b : ℕ) → (a * b ≡ 0 → ⊥) → 0 < b
factor-above a zero n = absurd (n (mul-zero a))
factor-above a (suc b) n = omega arith

pub factor-within : (a b : ℕ) → (a * b ≡ 0 → ⊥) → b ≤ a * b
factor-within zero b n = absurd (n (zero-mul b))
factor-within (suc a) b n = omega (arith, suc-mul a b)

-- ---- a list whose parts are replaced
module _ {A : Type 0} where
  -- a list whose part from n on was replaced, as it comes back: its front, and that part
  module _ (n : ℕ) (xs ys : List A) (h : n ≤ length xs) where
    pub replaced : take n xs ++ (ys ++ drop (length xs - n) (drop n xs)) ≡ take n xs ++ ys
    replaced =
        let l : length (drop n xs) ≤ length xs - n = omega (arith, length-drop n xs) in
        rw (drop_of_length-le (drop n xs) l, append-nil ys)

    pub replaced-front : length (take n (take n xs ++ (ys ++ drop (length xs - n) (drop n xs)))) ≡ n
    replaced-front = rw (replaced, take_at (take n xs) ys n (length-take-le n xs h)) (length-take-le n xs h)

    pub replaced-rest : drop n (take n xs ++ (ys ++ drop (length xs - n) (drop n xs))) ≡ ys
    replaced-rest = rw (replaced) (drop_at (take n xs) ys n (length-take-le n xs h))

  -- what lies behind a first part that took the place of as many
  pub drop-behind : (n : ℕ) (ys xs : List A) → length ys ≤ n → drop n (ys ++ drop (length ys) xs) ≡ drop n xs
  drop-behind n ys xs h =
      let e : length ys + (n - length ys) ≡ n = omega arith in
      let d : drop (length ys + (n - length ys)) (ys ++ drop (length ys) xs) ≡ drop (n - length ys) (drop (length ys) xs) =
      drop-append-add ys (drop (length ys) xs) (n - length ys) in
      (rw e at d) ∙ (drop-drop (n - length ys) (length ys) xs ∙ ap (λ (k : ℕ). drop k xs) e)
