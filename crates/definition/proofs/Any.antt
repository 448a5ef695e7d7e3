-- Laws of `any`.
use Rattle.std.specs.Prelude.{if◌then◌else◌}
use Prim.Native.Nat.{ℕ, zero, suc, ◌+◌, ◌<◌}
use mathlib.Core.Path.{◌≡◌, refl, ap, ap₂}
use mathlib.Core.Bool.{Bool, true, false, ◌||◌}
use mathlib.Core.List.{List, [], ◌∷◌, ◌++◌}
use native.Mathlib.Numerals.{add-one}
use native.Mathlib.Omega.{arith}
use lib.ListN.{length, get_or, drop}
use lib.Seq.{drop-cons}
use Rattle.definition.specs.Notation.{map_from, any}
use Rattle.definition.specs.Valid.{All}
use Rattle.std.specs.List.{list_any}

-- ---- a loop that looks for one: at i, among those from i on
module _ {A : Type 0} (test : A → Bool) (d : A) (l : List A) (i : ℕ) where
  any_step : i < length l → any test (drop i l) ≡ (if test (get_or l i d) then true else any test (drop (i + 1) l))
  unfolding any
  any_step h = rw (add-one i) (ap (any test) (drop-cons l i d h))

-- ---- by the places: one that passes, or none
module _ {A : Type 0} (test : A → Bool) (d : A) where
  pub any_at : (l : List A) (n : ℕ) → n < length l → test (get_or l n d) ≡ true → any test l ≡ true
  unfolding any
  any_at [] n h e = absurd (omega arith)
  any_at (x ∷ xs) zero h e = rw e
  any_at (x ∷ xs) (suc n) h e = by (test x) (any_at xs n (omega arith) e)
    where
      by : (b : Bool) → any test xs ≡ true → (if b then true else any test xs) ≡ true
      by true q = refl
      by false q = q

  pub any_none : (l : List A) → ((n : ℕ) → n < length l → test (get_or l n d) ≡ false) → any test l ≡ false
  unfolding any
  any_none [] h = refl
  any_none (x ∷ xs) h = rw (h 0 (omega arith)) (any_none xs (λ n k. h (suc n) (omega arith)))

  -- tests that agree at each place
  pub any_same : (test' : A → Bool) (l : List A) → ((n : ℕ) → n < length l → test (get_or l n d) ≡ test' (get_or l n d)) → any test l ≡ any test' l
  unfolding any
  any_same test' [] h = refl
  any_same test' (x ∷ xs) h = rw (h 0 (omega arith), any_same test' xs (λ n k. h (suc n) (omega arith)))

-- none passes (`none_pass` is the other way)
pub none_any : {A : Type 0} (test : A → Bool) (l : List A) → All (λ x. test x ≡ false) l → any test l ≡ false
unfolding any
none_any test [] h = refl
none_any test (x ∷ xs) h = rw h.0 (none_any test xs h.1)

-- ---- one element more
swap : (p q r : Bool) → (if p then true else (if q then true else r)) ≡ (if q then true else (if p then true else r))
swap true true r = refl
swap true false r = refl
swap false true r = refl
swap false false r = refl

pub any-more : {A : Type 0} (test : A → Bool) (xs : List A) (x : A) → any test (xs ++ (x ∷ [])) ≡ (if test x then true else any test xs)
unfolding any
any-more test [] x = refl
any-more test (y ∷ ys) x = rw (any-more test ys x) (swap (test y) (test x) (any test ys))

-- ---- elements changed in a way that the test does not see
pub any-each : {A : Type 0} (test : A → Bool) (f : ℕ → A → A) → ((n : ℕ) (x : A) → test (f n x) ≡ test x) → (n : ℕ) (l : List A) → any test (map_from n f l) ≡ any test l
unfolding any map_from
any-each test f h n [] = refl
any-each test f h n (x ∷ xs) = ap₂ (λ (b c : Bool). if b then true else c) (h n x) (any-each test f h (suc n) xs)

-- ---- the library's word for it, in which an iterator's `any` answers
pub any_is_list_any : {A : Type 0} (test : A → Bool) (l : List A) → any test l ≡ list_any test l
unfolding any
any_is_list_any test [] = refl
any_is_list_any test (x ∷ xs) = rw (any_is_list_any test xs) (by (test x))
  where
    by : (b : Bool) → (if b then true else list_any test xs) ≡ b || list_any test xs
    by true = refl
    by false = refl
