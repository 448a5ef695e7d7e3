-- What holds of each element, under the list words of `Notation`; what a change of one element does to a sum; and what holds of both branches of a choice.
use Rattle.std.specs.Prelude.{if◌then◌else◌}
use Prim.Native.Nat.{ℕ, zero, suc, ◌+◌, ◌≤◌, ◌<◌}
use mathlib.Core.Path.{◌≡◌, refl, sym, ap, subst, ◌∙◌}
use mathlib.Core.Bool.{Bool, true, false, false≢true}
use mathlib.Core.List.{List, [], ◌∷◌, ◌++◌, map}
use native.Mathlib.Nat.{add-zero, add-suc, suc-add, le_refl}
use native.Mathlib.Omega.{arith}
use lib.ListN.{length, get_or, take, drop, set, replicate}
use Rattle.definition.specs.Notation.{map_from, mutate_at, write_at, any, sum_of}
use Rattle.definition.specs.Memory.{Answer, unless_refused}
use Rattle.definition.specs.Valid.{All, AllFrom}

-- ---- a choice, and an outcome: P of each that can come
pub if-holds : {A : Type 0} (P : A → Type 0) (b : Bool) (x y : A) → (b ≡ true → P x) → (b ≡ false → P y) → P (if b then x else y)
if-holds P true x y f g = f refl
if-holds P false x y f g = g refl

pub outcome-holds : {S : Type 0} (P : S → Type 0) (r : ℕ) (before : S) (outcome : Answer × S) → P before → (r ≡ 0 → P outcome.1) → P (unless_refused r before outcome).1
outcome-holds P zero before outcome p h = h refl
outcome-holds P (suc r) before outcome p h = p

-- what is accepted was not refused
pub not-refused : {S : Type 0} (r : ℕ) (before : S) (outcome : Answer × S) → (unless_refused r before outcome).0.refusal ≡ 0 → r ≡ 0
not-refused zero before outcome e = refl
not-refused (suc r) before outcome e = e

-- ---- each element
module _ {A : Type 0} (P : A → Type 0) where
  pub all-imp : (Q : A → Type 0) → ((x : A) → P x → Q x) → (l : List A) → All P l → All Q l
  all-imp Q h [] p = tt
  all-imp Q h (x ∷ xs) p = (h x p.0, all-imp Q h xs p.1)

  pub all_both : (Q R : A → Type 0) → ((x : A) → P x → Q x → R x) → (l : List A) → All P l → All Q l → All R l
  all_both Q R h [] p q = tt
  all_both Q R h (x ∷ xs) p q = (h x p.0 q.0, all_both Q R h xs p.1 q.1)

  pub all-each : (f : ℕ → A → A) → ((n : ℕ) (x : A) → P x → P (f n x)) → (n : ℕ) (l : List A) → All P l → All P (map_from n f l)
  unfolding map_from
  all-each f h n [] p = tt
  all-each f h n (x ∷ xs) p = (h n x p.0, all-each f h (suc n) xs p.1)

  -- f is asked about element n alone, if there is one
  pub all-mutate : (f : A → A) (d : A) (n : ℕ) (l : List A) → (n < length l → P (get_or l n d) → P (f (get_or l n d))) → All P l → All P (mutate_at n f l)
  unfolding mutate_at
  all-mutate f d n [] h p = tt
  all-mutate f d zero (x ∷ xs) h p = (h (omega arith) p.0, p.1)
  all-mutate f d (suc n) (x ∷ xs) h p = (p.0, all-mutate f d n xs (λ b. h (omega arith)) p.1)

  pub all-write : (n : ℕ) (ys xs : List A) → All P ys → All P xs → All P (write_at n ys xs)
  unfolding write_at
  all-write n ys [] q p = tt
  all-write zero [] (x ∷ xs) q p = p
  all-write zero (y ∷ ys) (x ∷ xs) q p = (q.0, all-write zero ys xs q.1 p.1)
  all-write (suc n) ys (x ∷ xs) q p = (p.0, all-write n ys xs q p.1)

  pub all_set : (l : List A) (n : ℕ) (x : A) → All P l → P x → All P (set l n x)
  all_set [] n x p h = tt
  all_set (y ∷ ys) zero x p h = (h, p.1)
  all_set (y ∷ ys) (suc n) x p h = (p.0, all_set ys n x p.1 h)

  pub all_append : (xs ys : List A) → All P xs → All P ys → All P (xs ++ ys)
  all_append [] ys p q = q
  all_append (x ∷ xs) ys p q = (p.0, all_append xs ys p.1 q)

  pub all_replicate : (n : ℕ) (x : A) → P x → All P (replicate n x)
  all_replicate zero x h = tt
  all_replicate (suc n) x h = (h, all_replicate n x h)

  pub all_take : (n : ℕ) (l : List A) → All P l → All P (take n l)
  all_take zero l p = tt
  all_take (suc n) [] p = tt
  all_take (suc n) (x ∷ xs) p = (p.0, all_take n xs p.1)

  pub all_drop : (n : ℕ) (l : List A) → All P l → All P (drop n l)
  all_drop zero l p = p
  all_drop (suc n) [] p = tt
  all_drop (suc n) (x ∷ xs) p = all_drop n xs p.1

  pub all-last : (l : List A) (x : A) → All P (l ++ (x ∷ [])) → P x
  all-last [] x p = p.0
  all-last (y ∷ ys) x p = all-last ys x p.1

  pub all_get_d : (l : List A) (n : ℕ) (d : A) → All P l → P d → P (get_or l n d)
  all_get_d [] n d p h = h
  all_get_d (x ∷ xs) zero d p h = p.0
  all_get_d (x ∷ xs) (suc n) d p h = all_get_d xs n d p.1 h

pub all_map : {A B : Type 0} (P : B → Type 0) (f : A → B) → ((x : A) → P (f x)) → (l : List A) → All P (map f l)
all_map P f h [] = tt
all_map P f h (x ∷ xs) = (h x, all_map P f h xs)

-- a test that no element passes
neither : (b c : Bool) → (if b then true else c) ≡ false → (b ≡ false) × (c ≡ false)
neither true c e = absurd (false≢true (sym e))
neither false c e = (refl, e)

pub none_pass : {A : Type 0} (test : A → Bool) (l : List A) → any test l ≡ false → All (λ x. test x ≡ false) l
unfolding any
none_pass test [] e = tt
none_pass test (x ∷ xs) e = let h = neither (test x) (any test xs) e in (h.0, none_pass test xs h.1)

-- ---- each element and its number
module _ {A : Type 0} (P : ℕ → A → Type 0) where
  pub all_from-imp : (Q : ℕ → A → Type 0) → ((n : ℕ) (x : A) → P n x → Q n x) → (n : ℕ) (l : List A) → AllFrom n P l → AllFrom n Q l
  all_from-imp Q h n [] p = tt
  all_from-imp Q h n (x ∷ xs) p = (h n x p.0, all_from-imp Q h (suc n) xs p.1)

  pub all_from-each : (f : ℕ → A → A) → ((n : ℕ) (x : A) → P n x → P n (f n x)) → (n : ℕ) (l : List A) → AllFrom n P l → AllFrom n P (map_from n f l)
  unfolding map_from
  all_from-each f h n [] p = tt
  all_from-each f h n (x ∷ xs) p = (h n x p.0, all_from-each f h (suc n) xs p.1)

  pub all_from-mutate : (f : A → A) → ((n : ℕ) (x : A) → P n x → P n (f x)) → (n k : ℕ) (l : List A) → AllFrom n P l → AllFrom n P (mutate_at k f l)
  unfolding mutate_at
  all_from-mutate f h n k [] p = tt
  all_from-mutate f h n zero (x ∷ xs) p = (h n x p.0, p.1)
  all_from-mutate f h n (suc k) (x ∷ xs) p = (p.0, all_from-mutate f h (suc n) k xs p.1)

  pub all_from-append : (n : ℕ) (l : List A) (x : A) → AllFrom n P l → P (n + length l) x → AllFrom n P (l ++ (x ∷ []))
  all_from-append n [] x p h = (rw add-zero at h, tt)
  all_from-append n (y ∷ ys) x p h = (p.0, all_from-append (suc n) ys x p.1 (subst (λ (k : ℕ). P k x) (add-suc n (length ys) ∙ sym (suc-add n (length ys))) h))

-- ---- one element changed
module _ {A : Type 0} (f : A → A) (d : A) where
  module _ (g : A → ℕ) where
    -- a number that f does not lower is at every place what it was, or more
    pub mutated-least : ((x : A) → g x ≤ g (f x)) → (n k : ℕ) (l : List A) → g (get_or l k d) ≤ g (get_or (mutate_at n f l) k d)
    unfolding mutate_at
    mutated-least h n k [] = le_refl (g d)
    mutated-least h zero zero (x ∷ xs) = h x
    mutated-least h zero (suc k) (x ∷ xs) = le_refl (g (get_or xs k d))
    mutated-least h (suc n) zero (x ∷ xs) = le_refl (g x)
    mutated-least h (suc n) (suc k) (x ∷ xs) = mutated-least h n k xs

    -- the sum grows by no more than its part does
    pub sum-mutated : (more n : ℕ) (l : List A) → g (f (get_or l n d)) ≤ g (get_or l n d) + more → sum_of g (mutate_at n f l) ≤ sum_of g l + more
    unfolding sum_of mutate_at
    sum-mutated more n [] h = omega arith
    sum-mutated more zero (x ∷ xs) h = omega arith
    sum-mutated more (suc n) (x ∷ xs) h = let rest : sum_of g (mutate_at n f xs) ≤ sum_of g xs + more = sum-mutated more n xs h in omega arith

    pub sum_kept : (n : ℕ) (l : List A) → g (f (get_or l n d)) ≡ g (get_or l n d) → sum_of g (mutate_at n f l) ≡ sum_of g l
    unfolding sum_of mutate_at
    sum_kept n [] h = refl
    sum_kept zero (x ∷ xs) h = ap (λ (k : ℕ). k + sum_of g xs) h
    sum_kept (suc n) (x ∷ xs) h = ap (λ (k : ℕ). g x + k) (sum_kept n xs h)
