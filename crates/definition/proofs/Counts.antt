-- How often, and in which order, numbers stand in a list; sums over lists; what a filter leaves.
use Rattle.std.specs.Prelude.{if◌then◌else◌}
use Prim.Native.Nat.{ℕ, zero, suc, ◌+◌, ◌≤◌, ◌<◌}
use mathlib.Core.Path.{◌≡◌, refl, sym, ap, subst, ◌∙◌}
use mathlib.Core.Bool.{Bool, true, false}
use mathlib.Core.Logic.{◌⊎◌, inl, inr, ⊎_elim}
use mathlib.Core.List.{List, [], ◌∷◌, ◌++◌}
use native.Mathlib.Nat.{zero-add}
use native.Mathlib.Decide.{ℕ_discrete}
use native.Mathlib.Omega.{arith}
use lib.Dec.{eqb}
use lib.ListN.{length, get_or, set}
use borrow.Author.Tests.{eq-eqb, ne_eqb}
use Rattle.definition.specs.Notation.{table_from, filter, sum_of}
use Rattle.definition.specs.Valid.{All}

-- how often j stands in a list
abbrev pub count : ℕ → List ℕ → ℕ
count j l = sum_of (λ n. if eqb n j then 1 else 0) l

-- j stands in a list
abbrev pub Member : ℕ → List ℕ → Type 0
Member j [] = ⊥
Member j (x ∷ xs) = (x ≡ j) ⊎ Member j xs

-- a stands in a list, and b later
abbrev pub Before : ℕ → ℕ → List ℕ → Type 0
Before a b [] = ⊥
Before a b (x ∷ xs) = ((x ≡ a) × Member b xs) ⊎ Before a b xs

-- ---- sums and counts
module _ {A : Type 0} where
  pub sum-append : (f : A → ℕ) (xs ys : List A) → sum_of f (xs ++ ys) ≡ sum_of f xs + sum_of f ys
  unfolding sum_of
  sum-append f [] ys = sym (zero-add (sum_of f ys))
  sum-append f (x ∷ xs) ys = omega (arith, sum-append f xs ys)

  pub sum-length : (l : List A) → sum_of (λ x. 1) l ≡ length l
  unfolding sum_of
  sum-length [] = refl
  sum-length (x ∷ xs) = omega (arith, sum-length xs)

-- one part of a sum
pub part-of-sum : {A : Type 0} (g : A → ℕ) (d : A) (l : List A) (n : ℕ) → n < length l → g (get_or l n d) ≤ sum_of g l
unfolding sum_of
part-of-sum g d [] n h = absurd (omega arith)
part-of-sum g d (x ∷ xs) zero h = omega arith
part-of-sum g d (x ∷ xs) (suc n) h = omega (arith, part-of-sum g d xs n (omega arith))

-- one element replaced; what stands where no element is counts 0
pub sum-set : {A : Type 0} (g : A → ℕ) (d : A) → g d ≡ 0 → (l : List A) (n : ℕ) (x : A) → sum_of g (set l n x) + g (get_or l n d) ≤ sum_of g l + g x
unfolding sum_of
sum-set g d z [] n x = omega arith
sum-set g d z (y ∷ l) zero x = omega arith
sum-set g d z (y ∷ l) (suc n) x = omega (arith, sum-set g d z l n x)

module _ (j : ℕ) where
  pub count-here : (x : ℕ) (xs : List ℕ) → x ≡ j → count j (x ∷ xs) ≡ suc (count j xs)
  unfolding sum_of
  count-here x xs e = rw (eq-eqb x j e) (omega arith)

  pub count-other : (x : ℕ) (xs : List ℕ) → (x ≡ j → ⊥) → count j (x ∷ xs) ≡ count j xs
  unfolding sum_of
  count-other x xs e = rw (ne_eqb x j e) (zero-add (count j xs))

  -- the numbers lo, lo + 1, .. , k of them, hold each of theirs once
  range-before : (lo k : ℕ) → j < lo → count j (table_from lo k (λ n. n)) ≡ 0
  unfolding table_from sum_of
  range-before lo zero h = refl
  range-before lo (suc k) h = count-other lo (table_from (suc lo) k (λ n. n)) (λ e. absurd (omega arith)) ∙ range-before (suc lo) k (omega arith)

  pub range-once : (lo k : ℕ) → lo ≤ j → j < lo + k → count j (table_from lo k (λ n. n)) ≡ 1
  unfolding table_from
  range-once lo zero a b = absurd (omega arith)
  range-once lo (suc k) a b =
      elim (ℕ_discrete lo j) [
        | yes e ↦ count-here lo (table_from (suc lo) k (λ n. n)) e ∙ ap suc (range-before (suc lo) k (omega arith))
        | no e ↦ count-other lo (table_from (suc lo) k (λ n. n)) e ∙ range-once (suc lo) k (omega arith) (omega arith)
      ]

  pub count_past : (k : ℕ) (l : List ℕ) → All (λ n. n < k) l → k ≤ j → count j l ≡ 0
  unfolding sum_of
  count_past k [] a h = refl
  count_past k (x ∷ xs) a h = count-other x xs (λ e. absurd (omega (arith, a.0))) ∙ count_past k xs a.1 h

  pub counted-member : (l : List ℕ) → 0 < count j l → Member j l
  unfolding sum_of
  counted-member [] h = absurd (omega arith)
  counted-member (x ∷ xs) h = elim (ℕ_discrete x j) [ yes e ↦ inl e | no e ↦ inr (counted-member xs (omega (arith, count-other x xs e))) ]

-- ---- a list joined of two
module _ (j : ℕ) where
  pub member-left : (xs ys : List ℕ) → Member j xs → Member j (xs ++ ys)
  member-left [] ys m = absurd m
  member-left (x ∷ xs) ys m = ⊎_elim (λ e. inl e) (λ h. inr (member-left xs ys h)) m

  pub member_right : (xs ys : List ℕ) → Member j ys → Member j (xs ++ ys)
  member_right [] ys m = m
  member_right (x ∷ xs) ys m = inr (member_right xs ys m)

  pub member-split : (xs ys : List ℕ) → Member j (xs ++ ys) → Member j xs ⊎ Member j ys
  member-split [] ys m = inr m
  member-split (x ∷ xs) ys m = ⊎_elim (λ e. inl (inl e)) (λ h. ⊎_elim (λ l. inl (inr l)) (λ r. inr r) (member-split xs ys h)) m

module _ (a b : ℕ) where
  pub before-left : (xs ys : List ℕ) → Before a b xs → Before a b (xs ++ ys)
  before-left [] ys h = absurd h
  before-left (x ∷ xs) ys h = ⊎_elim (λ e. inl (e.0, member-left b xs ys e.1)) (λ l. inr (before-left xs ys l)) h

  pub before-right : (xs ys : List ℕ) → Before a b ys → Before a b (xs ++ ys)
  before-right [] ys h = h
  before-right (x ∷ xs) ys h = inr (before-right xs ys h)

-- ---- what a filter leaves
module _ {A : Type 0} (test : A → Bool) where
  pub filter-in : (x : A) (xs : List A) → test x ≡ true → filter test (x ∷ xs) ≡ x ∷ filter test xs
  unfolding filter
  filter-in x xs e = rw e

  pub filter-out : (x : A) (xs : List A) → test x ≡ false → filter test (x ∷ xs) ≡ filter test xs
  unfolding filter
  filter-out x xs e = rw e

  pub filter-append : (xs ys : List A) → filter test (xs ++ ys) ≡ filter test xs ++ filter test ys
  unfolding filter
  filter-append [] ys = refl
  filter-append (x ∷ xs) ys = ap (λ (l : List A). if test x then x ∷ l else l) (filter-append xs ys) ∙ go (test x)
    where
      go : (t : Bool) → (if t then x ∷ (filter test xs ++ filter test ys) else filter test xs ++ filter test ys)
          ≡ (if t then x ∷ filter test xs else filter test xs) ++ filter test ys
      go true = refl
      go false = refl

  pub filter-all : ((x : A) → test x ≡ true) → (l : List A) → filter test l ≡ l
  unfolding filter
  filter-all h [] = refl
  filter-all h (x ∷ xs) = rw (h x) (ap (λ (l : List A). x ∷ l) (filter-all h xs))

  pub filter_none : ((x : A) → test x ≡ false) → (l : List A) → filter test l ≡ []
  unfolding filter
  filter_none h [] = refl
  filter_none h (x ∷ xs) = rw (h x) (filter_none h xs)

  pub filter-kept : (P : A → Type 0) (l : List A) → All P l → All P (filter test l)
  unfolding filter
  filter-kept P [] a = tt
  filter-kept P (x ∷ xs) a = go (test x) (filter-kept P xs a.1)
    where
      go : (t : Bool) → All P (filter test xs) → All P (if t then x ∷ filter test xs else filter test xs)
      go true h = (a.0, h)
      go false h = h

module _ (test : ℕ → Bool) where
  pub count-filter : (j : ℕ) (l : List ℕ) → count j (filter test l) ≡ (if test j then count j l else 0)
  unfolding filter sum_of
  count-filter j [] = either (test j) 0
    where
      either : (t : Bool) (n : ℕ) → n ≡ (if t then n else n)
      either true n = refl
      either false n = refl
  count-filter j (x ∷ xs) =
      elim (ℕ_discrete x j) [
        | yes e ↦ ap (λ (y : ℕ). count j (if test y then x ∷ filter test xs else filter test xs)) e ∙ same e (test j) (count-filter j xs)
        | no e ↦ other e (test x) ∙ count-filter j xs ∙ ap (λ (c : ℕ). if test j then c else 0) (sym (count-other j x xs e))
      ]
    where
      same : x ≡ j → (t : Bool) → count j (filter test xs) ≡ (if t then count j xs else 0)
          → count j (if t then x ∷ filter test xs else filter test xs) ≡ (if t then count j (x ∷ xs) else 0)
      same e true ih = count-here j x (filter test xs) e ∙ ap suc ih ∙ sym (count-here j x xs e)
      same e false ih = ih

      other : (x ≡ j → ⊥) → (t : Bool) → count j (if t then x ∷ filter test xs else filter test xs) ≡ count j (filter test xs)
      other e true = count-other j x (filter test xs) e
      other e false = refl

  pub member_filter : (j : ℕ) → test j ≡ true → (l : List ℕ) → Member j l → Member j (filter test l)
  unfolding filter
  member_filter j t [] m = m
  member_filter j t (x ∷ xs) m =
      ⊎_elim (λ e. subst (λ (b : Bool). Member j (if b then x ∷ filter test xs else filter test xs)) (sym (ap test e ∙ t)) (inl e)) (λ h. keep (test x) (member_filter j t xs h)) m
    where
      keep : (b : Bool) → Member j (filter test xs) → Member j (if b then x ∷ filter test xs else filter test xs)
      keep true h = inr h
      keep false h = h

  pub before-filter : (a b : ℕ) → test a ≡ true → test b ≡ true → (l : List ℕ) → Before a b l → Before a b (filter test l)
  unfolding filter
  before-filter a b t u [] h = h
  before-filter a b t u (x ∷ xs) h =
      ⊎_elim
      (λ e. subst (λ (k : Bool). Before a b (if k then x ∷ filter test xs else filter test xs)) (sym (ap test e.0 ∙ t)) (inl (e.0, member_filter b u xs e.1)))
      (λ l. keep (test x) (before-filter a b t u xs l)) h
    where
      keep : (k : Bool) → Before a b (filter test xs) → Before a b (if k then x ∷ filter test xs else filter test xs)
      keep true h = inr h
      keep false h = h
