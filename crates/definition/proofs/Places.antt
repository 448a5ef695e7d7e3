-- What stands at a place of a list.
use Prim.Native.Nat.{ℕ, zero, suc, ◌+◌, ◌<◌}
use mathlib.Core.Path.{◌≡◌, refl, sym, ap, subst, ◌∙◌}
use mathlib.Core.List.{List, [], ◌∷◌, ◌++◌, map}
use native.Mathlib.Nat.{zero-add, add-zero}
use native.Mathlib.Omega.{arith}
use lib.ListN.{length, get_or, set}
use Rattle.definition.specs.Notation.{map_from, mutate_at}
use Rattle.definition.specs.Memory.{Memory, no_allocation, allocation_at}
use Rattle.definition.specs.Valid.{All, AllFrom, ValidAllocation, Valid}

module _ {A : Type 0} where
  -- what holds of each element, and of each and its number, holds of the one at place i
  pub all-at : (P : A → Type 0) (l : List A) (i : ℕ) (d : A) → All P l → i < length l → P (get_or l i d)
  all-at P [] i d a h = absurd (omega arith)
  all-at P (x ∷ xs) zero d a h = a.0
  all-at P (x ∷ xs) (suc i) d a h = all-at P xs i d a.1 (omega arith)

  all_from-place : (P : ℕ → A → Type 0) (d : A) (n : ℕ) (l : List A) → AllFrom n P l → (i : ℕ) → i < length l → P (n + i) (get_or l i d)
  all_from-place P d n [] a i h = absurd (omega arith)
  all_from-place P d n (x ∷ xs) a zero h = subst (λ (k : ℕ). P k x) (sym (add-zero n)) a.0
  all_from-place P d n (x ∷ xs) a (suc i) h = subst (λ (k : ℕ). P k (get_or xs i d)) (omega arith) (all_from-place P d (suc n) xs a.1 i (omega arith))

  pub all_from_at : (P : ℕ → A → Type 0) (d : A) (l : List A) → AllFrom 0 P l → (i : ℕ) → i < length l → P i (get_or l i d)
  all_from_at P d l a i h = subst (λ (k : ℕ). P k (get_or l i d)) (zero-add i) (all_from-place P d 0 l a i h)

  each-place : {B : Type 0} (f : ℕ → A → B) (d : A) (e : B) (n : ℕ) (l : List A) (i : ℕ) → i < length l → get_or (map_from n f l) i e ≡ f (n + i) (get_or l i d)
  unfolding map_from
  each-place f d e n [] i h = absurd (omega arith)
  each-place f d e n (x ∷ xs) zero h = ap (λ (k : ℕ). f k x) (sym (add-zero n))
  each-place f d e n (x ∷ xs) (suc i) h = each-place f d e (suc n) xs i (omega arith) ∙ ap (λ (k : ℕ). f k (get_or xs i d)) (omega arith)

  pub each_at : {B : Type 0} (f : ℕ → A → B) (d : A) (e : B) (l : List A) (i : ℕ) → i < length l → get_or (map_from 0 f l) i e ≡ f i (get_or l i d)
  each_at f d e l i h = each-place f d e 0 l i h ∙ ap (λ (k : ℕ). f k (get_or l i d)) (zero-add i)

  pub mutate-here : (f : A → A) (d : A) (l : List A) (n : ℕ) → n < length l → get_or (mutate_at n f l) n d ≡ f (get_or l n d)
  unfolding mutate_at
  mutate-here f d [] n h = absurd (omega arith)
  mutate-here f d (x ∷ xs) zero h = refl
  mutate-here f d (x ∷ xs) (suc n) h = mutate-here f d xs n (omega arith)

  -- only what f makes of the one element matters
  pub mutate-same : (f g : A → A) (d : A) (l : List A) (n : ℕ) → f (get_or l n d) ≡ g (get_or l n d) → mutate_at n f l ≡ mutate_at n g l
  unfolding mutate_at
  mutate-same f g d [] n e = refl
  mutate-same f g d (x ∷ xs) zero e = ap (λ (y : A). y ∷ xs) e
  mutate-same f g d (x ∷ xs) (suc n) e = ap (λ (l : List A). x ∷ l) (mutate-same f g d xs n e)

pub map_at : {A B : Type 0} (f : A → B) (d : A) (e : B) (l : List A) (i : ℕ) → i < length l → get_or (map f l) i e ≡ f (get_or l i d)
map_at f d e [] i h = absurd (omega arith)
map_at f d e (x ∷ l) zero h = refl
map_at f d e (x ∷ l) (suc i) h = map_at f d e l i (omega arith)

module _ {A : Type 0} (P : A → Type 0) (d : A) where
  -- what holds of the element at place k still does after a change at place n, if the change keeps it
  pub mutate-holds : (f : A → A) (l : List A) (n k : ℕ) → (n ≡ k → P (get_or l n d) → P (f (get_or l n d))) → P (get_or l k d) → P (get_or (mutate_at n f l) k d)
  unfolding mutate_at
  mutate-holds f [] n k h p = p
  mutate-holds f (x ∷ xs) zero zero h p = h refl p
  mutate-holds f (x ∷ xs) zero (suc k) h p = p
  mutate-holds f (x ∷ xs) (suc n) zero h p = p
  mutate-holds f (x ∷ xs) (suc n) (suc k) h p = mutate-holds f xs n k (λ e. h (ap suc e)) p

  -- and after another is set at place n, if that one has it
  pub set_holds : (l : List A) (n : ℕ) (x : A) (k : ℕ) → (n ≡ k → P (get_or l n d) → P x) → P (get_or l k d) → P (get_or (set l n x) k d)
  set_holds [] n x k h p = p
  set_holds (y ∷ l) zero x zero h p = h refl p
  set_holds (y ∷ l) zero x (suc k) h p = p
  set_holds (y ∷ l) (suc n) x zero h p = p
  set_holds (y ∷ l) (suc n) x (suc k) h p = set_holds l n x k (λ e. h (ap suc e)) p

  -- and after one more element, if that one has it where nothing stood
  pub append-holds : (l : List A) (x : A) (k : ℕ) → (k ≡ length l → P d → P x) → P (get_or l k d) → P (get_or (l ++ (x ∷ [])) k d)
  append-holds [] x zero h p = h refl p
  append-holds [] x (suc k) h p = p
  append-holds (y ∷ l) x zero h p = p
  append-holds (y ∷ l) x (suc k) h p = append-holds l x k (λ e. h (ap suc e)) p

-- ---- an allocation of a well-formed memory
pub valid-at : (m : Memory) (n : ℕ) → Valid m → n < length m → ValidAllocation (allocation_at m n)
valid-at m n v made = all-at ValidAllocation m n no_allocation v.each made
