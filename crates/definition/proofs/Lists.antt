-- Laws of the list words of `Notation`; those of `write_at` are in `Writes`, those of `any` in `Any`.
use Prim.Native.Nat.{ℕ, zero, suc, ◌+◌, ◌≤◌, ◌<◌}
use mathlib.Core.Path.{◌≡◌, refl, sym, ap, ap₂, ◌∙◌}
use mathlib.Core.List.{List, [], ◌∷◌, ◌++◌, map}
use native.Mathlib.Nat.{zero-add, add-zero, add-suc, suc-add}
use native.Mathlib.Omega.{arith}
use lib.ListN.{length, get_or, take, drop, set}
use lib.Seq.{ext_get_or}
use Rattle.definition.specs.Notation.{◌or◌, first_refusal, table_from, table, map_from, mutate_at}
use Rattle.definition.proofs.Booleans.{or_assoc}

-- ---- the first refusal along a list
module _ {A : Type 0} where
  pub first-same : (f g : A → ℕ) → ((x : A) → f x ≡ g x) → (l : List A) → first_refusal f l ≡ first_refusal g l
  unfolding first_refusal
  first-same f g e [] = refl
  first-same f g e (x ∷ xs) = ap₂ ◌or◌ (e x) (first-same f g e xs)

  pub first-append : (f : A → ℕ) (xs ys : List A) → first_refusal f (xs ++ ys) ≡ (first_refusal f xs or first_refusal f ys)
  unfolding first_refusal
  first-append f [] ys = refl
  first-append f (x ∷ xs) ys = ap (λ (n : ℕ). f x or n) (first-append f xs ys) ∙ sym (or_assoc (f x) (first_refusal f xs) (first_refusal f ys))

  pub first-none : (f : A → ℕ) → ((x : A) → f x ≡ 0) → (l : List A) → first_refusal f l ≡ 0
  unfolding first_refusal
  first-none f e [] = refl
  first-none f e (x ∷ xs) = ap₂ ◌or◌ (e x) (first-none f e xs)

-- ---- each element with its number
module _ {A : Type 0} where
  pub each_same : {B : Type 0} (f g : ℕ → A → B) → ((n : ℕ) (x : A) → f n x ≡ g n x) → (n : ℕ) (l : List A) → map_from n f l ≡ map_from n g l
  unfolding map_from
  each_same f g h n [] = refl
  each_same f g h n (x ∷ xs) = ap₂ ◌∷◌ (h n x) (each_same f g h (suc n) xs)

  -- functions that agree at the numbers of the list
  pub each-same-below : {B : Type 0} (f g : ℕ → A → B) (n : ℕ) (l : List A) → ((k : ℕ) (x : A) → k < n + length l → f k x ≡ g k x) → map_from n f l ≡ map_from n g l
  unfolding map_from
  each-same-below f g n [] h = refl
  each-same-below f g n (x ∷ xs) h = ap₂ ◌∷◌ (h n x (omega arith)) (each-same-below f g (suc n) xs (λ k y l. h k y (omega arith)))

  pub each_append : {B : Type 0} (f : ℕ → A → B) (n : ℕ) (xs ys : List A) → map_from n f (xs ++ ys) ≡ map_from n f xs ++ map_from (n + length xs) f ys
  unfolding map_from
  each_append f n [] ys = ap (λ (k : ℕ). map_from k f ys) (sym (add-zero n))
  each_append f n (x ∷ xs) ys =
      ap {B = List _} (λ l. f n x ∷ l) (each_append f (suc n) xs ys ∙ ap (λ (k : ℕ). map_from (suc n) f xs ++ map_from k f ys) (suc-add n (length xs) ∙ sym (add-suc n (length xs))))

  -- the numbers counted by the function
  pub each-shift : {B : Type 0} (f : ℕ → A → B) (n : ℕ) (l : List A) → map_from (suc n) f l ≡ map_from n (λ k. f (suc k)) l
  unfolding map_from
  each-shift f n [] = refl
  each-shift f n (x ∷ xs) = ap {B = List _} (λ l. f (suc n) x ∷ l) (each-shift f (suc n) xs)

  -- one after another
  pub each-then : (f g h : ℕ → A → A) → ((n : ℕ) (x : A) → g n (f n x) ≡ h n x) → (n : ℕ) (l : List A) → map_from n g (map_from n f l) ≡ map_from n h l
  unfolding map_from
  each-then f g h e n [] = refl
  each-then f g h e n (x ∷ xs) = ap₂ ◌∷◌ (e n x) (each-then f g h e (suc n) xs)

  pub each-commute : (f g : ℕ → A → A) → ((n : ℕ) (x : A) → g n (f n x) ≡ f n (g n x)) → (n : ℕ) (l : List A) → map_from n g (map_from n f l) ≡ map_from n f (map_from n g l)
  each-commute f g h n l = each-then f g (λ k x. f k (g k x)) h n l ∙ sym (each-then g f (λ k x. f k (g k x)) (λ k x. refl) n l)

  pub each-id : (f : ℕ → A → A) → ((n : ℕ) (x : A) → f n x ≡ x) → (n : ℕ) (l : List A) → map_from n f l ≡ l
  unfolding map_from
  each-id f e n [] = refl
  each-id f e n (x ∷ xs) = ap₂ ◌∷◌ (e n x) (each-id f e (suc n) xs)

  pub each-length : {B : Type 0} (f : ℕ → A → B) (n : ℕ) (l : List A) → length (map_from n f l) ≡ length l
  unfolding map_from
  each-length f n [] = refl
  each-length f n (x ∷ xs) = ap suc (each-length f (suc n) xs)

  pub each_map : {B : Type 0} (g : A → B) (f : ℕ → A → A) → ((n : ℕ) (x : A) → g (f n x) ≡ g x) → (n : ℕ) (l : List A) → map g (map_from n f l) ≡ map g l
  unfolding map_from
  each_map g f h n [] = refl
  each_map g f h n (x ∷ xs) = ap₂ ◌∷◌ (h n x) (each_map g f h (suc n) xs)

  -- ---- tables
  pub table-length : (f : ℕ → A) (b n : ℕ) → length (table_from b n f) ≡ n
  unfolding table_from
  table-length f b zero = refl
  table-length f b (suc n) = ap suc (table-length f (suc b) n)

  pub table_at : (f : ℕ → A) (a n b : ℕ) (d : A) → b < n → get_or (table_from a n f) b d ≡ f (a + b)
  unfolding table_from
  table_at f a zero b d h = absurd (omega arith)
  table_at f a (suc n) zero d h = ap f (sym (add-zero a))
  table_at f a (suc n) (suc b) d h = table_at f (suc a) n b d (omega arith) ∙ ap f (suc-add a b ∙ sym (add-suc a b))

  pub table-map : {B : Type 0} (g : A → B) (f : ℕ → A) (a n : ℕ) → map g (table_from a n f) ≡ table_from a n (λ b. g (f b))
  unfolding table_from
  table-map g f a zero = refl
  table-map g f a (suc n) = ap (λ (l : List _). g (f a) ∷ l) (table-map g f (suc a) n)

  -- a list is a table, if each of its elements is the table's
  pub is-table : (f : ℕ → A) (n : ℕ) (l : List A) (d : A) → length l ≡ n → ((b : ℕ) → b < n → get_or l b d ≡ f b) → l ≡ table n f
  is-table f n l d e h =
      ext_get_or d l (table n f) (e ∙ sym (table-length f 0 n))
      (λ b l. h b (omega arith) ∙ sym (table_at f 0 n b d (omega arith) ∙ ap f (zero-add b)))

  -- ---- one element
  pub mutate-length : (n : ℕ) (f : A → A) (l : List A) → length (mutate_at n f l) ≡ length l
  unfolding mutate_at
  mutate-length n f [] = refl
  mutate-length zero f (x ∷ xs) = refl
  mutate-length (suc n) f (x ∷ xs) = ap suc (mutate-length n f xs)

  pub mutate-id : (n : ℕ) (l : List A) → mutate_at n (λ x. x) l ≡ l
  unfolding mutate_at
  mutate-id n [] = refl
  mutate-id zero (x ∷ xs) = refl
  mutate-id (suc n) (x ∷ xs) = ap (λ (l : List A). x ∷ l) (mutate-id n xs)

  -- what f leaves of any element, it leaves of element k
  pub mutate-kept : {B : Type 0} (g : A → B) (f : A → A) (d : A) (l : List A) (n k : ℕ)
      → (n ≡ k → g (f (get_or l n d)) ≡ g (get_or l n d)) → g (get_or (mutate_at n f l) k d) ≡ g (get_or l k d)
  unfolding mutate_at
  mutate-kept g f d [] n k h = refl
  mutate-kept g f d (x ∷ xs) zero zero h = h refl
  mutate-kept g f d (x ∷ xs) zero (suc k) h = refl
  mutate-kept g f d (x ∷ xs) (suc n) zero h = refl
  mutate-kept g f d (x ∷ xs) (suc n) (suc k) h = mutate-kept g f d xs n k (λ e. h (ap suc e))

  pub mutate-map : {B : Type 0} (g : A → B) (f : A → A) → ((x : A) → g (f x) ≡ g x) → (n : ℕ) (l : List A) → map g (mutate_at n f l) ≡ map g l
  unfolding mutate_at
  mutate-map g f h n [] = refl
  mutate-map g f h zero (x ∷ xs) = ap (λ (y : _). y ∷ map g xs) (h x)
  mutate-map g f h (suc n) (x ∷ xs) = ap (λ (l : List _). g x ∷ l) (mutate-map g f h n xs)

  pub mutate-commute : (f g : A → A) (d : A) (l : List A) (n k : ℕ) → (n ≡ k → g (f (get_or l n d)) ≡ f (g (get_or l n d)))
      → mutate_at k g (mutate_at n f l) ≡ mutate_at n f (mutate_at k g l)
  unfolding mutate_at
  mutate-commute f g d [] n k h = refl
  mutate-commute f g d (x ∷ xs) zero zero h = ap (λ (y : A). y ∷ xs) (h refl)
  mutate-commute f g d (x ∷ xs) zero (suc k) h = refl
  mutate-commute f g d (x ∷ xs) (suc n) zero h = refl
  mutate-commute f g d (x ∷ xs) (suc n) (suc k) h = ap (λ (l : List A). x ∷ l) (mutate-commute f g d xs n k (λ e. h (ap suc e)))

  pub mutate-again : (f : A → A) (d : A) (l : List A) (n : ℕ) → f (f (get_or l n d)) ≡ f (get_or l n d) → mutate_at n f (mutate_at n f l) ≡ mutate_at n f l
  unfolding mutate_at
  mutate-again f d [] n h = refl
  mutate-again f d (x ∷ xs) zero h = ap (λ (y : A). y ∷ xs) h
  mutate-again f d (x ∷ xs) (suc n) h = ap (λ (l : List A). x ∷ l) (mutate-again f d xs n h)

  pub mutate-twice : (n : ℕ) (f g : A → A) (l : List A) → mutate_at n f (mutate_at n g l) ≡ mutate_at n (λ x. f (g x)) l
  unfolding mutate_at
  mutate-twice n f g [] = refl
  mutate-twice zero f g (x ∷ xs) = refl
  mutate-twice (suc n) f g (x ∷ xs) = ap (λ (l : List A). x ∷ l) (mutate-twice n f g xs)

  -- what stands before it, the element, and what stands behind it
  pub mutate-split : (n : ℕ) (f : A → A) (l : List A) (d : A) → n < length l → mutate_at n f l ≡ take n l ++ (f (get_or l n d) ∷ drop (suc n) l)
  unfolding mutate_at
  mutate-split n f [] d h = absurd (omega arith)
  mutate-split zero f (x ∷ xs) d h = refl
  mutate-split (suc n) f (x ∷ xs) d h = ap (λ (l : List A). x ∷ l) (mutate-split n f xs d (omega arith))

  pub take-mutate : (k n : ℕ) (f : A → A) (l : List A) → k ≤ n → take k (mutate_at n f l) ≡ take k l
  unfolding mutate_at
  take-mutate zero n f l h = refl
  take-mutate (suc k) n f [] h = refl
  take-mutate (suc k) zero f (x ∷ xs) h = absurd (omega arith)
  take-mutate (suc k) (suc n) f (x ∷ xs) h = ap (λ (l : List A). x ∷ l) (take-mutate k n f xs (omega arith))

  pub drop-mutate : (k n : ℕ) (f : A → A) (l : List A) → n < k → drop k (mutate_at n f l) ≡ drop k l
  unfolding mutate_at
  drop-mutate zero n f l h = absurd (omega arith)
  drop-mutate (suc k) n f [] h = refl
  drop-mutate (suc k) zero f (x ∷ xs) h = refl
  drop-mutate (suc k) (suc n) f (x ∷ xs) h = drop-mutate k n f xs (omega arith)

  -- ---- a loop in place: the elements before i are new, the others still old
  pub loop-get : (new old : List A) (d : A) (i : ℕ) → length new ≡ length old → i < length old → get_or (take i new ++ drop i old) i d ≡ get_or old i d
  loop-get new [] d i e l = absurd (omega arith)
  loop-get [] (y ∷ old) d i e l = absurd (omega arith)
  loop-get (x ∷ new) (y ∷ old) d zero e l = refl
  loop-get (x ∷ new) (y ∷ old) d (suc i) e l = loop-get new old d i (omega arith) (omega arith)

  -- a copy of new to the front of old, one element more
  pub copy-set : (new old : List A) (d : A) (i : ℕ) → i < length new → i < length old
      → set (take i new ++ drop i old) i (get_or new i d) ≡ take (suc i) new ++ drop (suc i) old
  copy-set new [] d i k l = absurd (omega arith)
  copy-set [] (y ∷ old) d i k l = absurd (omega arith)
  copy-set (x ∷ new) (y ∷ old) d zero k l = refl
  copy-set (x ∷ new) (y ∷ old) d (suc i) k l = ap (λ (l : List A). x ∷ l) (copy-set new old d i (omega arith) (omega arith))

  pub loop-set : (new old : List A) (d : A) (i : ℕ) → length new ≡ length old → i < length old
      → set (take i new ++ drop i old) i (get_or new i d) ≡ take (suc i) new ++ drop (suc i) old
  loop-set new old d i e l = copy-set new old d i (omega arith) l
