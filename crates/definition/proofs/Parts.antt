-- Laws of plain lists: parts, rows, places, equal elements, zeros.
use Prim.Native.Nat.{ℕ, zero, suc, ◌+◌, ◌-◌, ◌*◌, ◌≤◌, ◌<◌, min}
use mathlib.Core.Path.{◌≡◌, refl, sym, ap, subst, ◌∙◌}
use mathlib.Core.List.{List, [], ◌∷◌, ◌++◌, map, append-nil}
use native.Mathlib.Nat.{zero-add, add-zero, suc-add, sub-zero, zero-sub, suc-sub-suc, suc-mul, mul-le-mul_right}
use native.Mathlib.Numerals.{add-one}
use native.Mathlib.Decide.{dec_lt}
use native.Mathlib.Omega.{arith}
use lib.ListN.{length, get_or, take, drop, set, replicate, length-drop, drop_of_length-le, get_or-append}
use lib.Seq.{drop-cons, take_all, get_or-drop, set_at, append_snoc, set-append_left, get_or-append-add}

module _ {A : Type 0} where
  -- ---- the list from a place on
  pub drop-next : (l : List A) (i : ℕ) (d : A) → i < length l → drop i l ≡ get_or l i d ∷ drop (i + 1) l
  drop-next l i d h = rw (add-one, drop-cons l i d h)

  pub get_d-first : (l : List A) (n : ℕ) (d : A) → get_or (drop n l) 0 d ≡ get_or l n d
  get_d-first l n d = get_or-drop n l 0 d ∙ ap (λ (k : ℕ). get_or l k d) (add-zero n)

  pub take-one : (l : List A) (n : ℕ) (d : A) → suc n ≤ length l → get_or l 0 d ∷ take n (drop 1 l) ≡ take (suc n) l
  take-one [] n d h = absurd (omega arith)
  take-one (x ∷ xs) n d h = refl

  pub part-rest : (n : ℕ) (l : List A) → take (length l - n) (drop n l) ≡ drop n l
  part-rest n l = take_all (length l - n) (drop n l) (omega (arith, length-drop n l))

  -- ---- a part that would reach beyond the end stops there
  take-cut : (n : ℕ) (l : List A) → take (min n (length l)) l ≡ take n l
  take-cut n l =
      elim (dec_lt n (length l)) [
        | yes h ↦ let e : min n (length l) ≡ n = omega arith in ap (λ (k : ℕ). take k l) e
        | no h ↦ take_all (min n (length l)) l (omega arith) ∙ sym (take_all n l (omega arith))
      ]

  drop-cut : (n : ℕ) (l : List A) → drop (min n (length l)) l ≡ drop n l
  drop-cut n l =
      elim (dec_lt n (length l)) [
        | yes h ↦ let e : min n (length l) ≡ n = omega arith in ap (λ (k : ℕ). drop k l) e
        | no h ↦ let low : length l ≤ min n (length l) = omega arith in
            let high : length l ≤ n = omega arith in
            drop_of_length-le l low ∙ sym (drop_of_length-le l high)
      ]

  pub part_cut : (l : List A) (start len from count : ℕ) → from ≡ min start (length l) → count ≡ min len (length l - from)
      → take count (drop from l) ≡ take len (drop start l)
  part_cut l start len from count f n =
      let k = length-drop start l in
      let e : count ≡ min len (length (drop start l)) = omega arith in
      ap (λ (k : ℕ). take count (drop k l)) f
      ∙ ap (λ (d : List A). take count d) (drop-cut start l)
      ∙ ap (λ (k : ℕ). take k (drop start l)) e
      ∙ take-cut len (drop start l)

  -- ---- a part x with l before and r behind
  pub set_after : (l x : List A) (j : ℕ) (v : A) → set (l ++ x) (length l + j) v ≡ l ++ set x j v
  set_after [] x j v = ap (λ (k : ℕ). set x k v) (zero-add j)
  set_after (y ∷ l) x j v = rw suc-add (ap (λ (t : List A). y ∷ t) (set_after l x j v))

  pub set-mid : (l x r : List A) (k j : ℕ) (v : A) → k ≡ length l + j → j < length x → set (l ++ (x ++ r)) k v ≡ l ++ (set x j v ++ r)
  set-mid l x r k j v e h =
      ap (λ (i : ℕ). set (l ++ (x ++ r)) i v) e ∙ set_after l (x ++ r) j v
      ∙ ap (λ (t : List A). l ++ t) (set-append_left x r j v h)

  pub get-mid : (l x r : List A) (k j : ℕ) (d : A) → k ≡ length l + j → j < length x → get_or (l ++ (x ++ r)) k d ≡ get_or x j d
  get-mid l x r k j d e h =
      ap (λ (i : ℕ). get_or (l ++ (x ++ r)) i d) e ∙ get_or-append-add l (x ++ r) j d ∙ get_or-append x r d j h

  -- the first i are p, and v is put behind them
  pub front-more : (p d : List A) (i : ℕ) (v : A) → length p ≡ i → i < length d
      → set (p ++ drop i d) i v ≡ (p ++ (v ∷ [])) ++ drop (i + 1) d
  front-more p d i v e h =
      ap (λ (t : List A). set (p ++ t) i v) (drop-next d i v h)
      ∙ set_at p (get_or d i v) (drop (i + 1) d) v i e
      ∙ sym (append_snoc p v (drop (i + 1) d))

  -- ---- equal elements
  pub map-replicate : {B : Type 0} (f : A → B) (n : ℕ) (x : A) → map f (replicate n x) ≡ replicate n (f x)
  map-replicate f zero x = refl
  map-replicate f (suc n) x = ap (λ (l : List _). f x ∷ l) (map-replicate f n x)

  pub replicate_more : (n : ℕ) (x : A) → replicate n x ++ (x ∷ []) ≡ replicate (n + 1) x
  replicate_more zero x = refl
  replicate_more (suc n) x = rw (suc-add n 1) (ap (λ (l : List A). x ∷ l) (replicate_more n x))

  -- a list filled from the front, to its end
  pub fill-all : (n : ℕ) (x : A) (l : List A) → length l ≤ n → replicate n x ++ drop n l ≡ replicate n x
  fill-all n x l h = rw (drop_of_length-le l h) (append-nil (replicate n x))

-- ---- rows: row n ends within a table of k rows
pub row_fits : (n k w : ℕ) → n < k → n * w + w ≤ k * w
row_fits n k w h = subst (λ (m : ℕ). m ≤ k * w) (suc-mul n w) (mul-le-mul_right w h)

-- ---- zeros
pub zero-at : (n i : ℕ) → ◌≡◌ {A = ℕ} (get_or (replicate n 0) i 0) 0
zero-at zero i = refl
zero-at (suc n) zero = refl
zero-at (suc n) (suc i) = zero-at n i

pub take-zeros : (k n : ℕ) → k ≤ n → ◌≡◌ {A = List ℕ} (take k (replicate n 0)) (replicate k 0)
take-zeros zero n h = refl
take-zeros (suc k) zero h = absurd (omega arith)
take-zeros (suc k) (suc n) h = ap (λ (l : List ℕ). 0 ∷ l) (take-zeros k n (omega arith))

pub drop-zeros : (k n : ℕ) → ◌≡◌ {A = List ℕ} (drop k (replicate n 0)) (replicate (n - k) 0)
drop-zeros zero n = ap (λ (j : ℕ). replicate j 0) (sym (sub-zero n))
drop-zeros (suc k) zero = ap (λ (j : ℕ). replicate j 0) (sym (zero-sub (suc k)))
drop-zeros (suc k) (suc n) = drop-zeros k n ∙ ap (λ (j : ℕ). replicate j 0) (sym (suc-sub-suc n k))
