-- Laws of `write_at`.
use Prim.Native.Nat.{ℕ, zero, suc, ◌+◌, ◌≤◌, ◌<◌}
use mathlib.Core.Path.{◌≡◌, refl, sym, ap, ◌∙◌}
use mathlib.Core.Bool.{false, false≢true}
use mathlib.Core.List.{List, [], ◌∷◌, ◌++◌, map}
use native.Mathlib.Nat.{zero-add, suc-add}
use native.Mathlib.Decide.{dec_lt}
use native.Mathlib.Omega.{arith}
use borrow.Author.Tests.{le-leb, lt-ltb}
use lib.ListN.{length, get_or, take, drop, set}
use Rattle.definition.specs.Notation.{write_at, in_range}

module _ {A : Type 0} where
  pub write-none : (n : ℕ) (xs : List A) → write_at n [] xs ≡ xs
  unfolding write_at
  write-none n [] = refl
  write-none zero (x ∷ xs) = refl
  write-none (suc n) (x ∷ xs) = ap (λ (l : List A). x ∷ l) (write-none n xs)

  pub write-length : (n : ℕ) (ys xs : List A) → length (write_at n ys xs) ≡ length xs
  unfolding write_at
  write-length n ys [] = refl
  write-length zero [] (x ∷ xs) = refl
  write-length zero (y ∷ ys) (x ∷ xs) = ap suc (write-length zero ys xs)
  write-length (suc n) ys (x ∷ xs) = ap suc (write-length n ys xs)

  pub write-commute : (n : ℕ) (ys : List A) (k : ℕ) (zs xs : List A) → n + length ys ≤ k
      → write_at k zs (write_at n ys xs) ≡ write_at n ys (write_at k zs xs)
  unfolding write_at
  write-commute n ys k zs [] h = refl
  write-commute zero [] k zs (x ∷ xs) h = sym (write-none zero (write_at k zs (x ∷ xs)))
  write-commute zero (y ∷ ys) zero zs (x ∷ xs) h = absurd (omega arith)
  write-commute zero (y ∷ ys) (suc k) zs (x ∷ xs) h = ap (λ (l : List A). y ∷ l) (write-commute zero ys k zs xs (omega arith))
  write-commute (suc n) ys zero zs (x ∷ xs) h = absurd (omega arith)
  write-commute (suc n) ys (suc k) zs (x ∷ xs) h = ap (λ (l : List A). x ∷ l) (write-commute n ys k zs xs (omega arith))

  -- ---- in pieces
  -- one element, and the rest behind it
  pub write-set : (i : ℕ) (y : A) (ys xs : List A) → write_at i (y ∷ ys) xs ≡ write_at (suc i) ys (set xs i y)
  unfolding write_at
  write-set i y ys [] = refl
  write-set zero y ys (x ∷ xs) = refl
  write-set (suc i) y ys (x ∷ xs) = ap (λ (l : List A). x ∷ l) (write-set i y ys xs)

  pub write-one : (n : ℕ) (x : A) (xs : List A) → set xs n x ≡ write_at n (x ∷ []) xs
  write-one n x xs = sym (write-set n x [] xs ∙ write-none (suc n) (set xs n x))

  -- the rest behind a place, and then what goes to that place
  pub write-front : (n : ℕ) (x : A) (ys xs : List A) → set (write_at (n + 1) ys xs) n x ≡ write_at n (x ∷ ys) xs
  unfolding write_at
  write-front n x ys [] = refl
  write-front zero x ys (z ∷ xs) = refl
  write-front (suc n) x ys (z ∷ xs) = rw (suc-add n 1) (ap (λ (l : List A). z ∷ l) (write-front n x ys xs))

  -- one run behind another
  pub write-more : (n : ℕ) (ys zs xs : List A) → write_at (n + length ys) zs (write_at n ys xs) ≡ write_at n (ys ++ zs) xs
  unfolding write_at
  write-more n ys zs [] = refl
  write-more zero [] zs (x ∷ xs) = rw (zero-add 0)
  write-more zero (y ∷ ys) zs (x ∷ xs) = rw (zero-add (suc (length ys))) (ap (λ (l : List A). y ∷ l) (rw zero-add at (write-more zero ys zs xs)))
  write-more (suc n) ys zs (x ∷ xs) = rw (suc-add n (length ys)) (ap (λ (l : List A). x ∷ l) (write-more n ys zs xs))

  -- a first part, and the rest behind it
  pub write-parts : (ys zs xs : List A) → length ys ≤ length xs → write_at 0 (ys ++ zs) xs ≡ ys ++ write_at 0 zs (drop (length ys) xs)
  unfolding write_at
  write-parts [] zs xs h = refl
  write-parts (y ∷ ys) zs [] h = absurd (omega arith)
  write-parts (y ∷ ys) zs (x ∷ xs) h = ap (λ (l : List A). y ∷ l) (write-parts ys zs xs (omega arith))

  pub write-past : (i : ℕ) (ys xs : List A) → length xs ≤ i → write_at i ys xs ≡ xs
  unfolding write_at
  write-past i ys [] h = refl
  write-past zero ys (x ∷ xs) h = absurd (omega arith)
  write-past (suc i) ys (x ∷ xs) h = ap (λ (l : List A). x ∷ l) (write-past i ys xs (omega arith))

  pub map-write : {B : Type 0} (f : A → B) (n : ℕ) (ys xs : List A) → map f (write_at n ys xs) ≡ write_at n (map f ys) (map f xs)
  unfolding write_at
  map-write f n ys [] = refl
  map-write f zero [] (x ∷ xs) = refl
  map-write f zero (y ∷ ys) (x ∷ xs) = ap (λ (l : List _). f y ∷ l) (map-write f zero ys xs)
  map-write f (suc n) ys (x ∷ xs) = ap (λ (l : List _). f x ∷ l) (map-write f n ys xs)

  -- ---- what stands where
  -- element b: in front of what is written, within it, behind it
  pub before-write : (n : ℕ) (ys xs : List A) (b : ℕ) (d : A) → b < n → get_or (write_at n ys xs) b d ≡ get_or xs b d
  unfolding write_at
  before-write n ys [] b d h = refl
  before-write zero ys (x ∷ xs) b d h = absurd (omega arith)
  before-write (suc n) ys (x ∷ xs) zero d h = refl
  before-write (suc n) ys (x ∷ xs) (suc b) d h = before-write n ys xs b d (omega arith)

  pub within-write : (n : ℕ) (ys xs : List A) (k : ℕ) (d : A) → k < length ys → n + k < length xs → get_or (write_at n ys xs) (n + k) d ≡ get_or ys k d
  unfolding write_at
  within-write n ys [] k d h l = absurd (omega arith)
  within-write zero [] (x ∷ xs) k d h l = absurd (omega arith)
  within-write zero (y ∷ ys) (x ∷ xs) zero d h l = refl
  within-write zero (y ∷ ys) (x ∷ xs) (suc k) d h l =
      let e : get_or (write_at 0 ys xs) (0 + k) d ≡ get_or ys k d = within-write zero ys xs k d (omega arith) (omega arith) in
      rw zero-add (rw zero-add at e)
  within-write (suc n) ys (x ∷ xs) k d h l = rw suc-add (within-write n ys xs k d h (omega arith))

  pub behind-write : (n : ℕ) (ys xs : List A) (b : ℕ) (d : A) → n + length ys ≤ b → get_or (write_at n ys xs) b d ≡ get_or xs b d
  unfolding write_at
  behind-write n ys [] b d h = refl
  behind-write zero [] (x ∷ xs) b d h = refl
  behind-write zero (y ∷ ys) (x ∷ xs) zero d h = absurd (omega arith)
  behind-write zero (y ∷ ys) (x ∷ xs) (suc b) d h = behind-write zero ys xs b d (omega arith)
  behind-write (suc n) ys (x ∷ xs) zero d h = absurd (omega arith)
  behind-write (suc n) ys (x ∷ xs) (suc b) d h = behind-write n ys xs b d (omega arith)

  pub outside-write : (n : ℕ) (ys xs : List A) (b : ℕ) (d : A) → in_range n (length ys) b ≡ false → get_or (write_at n ys xs) b d ≡ get_or xs b d
  outside-write n ys xs b d h =
      elim (dec_lt b n) [
        | yes i ↦ before-write n ys xs b d i
        | no i ↦
            elim (dec_lt b (n + length ys)) [
              | yes j ↦ absurd (false≢true (sym h ∙ rw (le-leb n b (omega arith), lt-ltb b (n + length ys) j)))
              | no j ↦ behind-write n ys xs b d (omega arith)
            ]
      ]

  -- a part that ends before what is written, and one that starts behind it
  pub part-before : (o l n : ℕ) (ys xs : List A) → o + l ≤ n → take l (drop o (write_at n ys xs)) ≡ take l (drop o xs)
  unfolding write_at
  part-before o l n ys [] h = refl
  part-before zero zero n ys (x ∷ xs) h = refl
  part-before zero (suc l) zero ys (x ∷ xs) h = absurd (omega arith)
  part-before zero (suc l) (suc n) ys (x ∷ xs) h = ap (λ (l : List A). x ∷ l) (part-before zero l n ys xs (omega arith))
  part-before (suc o) l zero ys (x ∷ xs) h = absurd (omega arith)
  part-before (suc o) l (suc n) ys (x ∷ xs) h = part-before o l n ys xs (omega arith)

  pub part-behind : (o l n : ℕ) (ys xs : List A) → n + length ys ≤ o → take l (drop o (write_at n ys xs)) ≡ take l (drop o xs)
  unfolding write_at
  part-behind o l n ys [] h = refl
  part-behind o l zero [] (x ∷ xs) h = refl
  part-behind zero l zero (y ∷ ys) (x ∷ xs) h = absurd (omega arith)
  part-behind (suc o) l zero (y ∷ ys) (x ∷ xs) h = part-behind o l zero ys xs (omega arith)
  part-behind zero l (suc n) ys (x ∷ xs) h = absurd (omega arith)
  part-behind (suc o) l (suc n) ys (x ∷ xs) h = part-behind o l n ys xs (omega arith)

  -- all up to its end
  pub take-write : (n : ℕ) (ys xs : List A) → n + length ys ≤ length xs → take (n + length ys) (write_at n ys xs) ≡ take n xs ++ ys
  unfolding write_at
  take-write zero [] [] h = refl
  take-write zero [] (x ∷ xs) h = refl
  take-write zero (y ∷ ys) [] h = absurd (omega arith)
  take-write zero (y ∷ ys) (x ∷ xs) h = rw zero-add (ap (λ (l : List A). y ∷ l) (rw zero-add at (take-write zero ys xs (omega arith))))
  take-write (suc n) ys [] h = absurd (omega arith)
  take-write (suc n) ys (x ∷ xs) h = rw suc-add (ap (λ (l : List A). x ∷ l) (take-write n ys xs (omega arith)))

  pub write-back : (ys xs : List A) → length ys ≤ length xs → take (length ys) (write_at 0 ys xs) ≡ ys
  write-back ys xs h = rw zero-add at (take-write 0 ys xs (omega arith))
