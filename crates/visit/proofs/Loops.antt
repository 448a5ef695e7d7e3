-- Loops through a list: what is written of each element into another, and a change of each in place.
use Prim.Native.Nat.{ℕ, zero, suc, ◌+◌, ◌≤◌, ◌<◌}
use mathlib.Core.Path.{◌≡◌, refl, sym, ap, ap₂, ◌∙◌}
use mathlib.Core.List.{List, [], ◌∷◌, ◌++◌, map, append-nil}
use native.Mathlib.Numerals.{add-one}
use native.Mathlib.Omega.{arith}
use lib.ListN.{length, get_or, take, drop, set, length-append, length-drop, length-map, drop_of_length-le, get_or-append}
use lib.Seq.{take_all}
use Rattle.definition.proofs.Lists.{loop-get, loop-set}

-- ---- f of each element of row, written into out
map_at : (f : ℕ → ℕ) (l : List ℕ) (i : ℕ) → i < length l → get_or (map f l) i 0 ≡ f (get_or l i 0)
map_at f [] i h = absurd (omega arith)
map_at f (x ∷ l) zero h = refl
map_at f (x ∷ l) (suc i) h = map_at f l i (omega arith)

module _ (f : ℕ → ℕ) (row out : List ℕ) (fits : length row ≤ length out) where
  abbrev written : List ℕ
  written = map f row ++ drop (length row) out

  written-length : length written ≡ length out
  written-length = length-append (map f row) (drop (length row) out) ∙ rw (length-map row f, length-drop (length row) out) (omega arith)

  -- the elements before i are written
  abbrev pub written_to : ℕ → List ℕ
  written_to i = take i written ++ drop i out

  pub write-turn : (i : ℕ) → i < length row → (now after : List ℕ) → now ≡ written_to i → after ≡ set now i (f (get_or row i 0)) → after ≡ written_to (i + 1)
  write-turn i l now after e s =
      let new : f (get_or row i 0) ≡ get_or written i 0 =
      sym (get_or-append (map f row) (drop (length row) out) 0 i (omega (arith, length-map row f)) ∙ map_at f row i l) in
      s
      ∙ ap₂ (λ (m : List ℕ) (c : ℕ). set m i c) e new
      ∙ loop-set written out 0 i written-length (omega arith)
      ∙ ap written_to (sym (add-one i))

-- ---- each element of row changed in place into that of target
module _ (row target : List ℕ) (same : length target ≡ length row) where
  -- the elements before i are changed
  abbrev pub changed_to : ℕ → List ℕ
  changed_to i = take i target ++ drop i row

  pub not_yet : (i : ℕ) → i < length row → (now : List ℕ) → now ≡ changed_to i → get_or now i 0 ≡ get_or row i 0
  not_yet i l now e = ap (λ (m : List ℕ). get_or m i 0) e ∙ loop-get target row 0 i same l

  pub change-turn : (i : ℕ) → i < length row → (now after : List ℕ) → now ≡ changed_to i → after ≡ set now i (get_or target i 0) → after ≡ changed_to (i + 1)
  change-turn i l now after e s =
      s ∙ ap (λ (m : List ℕ). set m i (get_or target i 0)) e ∙ loop-set target row 0 i same l ∙ ap changed_to (sym (add-one i))

  pub changed-all : (i : ℕ) → i ≡ length row → changed_to i ≡ target
  changed-all i e =
      ap₂ (λ (a b : List ℕ). a ++ b) (take_all i target (omega (arith, same))) (drop_of_length-le row {i = i} (omega arith)) ∙ append-nil target

-- ---- f of each element, in place
module _ (f : ℕ → ℕ) (row : List ℕ) where
  -- the elements before i are changed
  abbrev pub mapped_to : ℕ → List ℕ
  mapped_to i = take i (map f row) ++ drop i row

  pub map-turn : (i : ℕ) → i < length row → (now after : List ℕ) → now ≡ mapped_to i → after ≡ set now i (f (get_or now i 0)) → after ≡ mapped_to (i + 1)
  map-turn i l now after e s =
      let old : get_or now i 0 ≡ get_or row i 0 = ap (λ (m : List ℕ). get_or m i 0) e ∙ loop-get (map f row) row 0 i (length-map row f) l in
      s
      ∙ ap₂ (λ (m : List ℕ) (c : ℕ). set m i c) e (ap f old ∙ sym (map_at f row i l))
      ∙ loop-set (map f row) row 0 i (length-map row f) l
      ∙ ap mapped_to (sym (add-one i))

  pub mapped-all : (i : ℕ) → i ≡ length row → mapped_to i ≡ map f row
  mapped-all i e =
      ap₂ (λ (a b : List ℕ). a ++ b) (take_all i (map f row) (omega (arith, length-map row f))) (drop_of_length-le row {i = i} (omega arith)) ∙ append-nil (map f row)
