-- A row under a visit, in the forms in which code meets it: the accesses of the bytes as a list, which lies over the row from some byte on.
--     range-refusal, range-after        an access of one kind to n bytes from `from` on, as a walk over that part of the row
--     list-refusal, list-after          an access for each of some bytes from `from` on, as a walk over the accesses and that part of the row
--     release-refusal, release-after    the accesses that a row's protectors make at their end, as a walk over both rows
use Rattle.std.specs.Prelude.{if◌then◌else◌}
use Prim.Native.Nat.{ℕ, zero, suc, ◌+◌, ◌-◌, ◌≤◌, ◌<◌}
use mathlib.Core.Path.{◌≡◌, refl, sym, ap, ap₂, ◌∙◌}
use mathlib.Core.Bool.{true, false}
use mathlib.Core.Option.{Option, none, some}
use mathlib.Core.List.{List, [], ◌∷◌, ◌++◌, map}
use native.Mathlib.Nat.{zero-add, suc-add}
use native.Mathlib.Decide.{dec_lt}
use native.Mathlib.Omega.{arith}
use borrow.Author.Tests.{le-leb, lt-leb, lt-ltb, le-ltb}
use lib.ListN.{length, get_or, take, drop, replicate, length-replicate, get_or-replicate, get_or-map, get_or-eq_default}
use lib.Seq.{take-nil, drop-nil}
use Rattle.definition.specs.Notation.{◌or◌, first_refusal, map_from, in_range}
use Rattle.definition.specs.Permission.{AccessKind, NodeRelation, Permission, refusal, next, refusal_by, next_by, end_access}
use Rattle.definition.specs.Permission.Permission.{Unprot}
use Rattle.definition.specs.Permission.PermissionUnprot.{Cell}
use Rattle.definition.specs.Tree.{row_refusal, row_after}
use Rattle.definition.proofs.Lists.{each-shift}

-- ---- a walk over a list of accesses and a row: an access for each byte, none behind the list's end
unfoldable pub accesses_refusal : NodeRelation → List (Option AccessKind) → List Permission → ℕ
accesses_refusal r xs [] = 0
accesses_refusal r [] (p ∷ row) = 0
accesses_refusal r (x ∷ xs) (p ∷ row) = refusal_by x r p or accesses_refusal r xs row

unfoldable pub accesses_after : NodeRelation → List (Option AccessKind) → List Permission → List Permission
accesses_after r xs [] = []
accesses_after r [] (p ∷ row) = p ∷ row
accesses_after r (x ∷ xs) (p ∷ row) = next_by x r p ∷ accesses_after r xs row

-- behind the list's end
nothing-refused : (r : NodeRelation) (row : List Permission) → accesses_refusal r [] row ≡ 0
unfolding accesses_refusal
nothing-refused r [] = refl
nothing-refused r (p ∷ row) = refl

nothing-after : (r : NodeRelation) (row : List Permission) → accesses_after r [] row ≡ row
unfolding accesses_after
nothing-after r [] = refl
nothing-after r (p ∷ row) = refl

-- for a loop over the bytes: byte i of a row, then those behind it
module _ (r : NodeRelation) (d : Permission) where
  pub accesses-step : (xs : List (Option AccessKind)) (row : List Permission) (i : ℕ) → i < length row
      → accesses_refusal r (drop i xs) (drop i row) ≡ (refusal_by (get_or xs i none) r (get_or row i d) or accesses_refusal r (drop (suc i) xs) (drop (suc i) row))
  unfolding accesses_refusal
  accesses-step xs [] i l = absurd (omega arith)
  accesses-step [] (p ∷ row) zero l = sym (nothing-refused r row)
  accesses-step (x ∷ xs) (p ∷ row) zero l = refl
  accesses-step [] (p ∷ row) (suc i) l = nothing-refused r (drop i row) ∙ sym (nothing-refused r (drop (suc i) row))
  accesses-step (x ∷ xs) (p ∷ row) (suc i) l = accesses-step xs row i (omega arith)

  pub accesses-at : (xs : List (Option AccessKind)) (row : List Permission) (i : ℕ) → i < length row
      → get_or (accesses_after r xs row) i d ≡ next_by (get_or xs i none) r (get_or row i d)
  unfolding accesses_after
  accesses-at xs [] i l = absurd (omega arith)
  accesses-at [] (p ∷ row) zero l = refl
  accesses-at (x ∷ xs) (p ∷ row) zero l = refl
  accesses-at [] (p ∷ row) (suc i) l = refl
  accesses-at (x ∷ xs) (p ∷ row) (suc i) l = accesses-at xs row i (omega arith)

pub accesses-length : (r : NodeRelation) (xs : List (Option AccessKind)) (row : List Permission) → length (accesses_after r xs row) ≡ length row
unfolding accesses_after
accesses-length r xs [] = refl
accesses-length r [] (p ∷ row) = refl
accesses-length r (x ∷ xs) (p ∷ row) = ap suc (accesses-length r xs row)

-- ---- a visit's accesses as a list
-- they are xs at the bytes from `from` on, and there are no others
pub record Places (access_at : ℕ → Option AccessKind) (from : ℕ) (xs : List (Option AccessKind)) : Type 0 where
  pub before : (k : ℕ) → k < from → access_at k ≡ none
  pub at : (k : ℕ) → access_at (from + k) ≡ get_or xs k none

-- those of the bytes behind the first
abbrev behind : (ℕ → Option AccessKind) → ℕ → Option AccessKind
behind f k = f (suc k)

behind_places : (f : ℕ → Option AccessKind) (n : ℕ) (xs : List (Option AccessKind)) → Places f (suc n) xs → Places (behind f) n xs
behind_places f n xs places =
    record {
      before = λ k l. places.before (suc k) (omega arith);
      at = λ k. ap f (sym (suc-add n k)) ∙ places.at k;
    }

module _ (r : NodeRelation) where
  abbrev next_at : (ℕ → Option AccessKind) → ℕ → Permission → Permission
  next_at f b p = next_by (f b) r p

  row-shift : (f : ℕ → Option AccessKind) (b : ℕ) (row : List Permission) → row_refusal f r (suc b) row ≡ row_refusal (behind f) r b row
  unfolding row_refusal
  row-shift f b [] = refl
  row-shift f b (p ∷ row) = ap (λ (n : ℕ). refusal_by (f (suc b)) r p or n) (row-shift f (suc b) row)

  -- from the first byte on
  from-start-refusal : (f : ℕ → Option AccessKind) (xs : List (Option AccessKind)) (row : List Permission) → ((k : ℕ) → f k ≡ get_or xs k none) → row_refusal f r 0 row ≡ accesses_refusal r xs row
  unfolding row_refusal accesses_refusal
  from-start-refusal f xs [] h = refl
  from-start-refusal f [] (p ∷ row) h =
      ap₂ ◌or◌ (ap (λ (x : Option AccessKind). refusal_by x r p) (h 0))
      (row-shift f 0 row ∙ from-start-refusal (behind f) [] row (λ k. h (suc k)) ∙ nothing-refused r row)
  from-start-refusal f (x ∷ xs) (p ∷ row) h =
      ap₂ ◌or◌ (ap (λ (y : Option AccessKind). refusal_by y r p) (h 0)) (row-shift f 0 row ∙ from-start-refusal (behind f) xs row (λ k. h (suc k)))

  from-start-after : (f : ℕ → Option AccessKind) (xs : List (Option AccessKind)) (row : List Permission) → ((k : ℕ) → f k ≡ get_or xs k none) → row_after f r row ≡ accesses_after r xs row
  unfolding map_from accesses_after
  from-start-after f xs [] h = refl
  from-start-after f [] (p ∷ row) h =
      ap₂ ◌∷◌ (ap (λ (x : Option AccessKind). next_by x r p) (h 0))
      (each-shift (next_at f) 0 row ∙ from-start-after (behind f) [] row (λ k. h (suc k)) ∙ nothing-after r row)
  from-start-after f (x ∷ xs) (p ∷ row) h =
      ap₂ ◌∷◌ (ap (λ (y : Option AccessKind). next_by y r p) (h 0)) (each-shift (next_at f) 0 row ∙ from-start-after (behind f) xs row (λ k. h (suc k)))

  -- no access at all
  pub none-refusal : (f : ℕ → Option AccessKind) (row : List Permission) → ((k : ℕ) → f k ≡ none) → row_refusal f r 0 row ≡ 0
  none-refusal f row h = from-start-refusal f [] row h ∙ nothing-refused r row

  pub places-refusal : (f : ℕ → Option AccessKind) (from : ℕ) (xs : List (Option AccessKind)) → Places f from xs → (row : List Permission)
      → row_refusal f r 0 row ≡ accesses_refusal r xs (drop from row)
  unfolding row_refusal
  places-refusal f zero xs places row = from-start-refusal f xs row (λ k. ap f (sym (zero-add k)) ∙ places.at k)
  places-refusal f (suc n) xs places [] = unfold accesses_refusal in refl
  places-refusal f (suc n) xs places (p ∷ row) =
      ap₂ ◌or◌ (ap (λ (x : Option AccessKind). refusal_by x r p) (places.before 0 (omega arith)))
      (row-shift f 0 row ∙ places-refusal (behind f) n xs (behind_places f n xs places) row)

  pub places-after : (f : ℕ → Option AccessKind) (from : ℕ) (xs : List (Option AccessKind)) → Places f from xs → (row : List Permission)
      → row_after f r row ≡ take from row ++ accesses_after r xs (drop from row)
  unfolding map_from
  places-after f zero xs places row = from-start-after f xs row (λ k. ap f (sym (zero-add k)) ∙ places.at k)
  places-after f (suc n) xs places [] = unfold accesses_after in refl
  places-after f (suc n) xs places (p ∷ row) =
      ap₂ ◌∷◌ (ap (λ (x : Option AccessKind). next_by x r p) (places.before 0 (omega arith)))
      (each-shift (next_at f) 0 row ∙ places-after (behind f) n xs (behind_places f n xs places) row)

-- ---- which numbers lie in a range
pub within-range : (from n k : ℕ) → from ≤ k → k < from + n → in_range from n k ≡ true
within-range from n k l h = rw (le-leb from k l) (lt-ltb k (from + n) h)

pub below-range : (from n k : ℕ) → k < from → in_range from n k ≡ false
below-range from n k h = rw (lt-leb from k h)

pub behind-range : (from n k : ℕ) → from + n ≤ k → in_range from n k ≡ false
behind-range from n k h = rw (le-leb from k (omega arith)) (le-ltb k (from + n) h)

-- ---- an access of one kind to n bytes
abbrev pub access_in : AccessKind → ℕ → ℕ → ℕ → Option AccessKind
access_in a from n b = if in_range from n b then some a else none

pub range-places : (a : AccessKind) (from n : ℕ) → Places (access_in a from n) from (replicate n (some a))
range-places a from n =
    record {
      before = λ k l. rw (below-range from n k l);
      at =
          λ k.
          elim (dec_lt k n) [
            | yes l ↦ rw (within-range from n (from + k) (omega arith) (omega arith)) (sym (get_or-replicate n k (some a) none l))
            | no l ↦ rw (behind-range from n (from + k) (omega arith)) (sym (get_or-eq_default (replicate n (some a)) none {n = k} (omega (arith, length-replicate n (some a)))))
          ];
    }

module _ (a : AccessKind) (r : NodeRelation) where
  same-refusal : (n : ℕ) (row : List Permission) → accesses_refusal r (replicate n (some a)) row ≡ first_refusal (refusal a r) (take n row)
  unfolding accesses_refusal first_refusal
  same-refusal n [] = sym (ap (first_refusal (refusal a r)) (take-nil n))
  same-refusal zero (p ∷ row) = refl
  same-refusal (suc n) (p ∷ row) = ap (λ (m : ℕ). refusal a r p or m) (same-refusal n row)

  same_after : (n : ℕ) (row : List Permission) → accesses_after r (replicate n (some a)) row ≡ map (next a r) (take n row) ++ drop n row
  unfolding accesses_after
  same_after n [] = sym (ap₂ (λ (x y : List Permission). map (next a r) x ++ y) (take-nil n) (drop-nil n))
  same_after zero (p ∷ row) = refl
  same_after (suc n) (p ∷ row) = ap (λ (l : List Permission). next a r p ∷ l) (same_after n row)

  pub range-refusal : (from n : ℕ) (row : List Permission) → row_refusal (access_in a from n) r 0 row ≡ first_refusal (refusal a r) (take n (drop from row))
  range-refusal from n row =
      places-refusal r (access_in a from n) from (replicate n (some a)) (range-places a from n) row ∙ same-refusal n (drop from row)

  pub range-after : (from n : ℕ) (row : List Permission) → row_after (access_in a from n) r row ≡ take from row ++ (map (next a r) (take n (drop from row)) ++ drop n (drop from row))
  range-after from n row =
      places-after r (access_in a from n) from (replicate n (some a)) (range-places a from n) row
      ∙ ap (λ (l : List Permission). take from row ++ l) (same_after n (drop from row))

-- ---- a list of accesses, at the bytes from `from` on
abbrev pub accesses_from : ℕ → List (Option AccessKind) → ℕ → Option AccessKind
accesses_from from xs k = if in_range from (length xs) k then get_or xs (k - from) none else none

pub list-places : (from : ℕ) (xs : List (Option AccessKind)) → Places (accesses_from from xs) from xs
list-places from xs =
    record {
      before = λ k l. rw (below-range from (length xs) k l);
      at =
          λ k.
          elim (dec_lt k (length xs)) [
            | yes l ↦ rw (within-range from (length xs) (from + k) (omega arith) (omega arith)) (ap (λ (i : ℕ). get_or xs i none) (ahead from k))
            | no l ↦ rw (behind-range from (length xs) (from + k) (omega arith)) (sym (get_or-eq_default xs none {n = k} (omega arith)))
          ];
    }
  where
    ahead : (from k : ℕ) → from + k - from ≡ k
    ahead from k = omega arith

pub list-refusal : (r : NodeRelation) (from : ℕ) (xs : List (Option AccessKind)) (row : List Permission) → row_refusal (accesses_from from xs) r 0 row ≡ accesses_refusal r xs (drop from row)
list-refusal r from xs row = places-refusal r (accesses_from from xs) from xs (list-places from xs) row

pub list-after : (r : NodeRelation) (from : ℕ) (xs : List (Option AccessKind)) (row : List Permission) → row_after (accesses_from from xs) r row ≡ take from row ++ accesses_after r xs (drop from row)
list-after r from xs row = places-after r (accesses_from from xs) from xs (list-places from xs) row

-- ---- a release: at each byte the access that another row's permission there makes
abbrev pub end_access_at : List Permission → ℕ → Option AccessKind
end_access_at released b = end_access (get_or released b (Unprot Cell))

pub release-places : (released : List Permission) → Places (end_access_at released) 0 (map end_access released)
release-places released =
    record {
      before = λ k l. absurd (omega arith);
      at = λ k. ap (end_access_at released) (zero-add k) ∙ sym (get_or-map end_access released k (Unprot Cell));
    }

pub release-refusal : (r : NodeRelation) (released row : List Permission) → row_refusal (end_access_at released) r 0 row ≡ accesses_refusal r (map end_access released) row
release-refusal r released row = places-refusal r (end_access_at released) 0 (map end_access released) (release-places released) row

pub release-after : (r : NodeRelation) (released row : List Permission) → row_after (end_access_at released) r row ≡ accesses_after r (map end_access released) row
release-after r released row = places-after r (end_access_at released) 0 (map end_access released) (release-places released) row
