-- What the test at a width decides: buffers that pass it are those of a valid memory that is in the width's addresses and positions, and the buffers of
-- such a memory pass it.
use Prim.Native.Nat.{ℕ, ◌+◌, ◌-◌, ◌^◌, ◌<◌}
use mathlib.Core.Path.{◌≡◌, sym, ap, ap₂, subst, ◌∙◌}
use mathlib.Core.Bool.{Bool, true, false, not, ◌&&◌}
use mathlib.Core.List.{List, [], ◌∷◌, ◌++◌}
use borrow.Author.Tests.{lt-leb, leb-false, not-true}
use lib.ListN.{length, replicate}
use Rattle.definition.specs.Notation.{any}
use Rattle.definition.specs.Width.{Width, bits, addresses}
use Rattle.definition.specs.Width.Width.{Bits64}
use Rattle.definition.specs.Memory.{Memory, size, allocation_at}
use Rattle.definition.specs.Request.{is_too_far}
use Rattle.definition.specs.Valid.{All, ValidAllocation, Valid, NarrowAllocation, Narrow}
use Rattle.definition.proofs.Alls.{all-imp, all_both, all_append, all_replicate, none_pass}
use Rattle.definition.proofs.Any.{none_any}
use Rattle.definition.proofs.Booleans.{and_left, and_right}
use Rattle.definition.proofs.NarrowRuns.{zero-near}
use Rattle.definition.proofs.Places.{valid-at}
use Rattle.pointer.specs.Width.{is_width, width_at}
use Rattle.pointer.proofs.Widths.{none-far, width-number}
use Rattle.tables.specs.Encoding.{Buffers, words_of, concat_map, pad, held}
use Rattle.tables.specs.Decoding.{view}
use Rattle.tables.specs.Held.{Records, Holds}
use Rattle.tables.specs.declared.Allocation as code
use Rattle.tables.proofs.Lookup.{record_at, address-at, size-at}
use Rattle.tables.proofs.ReadBack.{view-held, holds-words}
use Rattle.wellformed.specs.WellFormed.{well_formed}
use Rattle.wellformed.specs.AtWidth.{is_beyond, fits_in, fits_width, well_formed_at, HoldsAt}
use Rattle.wellformed.proofs.Sound.{sound}
use Rattle.wellformed.proofs.Complete.{complete}

-- ---- where the allocation of a record ends
module _ {m : Memory} {A : List ℕ} (h : Records m A) {i : ℕ} (made : i < length m) {x : code.Allocation} (read : x ≡ record_at A i) where
  pub read-end : x.address + x.size ≡ (allocation_at m i).address + size (allocation_at m i)
  read-end = rw read (ap₂ ◌+◌ (address-at h i made) (size-at h i made))

  pub read-space : x.address + x.size < 2 ^ 64
  read-space = rw read-end (valid-at m i h.valid made).in_space

-- ---- the words of all allocations, and of each
module _ (P : ℕ → Type 0) where
  all-front : (xs ys : List ℕ) → All P (xs ++ ys) → All P xs
  all-front [] ys h = tt
  all-front (x ∷ xs) ys h = (h.0, all-front xs ys h.1)

  all-behind : (xs ys : List ℕ) → All P (xs ++ ys) → All P ys
  all-behind [] ys h = h
  all-behind (x ∷ xs) ys h = all-behind xs ys h.1

  together : (m : Memory) → All (λ a. All P a.words) m → All P (concat_map words_of m)
  unfolding concat_map
  together [] h = tt
  together (a ∷ m) h = all_append P a.words (concat_map words_of m) h.0 (together m h.1)

  apart : (m : Memory) → All P (concat_map words_of m) → All (λ a. All P a.words) m
  unfolding concat_map
  apart [] h = tt
  apart (a ∷ m) h = (all-front a.words (concat_map words_of m) h, apart m (all-behind a.words (concat_map words_of m) h))

module _ (w : Width) (m : Memory) where
  abbrev Near : ℕ → Type 0
  Near b = is_too_far w b ≡ false

  held-near : Narrow w m → All Near (held 4096 words_of m)
  unfolding held pad
  held-near h =
      let zeros = 4096 - length (concat_map words_of m) in
      all_append Near (concat_map words_of m) (replicate zeros 0)
      (together Near m (all-imp (NarrowAllocation w) (λ a. All Near a.words) (λ a n. n.positions) m h)) (all_replicate Near zeros 0 (zero-near w))

  near-held : All Near (held 4096 words_of m) → All (λ a. All Near a.words) m
  unfolding held pad
  near-held h = apart Near m (all-front Near (concat_map words_of m) (replicate (4096 - length (concat_map words_of m)) 0) h)

  -- ---- a memory fits where it is narrow
  pub narrow-fits : {words : List ℕ} → words ≡ held 4096 words_of m → Narrow w m → fits_in w m words ≡ true
  unfolding fits_in
  narrow-fits e h =
      rw (
        e,
        none_any (is_beyond w) m (all-imp (NarrowAllocation w) (λ a. is_beyond w a ≡ false) (λ a n. lt-leb (addresses w) (a.address + size a) n.in_space) m h),
        none_any (is_too_far w) (held 4096 words_of m) (held-near h),
      )

  pub fits-narrow : {words : List ℕ} → words ≡ held 4096 words_of m → fits_in w m words ≡ true → Narrow w m
  unfolding fits_in
  fits-narrow {words} e f =
      let beyond : Bool = any (is_beyond w) m in
      let far : Bool = any (is_too_far w) words in
      let below = none_pass (is_beyond w) m (not-true beyond (and_left (not beyond) (not far) f)) in
      let near : All Near words = none_pass (is_too_far w) words (not-true far (and_right (not beyond) (not far) f)) in
      all_both (λ a. is_beyond w a ≡ false) (λ a. All Near a.words) (NarrowAllocation w)
      (λ a b n. record { in_space = leb-false (addresses w) (a.address + size a) b; positions = n }) m below (near-held (subst (All Near) e near))

-- at 64 bits every one does
pub widest_fits : (m : Memory) (words : List ℕ) → Valid m → true ≡ fits_in Bits64 m words
unfolding fits_in
widest_fits m words v =
    rw (
      none_any (is_beyond Bits64) m
          (all-imp ValidAllocation (λ a. is_beyond Bits64 a ≡ false) (λ a n. lt-leb (addresses Bits64) (a.address + size a) n.in_space) m v.each),
      none-far words,
    )

-- ---- the test
module _ (n : ℕ) (b : Buffers) where
  pub holds_at : well_formed_at n b ≡ true → HoldsAt n (view b) b
  unfolding well_formed_at
  holds_at formed =
      let formed-fits : Bool = well_formed b && fits_width (width_at n) b in
      let both : formed-fits ≡ true = and_right (is_width n) formed-fits formed in
      let h : Holds (view b) b = sound b (and_left (well_formed b) (fits_width (width_at n) b) both) in
      record {
        numbered = and_left (is_width n) formed-fits formed;
        holds = h;
        narrow = fits-narrow (width_at n) (view b) (holds-words h) (and_right (well_formed b) (fits_width (width_at n) b) both);
      }

  -- what is asked most
  pub sound-at : well_formed_at n b ≡ true → Holds (view b) b
  sound-at formed = (holds_at formed).holds

  pub complete-at : (m : Memory) → HoldsAt n m b → well_formed_at n b ≡ true
  unfolding well_formed_at
  complete-at m h =
      rw (h.numbered, complete m b h.holds)
      (ap (λ (x : Memory). fits_in (width_at n) x b.words) (view-held m b h.holds) ∙ narrow-fits (width_at n) m (holds-words h.holds) h.narrow)

pub complete-width : (w : Width) (m : Memory) (b : Buffers) → Holds m b → Narrow w m → well_formed_at (bits w) b ≡ true
complete-width w m b h narrow =
    complete-at (bits w) b m (record { numbered = (width-number w).0; holds = h; narrow = subst (λ (x : Width). Narrow x m) (sym (width-number w).1) narrow })
