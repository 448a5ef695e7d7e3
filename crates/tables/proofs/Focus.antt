-- The focus: where one allocation's part of a buffer stands, and what a change of it is to the memory.
-- One law serves every buffer: f gives an allocation's part, `total` is the buffer's length.
use Prim.Native.Nat.{ℕ, zero, suc, ◌+◌, ◌-◌, ◌≤◌, ◌<◌}
use mathlib.Core.Path.{◌≡◌, refl, sym, ap, ◌∙◌}
use mathlib.Core.List.{List, [], ◌∷◌, ◌++◌, append_assoc, append-nil}
use native.Mathlib.Omega.{arith}
use borrow.Rule.Slice.PartMut.{put_mid}
use lib.ListN.{length, take, drop, replicate, length-append, length-replicate, replicate-append-replicate}
use lib.Seq.{take-append_seam, drop-append_seam, take-length, drop-append-add, split_at, paste, length-paste}
use Rattle.definition.specs.Notation.{mutate_at}
use Rattle.definition.specs.Memory.{Allocation, Memory, no_allocation, allocation_at}
use Rattle.definition.proofs.Lists.{mutate-split}
use Rattle.definition.proofs.Parts.{drop-zeros}
use Rattle.tables.specs.Encoding.{concat_map, pad, held}
use Rattle.tables.specs.Held.{start_of, inserted}
use Rattle.tables.proofs.Parts.{paste-after, paste-before, put-between, insert-between}

pub concat-append : {X : Type 0} (f : X → List ℕ) (l r : List X) → concat_map f (l ++ r) ≡ concat_map f l ++ concat_map f r
unfolding concat_map
concat-append f [] r = refl
concat-append f (x ∷ l) r = ap (λ (t : List ℕ). f x ++ t) (concat-append f l r) ∙ sym (append_assoc (f x) (concat_map f l) (concat_map f r))

pub length-held : (total : ℕ) (f : Allocation → List ℕ) (m : Memory) → length (concat_map f m) ≤ total → length (held total f m) ≡ total
unfolding held pad
length-held total f m h = simp (length-append, length-replicate) (omega arith)

-- a part that a change of one allocation leaves
concat-kept : (f : Allocation → List ℕ) (g : Allocation → Allocation) → ((a : Allocation) → f (g a) ≡ f a) → (n : ℕ) (m : Memory) → concat_map f (mutate_at n g m) ≡ concat_map f m
unfolding concat_map mutate_at
concat-kept f g e n [] = refl
concat-kept f g e zero (a ∷ m) = ap (λ (l : List ℕ). l ++ concat_map f m) (e a)
concat-kept f g e (suc n) (a ∷ m) = ap (λ (l : List ℕ). f a ++ l) (concat-kept f g e n m)

pub held_kept : (total : ℕ) (f : Allocation → List ℕ) (g : Allocation → Allocation) → ((a : Allocation) → f (g a) ≡ f a) → (n : ℕ) (m : Memory)
    → held total f (mutate_at n g m) ≡ held total f m
unfolding held
held_kept total f g e n m = ap (pad total) (concat-kept f g e n m)

module _ (total : ℕ) (f : Allocation → List ℕ) (m : Memory) (n : ℕ) (made : n < length m) where
  -- what stands behind allocation n's part
  behind : List ℕ
  behind = concat_map f (drop (suc n) m) ++ replicate (total - length (concat_map f m)) 0

  concat-at : concat_map f m ≡ concat_map f (take n m) ++ (f (allocation_at m n) ++ concat_map f (drop (suc n) m))
  unfolding concat_map
  concat-at = ap (concat_map f) (split_at m n no_allocation made) ∙ concat-append f (take n m) (allocation_at m n ∷ drop (suc n) m)

  concat-mutate : (g : Allocation → Allocation)
      → concat_map f (mutate_at n g m) ≡ concat_map f (take n m) ++ (f (g (allocation_at m n)) ++ concat_map f (drop (suc n) m))
  unfolding concat_map
  concat-mutate g =
      ap (concat_map f) (mutate-split n g m no_allocation made) ∙ concat-append f (take n m) (g (allocation_at m n) ∷ drop (suc n) m)

  -- the buffer around allocation n's part
  held_at : held total f m ≡ concat_map f (take n m) ++ (f (allocation_at m n) ++ behind)
  unfolding held pad behind
  held_at =
      let X = f (allocation_at m n) in
      let R = concat_map f (drop (suc n) m) in
      let Z : List ℕ = replicate (total - length (concat_map f m)) 0 in
      ap (λ (t : List ℕ). t ++ Z) concat-at
      ∙ append_assoc (concat_map f (take n m)) (X ++ R) Z ∙ ap (λ (t : List ℕ). concat_map f (take n m) ++ t) (append_assoc X R Z)

  -- the part lies within the buffer, and within what is used of it
  pub focus-used : start_of f m n + length (f (allocation_at m n)) ≤ length (concat_map f m)
  focus-used = rw concat-at (simp length-append (omega arith))

  pub focus-room : start_of f m n + length (f (allocation_at m n)) ≤ length (held total f m)
  focus-room = rw held_at (simp length-append (omega arith))

  -- ---- reading
  pub focus-part : take (length (f (allocation_at m n))) (drop (start_of f m n) (held total f m)) ≡ f (allocation_at m n)
  focus-part = rw (held_at, drop-append_seam, take-append_seam)

  -- ---- writing: g is what happens to allocation n
  module _ (g : Allocation → Allocation) where
    held-mutated : length (f (g (allocation_at m n))) ≡ length (f (allocation_at m n))
        → held total f (mutate_at n g m) ≡ concat_map f (take n m) ++ (f (g (allocation_at m n)) ++ behind)
    unfolding held pad behind
    held-mutated e =
        let Y = f (g (allocation_at m n)) in
        let R = concat_map f (drop (suc n) m) in
        let l : length (concat_map f (mutate_at n g m)) ≡ length (concat_map f m) = rw (concat-mutate g, concat-at) (simp (length-append, e)) in
        let Z : List ℕ = replicate (total - length (concat_map f m)) 0 in
        ap (λ (k : ℕ). concat_map f (mutate_at n g m) ++ replicate (total - k) 0) l
        ∙ ap (λ (t : List ℕ). t ++ Z) (concat-mutate g)
        ∙ append_assoc (concat_map f (take n m)) (Y ++ R) Z ∙ ap (λ (t : List ℕ). concat_map f (take n m) ++ t) (append_assoc Y R Z)

    -- the part is as it was
    pub focus-same : f (g (allocation_at m n)) ≡ f (allocation_at m n) → held total f (mutate_at n g m) ≡ held total f m
    focus-same e =
        held-mutated (ap length e) ∙ ap (λ (t : List ℕ). concat_map f (take n m) ++ (t ++ behind)) e ∙ sym held_at

    -- the part is replaced by as many numbers
    pub focus-mutate : (new : List ℕ) → length new ≡ length (f (allocation_at m n)) → f (g (allocation_at m n)) ≡ new
        → put_mid (start_of f m n) (length (f (allocation_at m n))) (held total f m) new ≡ held total f (mutate_at n g m)
    focus-mutate new l e =
        ap (λ (t : List ℕ). put_mid (start_of f m n) (length (f (allocation_at m n))) t new) held_at
        ∙ put-between (concat_map f (take n m)) (f (allocation_at m n)) behind new
        ∙ ap (λ (t : List ℕ). concat_map f (take n m) ++ (t ++ behind)) (sym e)
        ∙ sym (held-mutated (ap length e ∙ l))

    -- k numbers are written into it
    pub focus-paste : (off : ℕ) (s : List ℕ) (k : ℕ) → off + k ≤ length (f (allocation_at m n)) → k ≤ length s
        → f (g (allocation_at m n)) ≡ paste (f (allocation_at m n)) off s k
        → paste (held total f m) (start_of f m n + off) s k ≡ held total f (mutate_at n g m)
    focus-paste off s k fits enough e =
        ap (λ (t : List ℕ). paste t (start_of f m n + off) s k) held_at
        ∙ paste-after (concat_map f (take n m)) (f (allocation_at m n) ++ behind) off s k
        ∙ ap (λ (t : List ℕ). concat_map f (take n m) ++ t) (paste-before (f (allocation_at m n)) behind off s k fits)
        ∙ ap (λ (t : List ℕ). concat_map f (take n m) ++ (t ++ behind)) (sym e)
        ∙ sym (held-mutated (ap length e ∙ length-paste (f (allocation_at m n)) off s k fits enough))

    -- a row is put behind it: what stands behind moves up
    pub focus-insert : (row : List ℕ) → length (concat_map f m) + length row ≤ total → f (g (allocation_at m n)) ≡ f (allocation_at m n) ++ row
        → inserted (held total f m) (start_of f m n + length (f (allocation_at m n))) row ≡ held total f (mutate_at n g m)
    unfolding behind held pad
    focus-insert row room e =
        let L = concat_map f (take n m) in
        let X = f (allocation_at m n) in
        let R = concat_map f (drop (suc n) m) in
        let s : concat_map f (mutate_at n g m) ≡ L ++ ((X ++ row) ++ R) = concat-mutate g ∙ ap (λ (t : List ℕ). L ++ (t ++ R)) e in
        let k : total - length (concat_map f m) - length row ≡ total - length (L ++ ((X ++ row) ++ R)) =
        rw concat-at (simp length-append (omega arith)) in
        ap (λ (t : List ℕ). inserted t (length L + length X) row) held_at
        ∙ insert-between L X R row (total - length (concat_map f m)) (omega arith)
        ∙ ap (λ (z : ℕ). L ++ ((X ++ row) ++ (R ++ replicate z 0))) k
        ∙ sym (ap (λ (t : List ℕ). t ++ replicate (total - length t) 0) s ∙ simp append_assoc)

-- ---- an allocation behind the others
module _ (total : ℕ) (f : Allocation → List ℕ) (m : Memory) (x : Allocation) where
  concat-snoc : concat_map f (m ++ (x ∷ [])) ≡ concat_map f m ++ f x
  unfolding concat_map
  concat-snoc = concat-append f m (x ∷ []) ∙ ap (λ (t : List ℕ). concat_map f m ++ t) (append-nil (f x))

  -- its part goes to the first zeros
  pub focus-append : length (concat_map f m) + length (f x) ≤ total
      → paste (held total f m) (length (concat_map f m)) (f x) (length (f x)) ≡ held total f (m ++ (x ∷ []))
  unfolding held pad
  focus-append room =
      let X = concat_map f m in
      let z = total - length X in
      let n : z - length (f x) ≡ total - length (X ++ f x) = simp length-append (omega arith) in
      rw (concat-snoc, take-append_seam X (replicate z 0), take-length (f x), drop-append-add X (replicate z 0) (length (f x)), drop-zeros (length (f x)) z, n)

  -- and where its part is all zeros the buffer stays as it is
  pub focus-append-zeros : (k : ℕ) → f x ≡ replicate k 0 → length (concat_map f m) + k ≤ total
      → held total f (m ++ (x ∷ [])) ≡ held total f m
  unfolding held pad
  focus-append-zeros k e room =
      let X = concat_map f m in
      let s : concat_map f (m ++ (x ∷ [])) ≡ X ++ replicate k 0 = concat-snoc ∙ ap (λ (t : List ℕ). X ++ t) e in
      let n : k + (total - length (X ++ replicate k 0)) ≡ total - length X = simp (length-append, length-replicate) (omega arith) in
      rw s (append_assoc X (replicate k 0) (replicate (total - length (X ++ replicate k 0)) 0)
      ∙ ap (λ (t : List ℕ). X ++ t) (replicate-append-replicate k (total - length (X ++ replicate k 0)) 0)
      ∙ ap (λ (t : ℕ). X ++ replicate t 0) n)
