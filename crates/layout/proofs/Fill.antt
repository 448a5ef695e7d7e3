-- What it is to fill a wanted mask into a buffer, by the mask's form: none, of so many bytes, a tuple's.
use Rattle.std.specs.Prelude.{if◌then◌else◌}
use Prim.Native.Nat.{ℕ, suc, ◌+◌, ◌-◌, ◌%◌, ◌≤◌, ◌<◌}
use mathlib.Core.Path.{◌≡◌, refl, sym, ap, ap₂, subst, ◌∙◌}
use mathlib.Core.Bool.{Bool, true, false}
use mathlib.Core.Option.{Option, none, some}
use mathlib.Core.List.{List, [], ◌∷◌, ◌++◌, map-append, append-nil}
use native.Mathlib.Omega.{arith}
use lib.Dec.{leb}
use lib.ListN.{length, get_or, take, drop, length-append, length-drop, take-append-drop}
use borrow.Author.Tests.{le-leb, lt-leb, leb-true, leb-false}
use Rattle.definition.specs.Notation.{table_from, table, write_at}
use Rattle.definition.specs.Layout.{FreezeMask, UnsafeCell, is_freeze, bounded_mask, sized_mask, tuple_mask}
use Rattle.definition.proofs.Lists.{table-length}
use Rattle.definition.proofs.Writes.{write-none, write-parts}
use Rattle.std.specs.Prelude.{Some, None}
use Rattle.std.specs.Prelude as code
use Rattle.layout.specs.Filled.{mask_byte, mask_bytes, fitting, Fills}
use Rattle.layout.proofs.Lists.{drop-behind}
use Rattle.layout.proofs.Cells.{mask-length, elements}

-- ---- a mask that fits, or not
fit-some : (n : ℕ) (m : FreezeMask) (b : Bool) → b ≡ true → length m ≤ n → fitting n (if b then some m else none) ≡ some m
fit-some n m b e h = rw (e, le-leb (length m) n h)

fit_none : (n : ℕ) (m : FreezeMask) (b : Bool) → n < length m → fitting n (if b then some m else none) ≡ none
fit_none n m true h = rw (lt-leb (length m) n h)
fit_none n m false h = refl

fills-some : (wanted : Option FreezeMask) (before after : List ℕ) (m : FreezeMask) (k : ℕ)
    → fitting (length before) wanted ≡ some m → k ≡ length m → after ≡ write_at 0 (mask_bytes m) before → Fills wanted before (Some k) after
fills-some wanted before after m k e l h = record { answer = rw e (ap Some l); contents = rw e h }

fills-none : (wanted : Option FreezeMask) (before after : List ℕ) → fitting (length before) wanted ≡ none → after ≡ before → Fills wanted before None after
fills-none wanted before after e h = record { answer = rw e; contents = rw e h }

-- what is wanted, said otherwise
pub instead : {v w : Option FreezeMask} {before after : List ℕ} {r : code.Option ℕ} → w ≡ v → Fills v before r after → Fills w before r after
instead e h = rw e h

pub restated : {w : Option FreezeMask} {before before' after after' : List ℕ} {r r' : code.Option ℕ} → before ≡ before' → r ≡ r' → after ≡ after'
    → Fills w before r after → Fills w before' r' after'
restated b e a h = rw (← b, ← e, ← a) h

-- no mask is wanted
pub nothing : (before : List ℕ) → Fills none before None before
nothing before = record { answer = refl; contents = refl }

-- ---- masks written at the start of a buffer
pub bytes-length : (m : FreezeMask) → length (mask_bytes m) ≡ length m
unfolding mask_bytes
bytes-length [] = refl
bytes-length (b ∷ m) = ap suc (bytes-length m)

bytes-append : (m k : FreezeMask) → mask_bytes (m ++ k) ≡ mask_bytes m ++ mask_bytes k
unfolding mask_bytes
bytes-append m k = map-append mask_byte m k

pub written : (m : FreezeMask) (before : List ℕ) → length m ≤ length before → mask_bytes m ++ drop (length m) before ≡ write_at 0 (mask_bytes m) before
written m before h =
    let e : write_at 0 (mask_bytes m ++ []) before ≡ mask_bytes m ++ write_at 0 [] (drop (length (mask_bytes m)) before) =
    write-parts (mask_bytes m) [] before (omega (arith, bytes-length m)) in
    sym (simp (append-nil, write-none, bytes-length) at e)

-- ---- so many bytes
module _ (before : List ℕ) (bound : length before ≤ 4096) (size : ℕ) (f : ℕ → Bool) where
  pub no_room : length before < size → Fills (bounded_mask size f) before None before
  no_room h =
      fills-none (bounded_mask size f) before before
      (fit_none (length before) (table size f) (leb size 4096) (rw (table-length f 0 size) h))
      refl

  pub room : (after : List ℕ) → size ≤ length before → after ≡ mask_bytes (table size f) ++ drop size before → Fills (bounded_mask size f) before (Some size) after
  room after h e =
      fills-some (bounded_mask size f) before after (table size f) size
      (fit-some (length before) (table size f) (leb size 4096) (le-leb size 4096 (omega arith)) (rw (table-length f 0 size) h))
      (sym (table-length f 0 size))
      (e ∙ (ap (λ (k : ℕ). mask_bytes (table size f) ++ drop k before) (sym (table-length f 0 size))
      ∙ written (table size f) before (rw (table-length f 0 size) h)))

  pub no_bytes : size ≡ 0 → Fills (bounded_mask size f) before (Some 0) before
  unfolding mask_bytes table_from
  no_bytes e = subst (λ (k : ℕ). Fills (bounded_mask size f) before (Some k) before) e (room before (omega arith) (rw e))

-- ---- so many elements: the first is filled, and repeated
module _ (before : List ℕ) (bound : length before ≤ 4096) (size total : ℕ) (cs : List UnsafeCell) where
  pub repeated : (first all : List ℕ) → 0 < size → size ≤ total → total ≤ length before
      → first ≡ mask_bytes (table size (is_freeze cs))
      → all ≡ table (length (take total (first ++ drop size before))) (λ b. get_or (take total (first ++ drop size before)) (b % size) 0)
      → Fills (bounded_mask total (λ b. is_freeze cs (b % size))) before (Some total) (all ++ drop total (first ++ drop size before))
  repeated first all p l h e a =
      let one : length first ≡ size = ap length e ∙ mask-length size (is_freeze cs) in
      let whole : length (first ++ drop size before) ≡ length before = simp (length-append, length-drop) (omega arith) in
      let rest : drop total (first ++ drop size before) ≡ drop total before = rw (← one) (drop-behind total first before (omega arith)) in
      room before bound total (λ b. is_freeze cs (b % size)) (all ++ drop total (first ++ drop size before)) h
      (ap₂ ◌++◌ (a ∙ elements size total cs (drop size before) (first ++ drop size before) p (ap (λ (x : List ℕ). x ++ drop size before) e) (omega arith) l) rest)

-- ---- a tuple
pub fitting-some : (n : ℕ) (tail : Option FreezeMask) (t : FreezeMask) → fitting n tail ≡ some t → (tail ≡ some t) × (length t ≤ n)
fitting-some n none t e = let z : ◌≡◌ {A = ℕ} 0 1 = cc in absurd (omega arith)
fitting-some n (some k) t e = go (leb (length k) n) refl e
  where
    go : (b : Bool) → leb (length k) n ≡ b → fitting n (some k) ≡ some t → (some k ≡ some t) × (length t ≤ n)
    go true l e =
        let s : some k ≡ some t = rw l at e in
        let q : k ≡ t = cc in
        (s, subst (λ (x : FreezeMask). length x ≤ n) q (leb-true (length k) n l))
    go false l e = let s : none ≡ some t = rw l at e in let z : ◌≡◌ {A = ℕ} 0 1 = cc in absurd (omega arith)

-- what a filled tail tells: a mask that fits, with its length and contents; or none
data Outcome (tail : Option FreezeMask) (before : List ℕ) : code.Option ℕ → List ℕ → Type 0 where
  has : (t : FreezeMask) → tail ≡ some t → length t ≤ length before → Outcome tail before (Some (length t)) (write_at 0 (mask_bytes t) before)
  lacks : fitting (length before) tail ≡ none → Outcome tail before None before

outcome : (tail : Option FreezeMask) (before : List ℕ) (r : code.Option ℕ) (after : List ℕ) → Fills tail before r after → Outcome tail before r after
outcome tail before r after h = go (fitting (length before) tail) refl
  where
    go : (x : Option FreezeMask) → fitting (length before) tail ≡ x → Outcome tail before r after
    go none e = rw (h.answer, h.contents, e) (lacks e)
    go (some t) e = rw (h.answer, h.contents, e) (has t (fitting-some (length before) tail t e).0 (fitting-some (length before) tail t e).1)

tuple-over : (n : ℕ) (b : Bool) (m : FreezeMask) (tail : Option FreezeMask) → ((t : FreezeMask) → tail ≡ some t → n < length m + length t)
    → fitting n (tuple_mask (if b then some m else none) tail) ≡ none
tuple-over n false m tail h = refl
tuple-over n true m none h = refl
tuple-over n true m (some t) h =
    fit_none n (m ++ t) (leb (length m + length t) 4096) (rw (length-append m t) (h t refl))

module _ (before : List ℕ) (size : ℕ) (cs : List UnsafeCell) where
  -- the head has no room
  pub head-over : (tail : Option FreezeMask) → length before < size → Fills (tuple_mask (sized_mask size cs) tail) before None before
  head-over tail h =
      fills-none (tuple_mask (sized_mask size cs) tail) before before
      (tuple-over (length before) (leb size 4096) (table size (is_freeze cs)) tail (λ t e. omega (arith, table-length (is_freeze cs) 0 size)))
      refl

  -- the tail has no mask
  pub tail_none : Fills (tuple_mask (sized_mask size cs) none) before None before
  tail_none =
      fills-none (tuple_mask (sized_mask size cs) none) before before
      (tuple-over (length before) (leb size 4096) (table size (is_freeze cs)) none (λ t e. let z : ◌≡◌ {A = ℕ} 0 1 = cc in absurd (omega arith)))
      refl

  module _ (tail : Option FreezeMask) (h : size ≤ length before) where
    -- the tail was filled behind the head's end, or nothing was
    pub tail-over : (after : List ℕ) → Fills tail (drop size before) None after → Fills (tuple_mask (sized_mask size cs) tail) before None (take size before ++ after)
    tail-over after f = go refl (outcome tail (drop size before) None after f)
      where
        go : {r : code.Option ℕ} {after : List ℕ} → r ≡ None → Outcome tail (drop size before) r after → Fills (tuple_mask (sized_mask size cs) tail) before None (take size before ++ after)
        go n (has t s l) = let z : ◌≡◌ {A = ℕ} 0 1 = cc in absurd (omega arith)
        go n (lacks e) =
            fills-none (tuple_mask (sized_mask size cs) tail) before (take size before ++ drop size before)
            (tuple-over (length before) (leb size 4096) (table size (is_freeze cs)) tail (λ t k. over t (rw k at e)))
            (take-append-drop size before)
          where
            over : (t : FreezeMask) → fitting (length (drop size before)) (some t) ≡ none → length before < length (table size (is_freeze cs)) + length t
            over t e = by (leb (length t) (length (drop size before))) refl
              where
                by : (b : Bool) → leb (length t) (length (drop size before)) ≡ b → length before < length (table size (is_freeze cs)) + length t
                by true l = let s : some t ≡ none = rw l at e in let z : ◌≡◌ {A = ℕ} 0 1 = cc in absurd (omega arith)
                by false l = omega (arith, leb-false (length t) (length (drop size before)) l, length-drop size before, table-length (is_freeze cs) 0 size)

    pub tail-filled : (len : ℕ) (after : List ℕ) → length before ≤ 4096 → Fills tail (drop size before) (Some len) after
        → Fills (tuple_mask (sized_mask size cs) tail) before (Some (size + len)) (mask_bytes (table size (is_freeze cs)) ++ after)
    tail-filled len after bound f = go refl (outcome tail (drop size before) (Some len) after f)
      where
        head : FreezeMask
        head = table size (is_freeze cs)

        go : {r : code.Option ℕ} {after : List ℕ} → r ≡ Some len → Outcome tail (drop size before) r after
            → Fills (tuple_mask (sized_mask size cs) tail) before (Some (size + len)) (mask_bytes head ++ after)
        go e (lacks l) = let z : ◌≡◌ {A = ℕ} 0 1 = cc in absurd (omega arith)
        go e (has t s l) =
            let k : length t ≡ len = cc in
            let size_of : length head ≡ size = table-length (is_freeze cs) 0 size in
            let fits : length t ≤ length before - size = rw (length-drop size before) at l in
            fills-some (tuple_mask (sized_mask size cs) tail) before (mask_bytes head ++ write_at 0 (mask_bytes t) (drop size before)) (head ++ t) (size + len)
            (rw (s, le-leb size 4096 (omega arith)) (fit-some (length before) (head ++ t) (leb (length head + length t) 4096) (le-leb (length head + length t) 4096 (omega arith)) (rw (length-append head t) (omega arith))))
            (rw (length-append head t) (omega arith))
            (rw (bytes-append head t) (sym (write-parts (mask_bytes head) (mask_bytes t) before (omega (arith, bytes-length head)) ∙ rw (bytes-length head, size_of))))
