-- Cells: the test that they fit, cell by cell, and a mask that is filled by ones and cleared cell by cell.
use Prim.Native.Nat.{ℕ, zero, suc, ◌+◌, ◌-◌, ◌%◌, ◌≤◌, ◌<◌}
use mathlib.Core.Path.{◌≡◌, refl, sym, ap, ◌∙◌}
use mathlib.Core.Bool.{Bool, true, false}
use mathlib.Core.List.{List, [], ◌∷◌, ◌++◌, map, map-append}
use native.Mathlib.Nat.{zero-add, add-mod_right, mod-eq_of_lt, mod-lt}
use native.Mathlib.Numerals.{add-one}
use native.Mathlib.Decide.{dec_lt}
use native.Mathlib.Omega.{arith}
use lib.Dec.{leb}
use lib.ListN.{length, get_or, take, drop, set, replicate, length-replicate, get_or-replicate, drop_of_length-le, get_or-append, length-drop, take-append-drop}
use lib.Seq.{drop-cons, take-suc, get_or-take, length-take-le, get_or-set_same, get_or-set_other}
use borrow.Author.Tests.{le-leb, lt-leb}
use borrow.Rule.Slice.PartMut.{put_mid}
use Rattle.std.specs.Prelude.{min}
use Rattle.definition.specs.Notation.{table, write_at, any, in_range}
use Rattle.definition.specs.Layout.{UnsafeCell, unsafe_cell, cells_fit, is_freeze}
use Rattle.definition.proofs.Lists.{table-length, table_at, table-map, is-table}
use Rattle.definition.proofs.Writes.{write-past, write-length, before-write, within-write, behind-write}
use Rattle.definition.proofs.Any.{any-more}
use Rattle.definition.proofs.Ranges.{within-range, below-range, behind-range}
use Rattle.layout.specs.Filled.{mask_byte, mask_bytes}

-- ---- the cells from i on fit
module _ (end size : ℕ) (ws : List ℕ) (i : ℕ) (h : i < length ws) where
  pub fits_more : end ≤ (unsafe_cell (get_or ws i 0)).offset
      → cells_fit end size (map unsafe_cell (drop i ws))
      ≡ cells_fit ((unsafe_cell (get_or ws i 0)).offset + (unsafe_cell (get_or ws i 0)).size) size (map unsafe_cell (drop (i + 1) ws))
  unfolding cells_fit
  fits_more l = rw (drop-cons ws i 0 h, add-one i, le-leb end (unsafe_cell (get_or ws i 0)).offset l)

  pub fits-fails : (unsafe_cell (get_or ws i 0)).offset < end → cells_fit end size (map unsafe_cell (drop i ws)) ≡ false
  unfolding cells_fit
  fits-fails l = rw (drop-cons ws i 0 h, lt-leb end (unsafe_cell (get_or ws i 0)).offset l)

pub fits-end : (end size : ℕ) (ws : List ℕ) (i : ℕ) → length ws ≤ i → cells_fit end size (map unsafe_cell (drop i ws)) ≡ leb end size
unfolding cells_fit
fits-end end size ws i h = rw (drop_of_length-le ws h)

-- ---- one byte written to each place of a run, as far as the list goes: `put_mid` at the run's clipped bounds
module _ {A : Type 0} (v : A) where
  written-at : (o : ℕ) (ys xs : List A) → o ≤ length xs → write_at o ys xs ≡ take o xs ++ write_at 0 ys (drop o xs)
  unfolding write_at
  written-at zero ys xs h = refl
  written-at (suc o) ys [] h = absurd (omega arith)
  written-at (suc o) ys (x ∷ xs) h = ap (λ (l : List A). x ∷ l) (written-at o ys xs (omega arith))

  written-run : (n k : ℕ) (xs : List A) → k ≤ n → k ≤ length xs → (k < n → k ≡ length xs) → write_at 0 (replicate n v) xs ≡ replicate k v ++ drop k xs
  unfolding write_at
  written-run n zero [] h l e = refl
  written-run n (suc k) [] h l e = absurd (omega arith)
  written-run zero zero (x ∷ xs) h l e = refl
  written-run zero (suc k) (x ∷ xs) h l e = absurd (omega arith)
  written-run (suc n) zero (x ∷ xs) h l e = let z : ◌≡◌ {A = ℕ} 0 (suc (length xs)) = e (omega arith) in absurd (omega arith)
  written-run (suc n) (suc k) (x ∷ xs) h l e =
      ap (λ (l : List A). v ∷ l) (written-run n k xs (omega arith) (omega arith) (λ m. let s : suc k ≡ suc (length xs) = e (omega arith) in omega arith))

  pub run-written : (o n start end : ℕ) (xs : List A) → start ≡ min o (length xs) → end ≡ min (start + n) (length xs)
      → put_mid start (end - start) xs (replicate (end - start) v) ≡ write_at o (replicate n v) xs
  run-written o n start end xs s e =
      elim (dec_lt o (length xs)) [
        | yes h ↦
            let k : start ≡ o = omega arith in
            sym (rw (← k) (written-at start (replicate n v) xs (omega arith)
            ∙ ap (λ (l : List A). take start xs ++ l)
            (written-run n (end - start) (drop start xs) (omega arith) (omega (arith, length-drop start xs)) (λ m. omega (arith, length-drop start xs)))))
        | no h ↦
            let k : end - start ≡ 0 = omega arith in
            rw (k, write-past o (replicate n v) xs (omega arith)) (take-append-drop start xs)
      ]

-- ---- a mask of cells
module _ (cs : List UnsafeCell) (c : UnsafeCell) (b : ℕ) where
  cell_in : in_range c.offset c.size b ≡ true → is_freeze (cs ++ (c ∷ [])) b ≡ false
  unfolding is_freeze
  cell_in e = rw (any-more (λ (x : UnsafeCell). in_range x.offset x.size b) cs c, e)

  cell_out : in_range c.offset c.size b ≡ false → is_freeze (cs ++ (c ∷ [])) b ≡ is_freeze cs b
  unfolding is_freeze
  cell_out e = rw (any-more (λ (x : UnsafeCell). in_range x.offset x.size b) cs c, e)

mask-table : (n : ℕ) (f : ℕ → Bool) → mask_bytes (table n f) ≡ table n (λ b. mask_byte (f b))
unfolding mask_bytes
mask-table n f = table-map mask_byte f 0 n

mask_at : (n : ℕ) (f : ℕ → Bool) (b : ℕ) → b < n → get_or (mask_bytes (table n f)) b 0 ≡ mask_byte (f b)
mask_at n f b h = rw (mask-table n f, table_at (λ b. mask_byte (f b)) 0 n b 0 h, zero-add b)

pub mask-length : (n : ℕ) (f : ℕ → Bool) → length (mask_bytes (table n f)) ≡ n
mask-length n f = rw (mask-table n f) (table-length (λ b. mask_byte (f b)) 0 n)

is-mask : (n : ℕ) (f : ℕ → Bool) (l : List ℕ) → length l ≡ n → ((b : ℕ) → b < n → get_or l b 0 ≡ mask_byte (f b)) → l ≡ mask_bytes (table n f)
is-mask n f l e h = rw (mask-table n f) (is-table (λ b. mask_byte (f b)) n l 0 e h)

-- without cells all are ones
pub all_ones : (n : ℕ) → replicate n 1 ≡ mask_bytes (table n (is_freeze []))
unfolding is_freeze any
all_ones n = is-mask n (is_freeze []) (replicate n 1) (length-replicate n 1) (λ b h. get_or-replicate n b 1 0 h)

-- one cell more is cleared
one_cell : (n : ℕ) (cs : List UnsafeCell) (c : UnsafeCell)
    → write_at c.offset (replicate c.size 0) (mask_bytes (table n (is_freeze cs))) ≡ mask_bytes (table n (is_freeze (cs ++ (c ∷ []))))
one_cell n cs c =
    is-mask n (is_freeze (cs ++ (c ∷ []))) (write_at c.offset zeros old) (write-length c.offset zeros old ∙ mask-length n (is_freeze cs))
    (λ b h. elim (dec_lt b c.offset) [ yes l ↦ below b h l | no l ↦ elim (dec_lt b (c.offset + c.size)) [ yes m ↦ within b h (omega arith) m | no m ↦ behind b h (omega arith) ] ])
  where
    zeros : List ℕ
    zeros = replicate c.size 0

    old : List ℕ
    old = mask_bytes (table n (is_freeze cs))

    below : (b : ℕ) → b < n → b < c.offset → get_or (write_at c.offset zeros old) b 0 ≡ mask_byte (is_freeze (cs ++ (c ∷ [])) b)
    below b h l = rw (before-write c.offset zeros old b 0 l, cell_out cs c b (below-range c.offset c.size b l)) (mask_at n (is_freeze cs) b h)

    behind : (b : ℕ) → b < n → c.offset + c.size ≤ b → get_or (write_at c.offset zeros old) b 0 ≡ mask_byte (is_freeze (cs ++ (c ∷ [])) b)
    behind b h l =
        rw (behind-write c.offset zeros old b 0 (simp length-replicate l), cell_out cs c b (behind-range c.offset c.size b l)) (mask_at n (is_freeze cs) b h)

    within : (b : ℕ) → b < n → c.offset ≤ b → b < c.offset + c.size → get_or (write_at c.offset zeros old) b 0 ≡ mask_byte (is_freeze (cs ++ (c ∷ [])) b)
    within b h l m =
        let j : c.offset + (b - c.offset) ≡ b = omega arith in
        let k : b - c.offset < c.size = omega arith in
        let w : get_or (write_at c.offset zeros old) (c.offset + (b - c.offset)) 0 ≡ get_or zeros (b - c.offset) 0 =
        within-write c.offset zeros old (b - c.offset) 0 (simp length-replicate k) (omega (arith, mask-length n (is_freeze cs))) in
        rw (cell_in cs c b (within-range c.offset c.size b l m)) ((rw j at w) ∙ get_or-replicate c.size (b - c.offset) 0 0 k)

-- cell i, by its word
pub next-cell : (n : ℕ) (ws : List ℕ) (i : ℕ) (mask : List ℕ) → i < length ws
    → mask ≡ mask_bytes (table n (is_freeze (map unsafe_cell (take i ws))))
    → write_at (unsafe_cell (get_or ws i 0)).offset (replicate (unsafe_cell (get_or ws i 0)).size 0) mask ≡ mask_bytes (table n (is_freeze (map unsafe_cell (take (i + 1) ws))))
next-cell n ws i mask h m =
    let next : map unsafe_cell (take (i + 1) ws) ≡ map unsafe_cell (take i ws) ++ (unsafe_cell (get_or ws i 0) ∷ []) =
    rw (add-one i, take-suc ws i 0 h) (map-append unsafe_cell (take i ws) (get_or ws i 0 ∷ [])) in
    rw (m, next) (one_cell n (map unsafe_cell (take i ws)) (unsafe_cell (get_or ws i 0)))

-- ---- the first elements, repeated
pub repeat-start : (size b : ℕ) (xs : List ℕ) → b < size → get_or xs b 0 ≡ get_or xs (b % size) 0
repeat-start size b xs h = rw (mod-eq_of_lt h)

module _ (size : ℕ) (xs ys : List ℕ) (i : ℕ) (done : (b : ℕ) → b < i → get_or ys b 0 ≡ get_or xs (b % size) 0) where
  -- one element more
  pub repeat-more : 0 < size → size ≤ i → i < length ys → (b : ℕ) → b < i + 1 → get_or (set ys i (get_or ys (i - size) 0)) b 0 ≡ get_or xs (b % size) 0
  repeat-more p l h b m =
      elim (dec_lt b i) [
        | yes k ↦ let o : b ≡ i → ⊥ = λ e. omega arith in get_or-set_other ys i b (get_or ys (i - size) 0) 0 o ∙ done b k
        | no k ↦
            let e : b ≡ i = omega arith in
            let s : i - size + size ≡ i = omega arith in
            let r : (i - size + size) % size ≡ (i - size) % size = add-mod_right (i - size) size in
            rw e (get_or-set_same ys i (get_or ys (i - size) 0) 0 h ∙ (done (i - size) (omega arith) ∙ ap (λ (k : ℕ). get_or xs k 0) (sym r ∙ ap (λ (k : ℕ). k % size) s)))
      ]

  pub repeat-all : length ys ≡ length xs → length ys ≤ i → ys ≡ table (length xs) (λ b. get_or xs (b % size) 0)
  repeat-all e h = is-table (λ b. get_or xs (b % size) 0) (length xs) ys 0 e (λ b l. done b (omega arith))

-- so repeated, the first mask is that of all the elements
pub elements : (size total : ℕ) (cs : List UnsafeCell) (rest : List ℕ) (xs : List ℕ) → 0 < size → xs ≡ mask_bytes (table size (is_freeze cs)) ++ rest
    → total ≤ length xs → size ≤ total
    → table (length (take total xs)) (λ b. get_or (take total xs) (b % size) 0) ≡ mask_bytes (table total (λ b. is_freeze cs (b % size)))
elements size total cs rest xs p e h l =
    is-mask total (λ b. is_freeze cs (b % size)) (table (length (take total xs)) (λ b. get_or (take total xs) (b % size) 0))
    (table-length (λ b. get_or (take total xs) (b % size) 0) 0 (length (take total xs)) ∙ length-take-le total xs h)
    (λ b k. at b k)
  where
    head : List ℕ
    head = mask_bytes (table size (is_freeze cs))

    at : (b : ℕ) → b < total → get_or (table (length (take total xs)) (λ b. get_or (take total xs) (b % size) 0)) b 0 ≡ mask_byte (is_freeze cs (b % size))
    at b k =
        let m : b % size < size = mod-lt b p in
        (table_at (λ b. get_or (take total xs) (b % size) 0) 0 (length (take total xs)) b 0 (omega (arith, length-take-le total xs h)) ∙ rw (zero-add b))
        ∙ (get_or-take total xs (b % size) 0 (omega arith)
        ∙ (ap (λ (l : List ℕ). get_or l (b % size) 0) e
        ∙ (get_or-append head rest 0 (b % size) (omega (arith, mask-length size (is_freeze cs)))
        ∙ mask_at size (is_freeze cs) (b % size) m)))
