-- By the header (Words), and for a tuple by what the fill of its tail tells (Fill).
use Rattle.std.proofs.Common.{ℕ, ◌+◌, ◌-◌, ◌≤◌, ◌≡◌, List, map, ◌++◌, length, take, drop, refl, inl, inr, arith}
use Rattle.std.proofs.Math.Option.{Option}
use Rattle.std.specs.Prelude.{Some, None}
use Rattle.std.specs.Prelude as code
use Rattle.definition.specs.Notation.{table}
use Rattle.definition.specs.Layout.{FreezeMask, UnsafeCell, unsafe_cell, is_freeze, sized_mask, tuple_mask}
use Rattle.definition.proofs.Parts.{part-rest}
use Rattle.layout.specs.Filled.{meta_of, mask_bytes, tail_mask, Fills}
use Rattle.layout.proofs.Fill.{instead, restated, nothing, tail_none, head-over, tail-over, tail-filled}
use Rattle.layout.proofs.Lists.{replaced, replaced-front, replaced-rest}
use Rattle.layout.proofs.Words.{no_header, bad-header, tuple-header, last-header, tail-mask}
use Rattle.layout.proofs.+fill_layout_fill_tuple.Goals as goal

-- ---- fill_layout
pub fill_layout-returns-in_default : goal.fill_layout-returns-in_default
fill_layout-returns-in_default t c = let a = c.args in
    instead (no_header a.tuples (meta_of a.metadata) a.words.now (omega arith)) (nothing a.mask.now)

pub fill_layout-returns-then-not-has_cells : goal.fill_layout-returns-then-not-has_cells
fill_layout-returns-then-not-has_cells t c = let a = c.args in
    instead
    (bad-header a.tuples (meta_of a.metadata) a.words.now c.from-head.result (omega arith) c.from-head.ensures (part-rest 1 a.words.now)
    c.has_cells.ensures c.if-not-has_cells.true)
    (nothing a.mask.now)

pub fill_layout-returns-in-Tuple : goal.fill_layout-returns-in-Tuple
fill_layout-returns-in-Tuple t c = let a = c.args in
    instead
    (tuple-header a.tuples (meta_of a.metadata) a.words.now c.from-head.result (omega arith) c.from-head.ensures (part-rest 1 a.words.now)
    c.has_cells.ensures c.if-not-has_cells.false c.in-Tuple.is)
    c.fill_tuple.ensures

pub fill_layout-returns-in_default-layout : goal.fill_layout-returns-in_default-layout
fill_layout-returns-in_default-layout t c = let a = c.args in
    instead
    (last-header a.tuples (meta_of a.metadata) a.words.now c.from-head.result (omega arith) c.from-head.ensures (part-rest 1 a.words.now)
    c.has_cells.ensures c.if-not-has_cells.false c.in_default-layout.not-Tuple)
    c.fill_last.ensures

-- ---- fill_tuple: the buffer from `size` on, where the head ends, was lent to the tail's fill, which answered `r` and left `after` there
module _ (mask after : List ℕ) (size : ℕ) (cells : List UnsafeCell) (tail : Option FreezeMask) (h : size ≤ length mask) where
  -- the whole buffer behind the tail's fill
  abbrev behind_tail : List ℕ
  behind_tail = take size mask ++ (after ++ drop (length mask - size) (drop size mask))

  -- what was filled into the lent part, of what lies behind the head
  lent : {wanted : Option FreezeMask} {r : code.Option ℕ} → tail ≡ wanted → Fills wanted (take (length mask - size) (drop size mask)) r after → Fills tail (drop size mask) r after
  lent e f = instead e (restated (part-rest size mask) refl refl f)

  -- the tail has no mask
  tuple-none : Fills tail (drop size mask) None after → Fills (tuple_mask (sized_mask size cells) tail) mask None behind_tail
  tuple-none f = rw (replaced size mask after h) (tail-over mask size cells tail h after f)

  -- the tail's mask has so many bytes, and the head's is filled before it
  tuple-filled : (len : ℕ) (head : List ℕ) → length mask ≤ 4096 → Fills tail (drop size mask) (Some len) after
      → head ≡ mask_bytes (table (length (take size behind_tail)) (is_freeze cells))
      → Fills (tuple_mask (sized_mask size cells) tail) mask (Some (size + len)) (head ++ drop size behind_tail)
  tuple-filled len head bound f e = rw (e, replaced-front size mask after h, replaced-rest size mask after h) (tail-filled mask size cells tail h len after bound f)

pub fill_tuple-returns-then-tuples-eq0 : goal.fill_tuple-returns-then-tuples-eq0
fill_tuple-returns-then-tuples-eq0 t c = let a = c.args in
    let cells = map unsafe_cell a.cells.now in
    elim c.then-tuples-eq0.either [
      | inl e ↦ rw e (tail_none a.mask.now a.size cells)
      | inr (e, h) ↦ head-over a.mask.now a.size cells (tail_mask a.tuples (meta_of a.metadata) a.tail.now) h
    ]

pub fill_tuple-returns : goal.fill_tuple-returns
fill_tuple-returns t c = let a = c.args in
    let cells = map unsafe_cell a.cells.now in
    let tail = tail_mask a.tuples (meta_of a.metadata) a.tail.now in
    let after = c.fill_layout.new.mask in
    let h : a.size ≤ length a.mask.now = c.if-mask-size.false in
    tuple-filled a.mask.now after a.size cells tail h c.in_ok-len.len c.cells_to_freeze_mask.new.mask c.requires
    (lent a.mask.now after a.size cells tail h (tail-mask a.tuples (meta_of a.metadata) a.tail.now c.if-tuples-eq0.false) c.in_ok-len.ensures)
    c.cells_to_freeze_mask.ensures

pub fill_tuple-returns-in_err-len : goal.fill_tuple-returns-in_err-len
fill_tuple-returns-in_err-len t c = let a = c.args in
    let cells = map unsafe_cell a.cells.now in
    let tail = tail_mask a.tuples (meta_of a.metadata) a.tail.now in
    let after = c.fill_layout.new.mask in
    let h : a.size ≤ length a.mask.now = c.if-mask-size.false in
    rw c.from_residual.ensures
    (tuple-none a.mask.now after a.size cells tail h
    (lent a.mask.now after a.size cells tail h (tail-mask a.tuples (meta_of a.metadata) a.tail.now c.if-tuples-eq0.false) c.in_err-len.ensures))
