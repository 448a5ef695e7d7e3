-- A retag's layout words, to a freeze mask. mem.rs: `LayoutStrategy`, `UnsafeCellStrategy`, `cells_to_freeze_mask`, `freeze_mask`;
-- document 01: "Retag and frames". A mask has a Boolean for each byte: true where it lies outside all cells. No mask is refusal 3.
use Rattle.std.specs.Prelude.{ℕ, zero, suc, ◌+◌, ◌*◌, ◌/◌, ◌%◌, ◌^◌, Bool, not, ◌&&◌, ◌||◌, List, [], ◌∷◌, ◌++◌, map, eqb, leb, ltb, length, get_or, take, drop, if◌then◌else◌}
use Rattle.std.proofs.Math.Option.{Option, none, some}
use Rattle.definition.specs.Notation.{table, any, in_range}

abbrev pub FreezeMask : Type 0
FreezeMask = List Bool

-- ---- cells: "each cell is offset (16), size (16)"
pub record UnsafeCell : Type 0 where
  pub offset : ℕ
  pub size : ℕ

abbrev pub unsafe_cell : ℕ → UnsafeCell
unsafe_cell w = record { offset = w / 2 ^ 16; size = w % 2 ^ 16 }

-- "Cells must come in order, not overlap and end within the size": each starts where the one before ends, or later (decision 18)
unfoldable pub cells_fit : ℕ → ℕ → List UnsafeCell → Bool
cells_fit end size [] = leb end size
cells_fit end size (c ∷ cs) = leb end c.offset && cells_fit (c.offset + c.size) size cs

-- byte b lies outside all cells
unfoldable pub is_freeze : List UnsafeCell → ℕ → Bool
is_freeze cells b = not (any (λ c. in_range c.offset c.size b) cells)

-- ---- headers: "layout (2: sized, slice, trait object, tuple), number of cells (8), size (22)"
pub data LayoutStrategy : Type 0 where
  Sized Slice TraitObject Tuple : LayoutStrategy

abbrev pub layout_strategies : List LayoutStrategy
layout_strategies = Sized ∷ Slice ∷ TraitObject ∷ Tuple ∷ []

pub record Header : Type 0 where
  pub layout : LayoutStrategy
  pub cells : ℕ
  pub size : ℕ

abbrev pub header : ℕ → Header
header w = record { layout = get_or layout_strategies (w / 2 ^ 30) Sized; cells = w / 2 ^ 22 % 2 ^ 8; size = w % 2 ^ 22 }

-- ---- the pointer's metadata: "metadata kind (2: none, element count, vtable), count (30)". Kind 3 is refused before (decision 9)
pub data PointerMeta : Type 0 where
  NoMetadata : PointerMeta
  ElementCount : ℕ → PointerMeta
  VTablePointer : PointerMeta

abbrev pub pointer_meta : ℕ → PointerMeta
pointer_meta w =
    if eqb (w / 2 ^ 30) 1 then ElementCount (w % 2 ^ 30) else if eqb (w / 2 ^ 30) 2 then VTablePointer else NoMetadata

-- ---- masks
-- "a mask over 4,096 bytes" is none
abbrev pub mask_bound : ℕ
mask_bound = 4096

-- a mask of so many bytes, byte by byte
abbrev pub bounded_mask : ℕ → (ℕ → Bool) → Option FreezeMask
bounded_mask size freeze_at = if leb size mask_bound then some (table size freeze_at) else none

-- of a sized layout, a trait object's and a tuple's head (`cells_to_freeze_mask`)
abbrev pub sized_mask : ℕ → List UnsafeCell → Option FreezeMask
sized_mask size cells = bounded_mask size (is_freeze cells)

-- "Slices repeat by the count"; none for "a slice without an element count"
abbrev pub slice_mask : PointerMeta → ℕ → List UnsafeCell → Option FreezeMask
slice_mask NoMetadata size cells = none
slice_mask (ElementCount count) size cells = bounded_mask (count * size) (λ b. is_freeze cells (b % size))
slice_mask VTablePointer size cells = none

-- none for "a trait object without vtable metadata". "For a trait object the caller supplies the size and cells that the Rust looks up in `VTable`": the
-- header and its cells
abbrev pub trait_object_mask : PointerMeta → ℕ → List UnsafeCell → Option FreezeMask
trait_object_mask NoMetadata size cells = none
trait_object_mask (ElementCount count) size cells = none
trait_object_mask VTablePointer size cells = sized_mask size cells

-- "a tuple's mask is its head's, and the tail's part directly after it"; the bound is of the whole (decision 19). As mem.rs:
-- lang.rs aligns the tail (docs/DIFFERENCES.md, section 3)
abbrev pub tuple_mask : Option FreezeMask → Option FreezeMask → Option FreezeMask
tuple_mask none tail = none
tuple_mask (some head) none = none
tuple_mask (some head) (some tail) = if leb (length head + length tail) mask_bound then some (head ++ tail) else none

-- none for "words left over .. after the last header's cells"
abbrev pub if_none_left : List ℕ → Option FreezeMask → Option FreezeMask
if_none_left [] mask = mask
if_none_left (w ∷ ws) mask = none

-- a header's mask, from its cells and the words behind them; tail_mask gives that of a tuple's tail
abbrev pub layout_mask : PointerMeta → (List ℕ → Option FreezeMask) → Header → List UnsafeCell → List ℕ → Option FreezeMask
layout_mask meta tail_mask h cells rest =
    elim h.layout [
      | Sized ↦ if_none_left rest (sized_mask h.size cells)
      | Slice ↦ if_none_left rest (slice_mask meta h.size cells)
      | TraitObject ↦ if_none_left rest (trait_object_mask meta h.size cells)
      | Tuple ↦ tuple_mask (sized_mask h.size cells) (tail_mask rest)
    ]

-- the mask that starts with a header; none where words are missing, and where the cells do not fit
abbrev pub header_mask : PointerMeta → (List ℕ → Option FreezeMask) → List ℕ → Option FreezeMask
header_mask meta tail_mask [] = none
header_mask meta tail_mask (w ∷ ws) =
    let h = header w in
    let cells = map unsafe_cell (take h.cells ws) in
    if ltb (length ws) h.cells || not (cells_fit 0 h.size cells) then none
    else layout_mask meta tail_mask h cells (drop h.cells ws)

-- none for "more than 8 tuples nested": so many may still follow. "a tuple's tail uses the same metadata"
unfoldable pub nested_mask : ℕ → PointerMeta → List ℕ → Option FreezeMask
nested_mask zero meta ws = header_mask meta (λ tail. none) ws
nested_mask (suc tuples) meta ws = header_mask meta (nested_mask tuples meta) ws

-- of all the layout words, the metadata word first (decision 11)
unfoldable pub freeze_mask : List ℕ → Option FreezeMask
freeze_mask [] = none
freeze_mask (w ∷ ws) = nested_mask 8 (pointer_meta w) ws
