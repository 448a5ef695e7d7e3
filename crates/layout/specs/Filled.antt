-- What the code's values are in the definition, and how a lent buffer holds a mask.
use Rattle.std.specs.Prelude.{ℕ, zero, suc, ◌≡◌, Bool, true, false, ◌&&◌, List, map, eqb, leb, length, take, drop, if◌then◌else◌, Some, None, Result, Err, ok_or}
use Rattle.std.specs.Prelude as std
use Rattle.std.proofs.Math.Option.{Option, none, some}
use Rattle.definition.specs.Notation.{write_at}
use Rattle.definition.specs.Layout as definition
use Rattle.definition.specs.Layout.{FreezeMask, UnsafeCell, unsafe_cell, cells_fit, slice_mask, layout_mask, nested_mask, freeze_mask, mask_bound}
use Rattle.layout.specs.declared.LayoutStrategy.{LayoutStrategy}
use Rattle.layout.specs.declared.LayoutStrategy.TheVariants.{Sized, Slice, TraitObject, Tuple}
use Rattle.layout.specs.declared.Header.{Header}
use Rattle.layout.specs.declared.UnsafeCell as code
use Rattle.layout.specs.declared.PointerMeta.{PointerMeta}
use Rattle.layout.specs.declared.PointerMeta.TheVariants.{NoMetadata, ElementCount, VTablePointer}
use Rattle.layout.specs.declared.MaskError.{MaskError}
use Rattle.layout.specs.declared.MaskError.TheVariants.{NoMask, WrongLength}

abbrev pub layout_of : LayoutStrategy → definition.LayoutStrategy
layout_of Sized = definition.LayoutStrategy.Sized
layout_of Slice = definition.LayoutStrategy.Slice
layout_of TraitObject = definition.LayoutStrategy.TraitObject
layout_of Tuple = definition.LayoutStrategy.Tuple

abbrev pub header_of : Header → definition.Header
header_of h = record { layout = layout_of h.layout; cells = h.cells; size = h.size }

abbrev pub cell_of : code.UnsafeCell → UnsafeCell
cell_of c = record { offset = c.offset; size = c.size }

abbrev pub meta_of : PointerMeta → definition.PointerMeta
meta_of NoMetadata = definition.PointerMeta.NoMetadata
meta_of (ElementCount n) = definition.PointerMeta.ElementCount n
meta_of VTablePointer = definition.PointerMeta.VTablePointer

-- a freeze byte is 1, a cell byte 0
abbrev pub mask_byte : Bool → ℕ
mask_byte true = 1
mask_byte false = 0

unfoldable pub mask_bytes : FreezeMask → List ℕ
mask_bytes mask = map mask_byte mask

-- a mask that has room in so many bytes
abbrev pub fitting : ℕ → Option FreezeMask → Option FreezeMask
fitting room none = none
fitting room (some mask) = if leb (length mask) room then some mask else none

-- the bytes of a mask, if there is one
abbrev pub length_of : Option FreezeMask → std.Option ℕ
length_of none = None
length_of (some mask) = Some (length mask)

-- the buffer with the mask at its start, and as before behind the mask; without one it is as before
abbrev pub filled : Option FreezeMask → List ℕ → List ℕ
filled none buffer = buffer
filled (some mask) buffer = write_at 0 (mask_bytes mask) buffer

-- a wanted mask is filled into a buffer that has room for it
pub record Fills (wanted : Option FreezeMask) (before : List ℕ) (r : std.Option ℕ) (after : List ℕ) : Type 0 where
  pub answer : r ≡ length_of (fitting (length before) wanted)
  pub contents : after ≡ filled (fitting (length before) wanted) before

-- ---- masks by their layout
-- of a slice that has an element count
abbrev pub elements_mask : ℕ → ℕ → List UnsafeCell → Option FreezeMask
elements_mask count size cells = slice_mask (definition.PointerMeta.ElementCount count) size cells

-- words that start with so many cells, which fit the size
abbrev pub has_cells : ℕ → ℕ → List ℕ → Bool
has_cells cells size ws = leb cells (length ws) && cells_fit 0 size (map unsafe_cell (take cells ws))

-- of a header that is no tuple's, from the words behind it
abbrev pub last_mask : definition.Header → definition.PointerMeta → List ℕ → Option FreezeMask
last_mask h meta ws = layout_mask meta (λ tail. none) h (map unsafe_cell (take h.cells ws)) (drop h.cells ws)

-- of a tuple's tail, where so many tuples may follow one another
abbrev pub tail_mask : ℕ → definition.PointerMeta → List ℕ → Option FreezeMask
tail_mask zero meta ws = none
tail_mask (suc tuples) meta ws = nested_mask tuples meta ws

-- ---- the public function: what it answers, and what the buffer then holds
unfoldable pub answered : List ℕ → List ℕ → Result ℕ MaskError
answered words buffer = if eqb (length buffer) mask_bound then ok_or (length_of (freeze_mask words)) NoMask else Err WrongLength

unfoldable pub afterwards : List ℕ → List ℕ → List ℕ
afterwards words buffer = if eqb (length buffer) mask_bound then filled (freeze_mask words) buffer else buffer
