-- Every mask of the definition has at most 4,096 bytes, so a buffer of 4,096 has room for it.
use Rattle.std.specs.Prelude.{if◌then◌else◌}
use Prim.Native.Nat.{ℕ, ◌+◌, ◌*◌, ◌%◌}
use mathlib.Core.Path.{◌≡◌, refl}
use mathlib.Core.Bool.{Bool, true, false, not, ◌||◌}
use mathlib.Core.Option.{Option, none, some}
use mathlib.Core.List.{List, [], ◌∷◌, ◌++◌, map}
use lib.Dec.{leb, ltb}
use lib.ListN.{length, take, drop, length-append}
use borrow.Author.Tests.{eq-eqb, ne_eqb}
use Rattle.definition.specs.Notation.{table}
use Rattle.definition.specs.Layout.{FreezeMask, UnsafeCell, LayoutStrategy, PointerMeta, unsafe_cell, cells_fit, is_freeze, header, mask_bound, bounded_mask, sized_mask, slice_mask, trait_object_mask, tuple_mask, if_none_left, layout_mask, header_mask, freeze_mask, pointer_meta}
use Rattle.definition.specs.Layout.LayoutStrategy.{Sized, Slice, TraitObject, Tuple}
use Rattle.definition.specs.Layout.PointerMeta.{NoMetadata, ElementCount, VTablePointer}
use Rattle.definition.proofs.Lists.{table-length}
use Rattle.std.specs.Prelude.{Err, ok_or}
use Rattle.layout.specs.declared.MaskError.TheVariants.{NoMask, WrongLength}
use Rattle.std.specs.Prelude as code
use Rattle.layout.specs.Filled.{tail_mask, fitting, Fills, answered, afterwards}
use Rattle.layout.proofs.Words.{nested}

-- a mask for which 4,096 bytes are enough
abbrev Bounded : Option FreezeMask → Type 0
Bounded mask = fitting mask_bound mask ≡ mask

by-test : (mask : FreezeMask) (size : ℕ) → length mask ≡ size → Bounded (if leb size mask_bound then some mask else none)
by-test mask size e = go (leb size mask_bound) refl
  where
    go : (b : Bool) → leb size mask_bound ≡ b → Bounded (if b then some mask else none)
    go true l = rw (e, l)
    go false l = refl

bounded-by : (size : ℕ) (f : ℕ → Bool) → Bounded (bounded_mask size f)
bounded-by size f = by-test (table size f) size (table-length f 0 size)

slice-bounded : (meta : PointerMeta) (size : ℕ) (cells : List UnsafeCell) → Bounded (slice_mask meta size cells)
slice-bounded NoMetadata size cells = refl
slice-bounded (ElementCount n) size cells = bounded-by (n * size) (λ b. is_freeze cells (b % size))
slice-bounded VTablePointer size cells = refl

trait-object-bounded : (meta : PointerMeta) (size : ℕ) (cells : List UnsafeCell) → Bounded (trait_object_mask meta size cells)
trait-object-bounded NoMetadata size cells = refl
trait-object-bounded (ElementCount n) size cells = refl
trait-object-bounded VTablePointer size cells = bounded-by size (is_freeze cells)

tuple-bounded : (head tail : Option FreezeMask) → Bounded (tuple_mask head tail)
tuple-bounded none tail = refl
tuple-bounded (some h) none = refl
tuple-bounded (some h) (some t) = by-test (h ++ t) (length h + length t) (length-append h t)

if-none-left : (rest : List ℕ) (mask : Option FreezeMask) → Bounded mask → Bounded (if_none_left rest mask)
if-none-left [] mask h = h
if-none-left (w ∷ ws) mask h = refl

layout-bounded : (meta : PointerMeta) (tail : List ℕ → Option FreezeMask) (l : LayoutStrategy) (n size : ℕ) (cells : List UnsafeCell) (rest : List ℕ)
    → Bounded (layout_mask meta tail (record { layout = l; cells = n; size = size }) cells rest)
layout-bounded meta tail Sized n size cells rest = if-none-left rest (sized_mask size cells) (bounded-by size (is_freeze cells))
layout-bounded meta tail Slice n size cells rest = if-none-left rest (slice_mask meta size cells) (slice-bounded meta size cells)
layout-bounded meta tail TraitObject n size cells rest = if-none-left rest (trait_object_mask meta size cells) (trait-object-bounded meta size cells)
layout-bounded meta tail Tuple n size cells rest = tuple-bounded (sized_mask size cells) (tail rest)

if-bounded : (b : Bool) (mask : Option FreezeMask) → Bounded mask → Bounded (if b then none else mask)
if-bounded true mask h = refl
if-bounded false mask h = h

header-bounded : (meta : PointerMeta) (tail : List ℕ → Option FreezeMask) (ws : List ℕ) → Bounded (header_mask meta tail ws)
header-bounded meta tail [] = refl
header-bounded meta tail (w ∷ ws) =
    let h = header w in
    let cells = map unsafe_cell (take h.cells ws) in
    if-bounded (ltb (length ws) h.cells || not (cells_fit 0 h.size cells)) (layout_mask meta tail h cells (drop h.cells ws))
    (layout-bounded meta tail h.layout h.cells h.size cells (drop h.cells ws))

pub mask-bounded : (ws : List ℕ) → Bounded (freeze_mask ws)
unfolding freeze_mask
mask-bounded [] = refl
mask-bounded (w ∷ ws) = rw (nested 8 (pointer_meta w) ws) (header-bounded (pointer_meta w) (tail_mask 8 (pointer_meta w)) ws)

-- ---- what the public function promises: of a buffer of another length, and of one of 4,096 bytes
module _ (ws buffer : List ℕ) where
  pub wrong-length : (length buffer ≡ 4096 → ⊥) → (Err WrongLength ≡ answered ws buffer) × (buffer ≡ afterwards ws buffer)
  unfolding answered afterwards
  wrong-length n = (rw (ne_eqb (length buffer) 4096 n), rw (ne_eqb (length buffer) 4096 n))

  pub right-length : (r : code.Option ℕ) (after : List ℕ) → length buffer ≡ 4096 → Fills (freeze_mask ws) buffer r after
      → (ok_or r NoMask ≡ answered ws buffer) × (after ≡ afterwards ws buffer)
  unfolding answered afterwards
  right-length r after e f =
      let room : fitting (length buffer) (freeze_mask ws) ≡ freeze_mask ws = rw e (mask-bounded ws) in
      (rw (eq-eqb (length buffer) 4096 e, ← room, f.answer) refl, rw (eq-eqb (length buffer) 4096 e, ← room) f.contents)
