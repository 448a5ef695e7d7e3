-- The definition's clauses over a list of words, by the first of them.
use Rattle.std.specs.Prelude.{if◌then◌else◌}
use Prim.Native.Nat.{ℕ, zero, suc, ◌-◌, ◌≤◌, ◌<◌}
use mathlib.Core.Path.{◌≡◌, refl, sym, ap, ap₂, ◌∙◌}
use mathlib.Core.Bool.{Bool, true, false, not, ◌&&◌, ◌||◌}
use mathlib.Core.Option.{Option, none, some}
use mathlib.Core.List.{List, [], ◌∷◌, map}
use native.Mathlib.Omega.{arith}
use lib.Dec.{leb}
use lib.ListN.{length, get_or, take, drop, length-drop, drop_of_length-le}
use lib.Seq.{take_all}
use Rattle.definition.specs.Layout.{FreezeMask, UnsafeCell, LayoutStrategy, Header, PointerMeta, unsafe_cell, cells_fit, header, pointer_meta, sized_mask, tuple_mask, layout_mask, header_mask, nested_mask, freeze_mask}
use Rattle.definition.specs.Layout.LayoutStrategy.{Sized, Slice, TraitObject, Tuple}
use Rattle.definition.proofs.Booleans.{ltb-leb}
use Rattle.definition.proofs.Parts.{part-rest}
use Rattle.layout.specs.declared.Header as code
use Rattle.layout.specs.declared.LayoutStrategy as layout
use Rattle.layout.specs.Filled.{layout_of, header_of, has_cells, last_mask, tail_mask}

pub no_words : (ws : List ℕ) → length ws ≡ 0 → freeze_mask ws ≡ none
unfolding freeze_mask
no_words [] e = refl
no_words (w ∷ ws) e = absurd (omega arith)

pub some_words : (ws : List ℕ) → (length ws ≡ 0 → ⊥) → freeze_mask ws ≡ nested_mask 8 (pointer_meta (get_or ws 0 0)) (drop 1 ws)
unfolding freeze_mask
some_words [] e = absurd (e refl)
some_words (w ∷ ws) e = refl

-- ---- a header
pub nested : (tuples : ℕ) (meta : PointerMeta) (ws : List ℕ) → nested_mask tuples meta ws ≡ header_mask meta (tail_mask tuples meta) ws
unfolding nested_mask
nested zero meta ws = refl
nested (suc tuples) meta ws = refl

pub no_header : (tuples : ℕ) (meta : PointerMeta) (ws : List ℕ) → length ws ≡ 0 → nested_mask tuples meta ws ≡ none
no_header tuples meta [] e = nested tuples meta []
no_header tuples meta (w ∷ ws) e = absurd (omega arith)

choice : {A : Type 0} (p q : Bool) (x y : A) → (if not p || not q then x else y) ≡ (if p && q then y else x)
choice true true x y = refl
choice true false x y = refl
choice false q x y = refl

-- the mask of a header and the words behind it
abbrev under_header : PointerMeta → (List ℕ → Option FreezeMask) → Header → List ℕ → Option FreezeMask
under_header meta tail h ws =
    if has_cells h.cells h.size ws then layout_mask meta tail h (map unsafe_cell (take h.cells ws)) (drop h.cells ws) else none

header-mask : (meta : PointerMeta) (tail : List ℕ → Option FreezeMask) (w : ℕ) (ws : List ℕ) → header_mask meta tail (w ∷ ws) ≡ under_header meta tail (header w) ws
header-mask meta tail w ws =
    let h = header w in
    let cells = map unsafe_cell (take h.cells ws) in
    rw (ltb-leb (length ws) h.cells)
    (choice (leb h.cells (length ws)) (cells_fit 0 h.size cells) none (layout_mask meta tail h cells (drop h.cells ws)))

module _ (tuples : ℕ) (meta : PointerMeta) where
  with-header : (ws : List ℕ) (h : Header) → (length ws ≡ 0 → ⊥) → h ≡ header (get_or ws 0 0) → nested_mask tuples meta ws ≡ under_header meta (tail_mask tuples meta) h (drop 1 ws)
  with-header [] h n e = absurd (n refl)
  with-header (w ∷ ws) h n e =
      nested tuples meta (w ∷ ws)
      ∙ (header-mask meta (tail_mask tuples meta) w ws ∙ ap (λ (h : Header). under_header meta (tail_mask tuples meta) h ws) (sym e))

  -- the header as the code holds it, and the words behind it
  module _ (ws : List ℕ) (h : code.Header) {rest : List ℕ} {r : Bool} (n : length ws ≡ 0 → ⊥) (e : header_of h ≡ header (get_or ws 0 0)) (q : rest ≡ drop 1 ws)
      (has : r ≡ has_cells h.cells h.size rest) where
    here : nested_mask tuples meta ws
        ≡ (if r then layout_mask meta (tail_mask tuples meta) (header_of h) (map unsafe_cell (take h.cells rest)) (drop h.cells rest) else none)
    here = rw (has, q) (with-header ws (header_of h) n e)

    pub bad-header : r ≡ false → nested_mask tuples meta ws ≡ none
    bad-header f = here ∙ rw f

    pub tuple-header : r ≡ true → h.layout ≡ layout.TheVariants.Tuple
        → nested_mask tuples meta ws
        ≡ tuple_mask (sized_mask h.size (map unsafe_cell (take h.cells rest))) (tail_mask tuples meta (take (length rest - h.cells) (drop h.cells rest)))
    tuple-header f t = here ∙ rw (f, part-rest h.cells rest, t)

    pub last-header : r ≡ true → (h.layout ≡ layout.TheVariants.Tuple → ⊥) → nested_mask tuples meta ws ≡ last_mask (header_of h) meta rest
    last-header f t = here ∙ rw f (go h.layout t)
      where
        go : (l : layout.LayoutStrategy) → (l ≡ layout.TheVariants.Tuple → ⊥)
            → layout_mask meta (tail_mask tuples meta) (record { layout = layout_of l; cells = h.cells; size = h.size }) (map unsafe_cell (take h.cells rest)) (drop h.cells rest)
            ≡ last_mask (record { layout = layout_of l; cells = h.cells; size = h.size }) meta rest
        go layout.TheVariants.Sized t = refl
        go layout.TheVariants.Slice t = refl
        go layout.TheVariants.TraitObject t = refl
        go layout.TheVariants.Tuple t = absurd (t refl)

-- a tuple's tail, where a tuple may still stand
pub tail-mask : (tuples : ℕ) (meta : PointerMeta) (ws : List ℕ) → (tuples ≡ 0 → ⊥) → tail_mask tuples meta ws ≡ nested_mask (tuples - 1) meta ws
tail-mask zero meta ws n = absurd (n refl)
tail-mask (suc tuples) meta ws n = let e : suc tuples - 1 ≡ tuples = omega arith in rw e

none_tail : (m : Option FreezeMask) → tuple_mask m none ≡ none
none_tail none = refl
none_tail (some m) = refl

-- a header that is no tuple's: none left over
pub left_over : (h : Header) (meta : PointerMeta) (ws : List ℕ) → h.cells < length ws → last_mask h meta ws ≡ none
left_over h meta ws l = go h.layout (drop h.cells ws) (omega (arith, length-drop h.cells ws))
  where
    go : (k : LayoutStrategy) (rest : List ℕ) → 0 < length rest
        → layout_mask meta (λ tail. none) (record { layout = k; cells = h.cells; size = h.size }) (map unsafe_cell (take h.cells ws)) rest ≡ none
    go k [] l = absurd (omega arith)
    go Sized (w ∷ rest) l = refl
    go Slice (w ∷ rest) l = refl
    go TraitObject (w ∷ rest) l = refl
    go Tuple (w ∷ rest) l = none_tail (sized_mask h.size (map unsafe_cell (take h.cells ws)))

pub none_left : (h : code.Header) (l : layout.LayoutStrategy) (meta : PointerMeta) (ws : List ℕ) → h.layout ≡ l → length ws ≤ h.cells
    → last_mask (header_of h) meta ws
    ≡ layout_mask meta (λ tail. none) (record { layout = layout_of l; cells = h.cells; size = h.size }) (map unsafe_cell ws) []
none_left h l meta ws e n =
    ap₂ (λ (cs : List UnsafeCell) (rest : List ℕ). layout_mask meta (λ tail. none) (header_of h) cs rest)
    (ap (map unsafe_cell) (take_all h.cells ws n)) (drop_of_length-le ws n)
    ∙ ap (λ (k : layout.LayoutStrategy). layout_mask meta (λ tail. none) (record { layout = layout_of k; cells = h.cells; size = h.size }) (map unsafe_cell ws) []) e

pub last-tuple : (size : ℕ) (cells : List UnsafeCell) → tuple_mask (sized_mask size cells) none ≡ none
last-tuple size cells = none_tail (sized_mask size cells)
