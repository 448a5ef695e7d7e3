-- Retag. mem.rs: `ReborrowSettings`, `reborrow`, `retag_ptr`; document 01: "Retag and frames".
use Rattle.std.specs.Prelude.{ℕ, suc, ◌+◌, Bool, ◌&&◌, ◌||◌, List, [], ◌∷◌, ◌++◌, map, eqb, ltb, length, replicate, set, if◌then◌else◌}
use Rattle.std.proofs.Math.Option.{none, some}
use Rattle.definition.specs.Notation.{◌when◌, ◌or◌, mutate_at, write_at}
use Rattle.definition.specs.Refusal.{never_made, below_start, size_exceeded}
use Rattle.definition.specs.Permission.{Permission, Protected, is_yes, SafePointer, no_cell_perm, cell_perm, init_access}
use Rattle.definition.specs.Tree.{Node, Visit, visit_refusal, visited}
use Rattle.definition.specs.Layout.{FreezeMask}
use Rattle.definition.specs.Memory.{Allocation, changed, size, Provenance, ThinPointer, has_none, allocation_of, node_of, target, offset, Answer, gives_pointer, unless_refused, names_never_made, check_ptr, Sizes, exceeds_bounds}
use Rattle.definition.specs.Frame.{Frame, entries, State, frame_at}
use Rattle.definition.specs.Frame.Frame.{Open}

-- the permissions that the bytes inside the pointee start with, that of all bytes outside, and the protector
pub record ReborrowSettings : Type 0 where
  pub inside : List Permission
  pub outside : Permission
  pub protected : Protected

-- a freeze byte's permission, or a cell byte's
abbrev pub start_perm : SafePointer → Protected → Bool → Permission
start_perm pointer protected is_freeze = if is_freeze then no_cell_perm pointer protected else cell_perm pointer protected

-- "bytes outside follow the freeze flag"
abbrev pub reborrow_settings : SafePointer → Protected → FreezeMask → Bool → ReborrowSettings
reborrow_settings pointer protected mask freeze =
    record {
      inside = map (start_perm pointer protected) mask;
      outside = start_perm pointer protected freeze;
      protected = protected;
    }

-- ---- "The child is made". The paper: a retag gives the new reference a node of its own, a child of the one it is derived from
unfoldable pub child_node : ReborrowSettings → ThinPointer → Allocation → Node
child_node w p a =
    record {
      parent = node_of p.provenance;
      protected = w.protected;
      permissions = write_at (offset a p) w.inside (replicate (size a) w.outside);
    }

unfoldable pub with_child : ReborrowSettings → ThinPointer → Allocation → List Node
with_child w p a = a.nodes ++ (child_node w p a ∷ [])

-- ---- "then each inside byte but Cell is read through it, byte by byte over the whole tree". The paper: a retag is a read of the pointee through the new
-- node, local to it and its ancestors and foreign to the rest, so that a reference is usable from its start on. Bytes outside are not read; they have
-- their permission for later accesses
-- the access of byte b, through the child, that starts with a permission
abbrev pub init_visit : ℕ → ℕ → Permission → Visit
init_visit child b p = record { accessed = child; access_at = λ k. if eqb k b then init_access p else none; spared = none }

-- of the inside bytes from b on: each is read on the tree as the ones before it left it
unfoldable pub init_refusal : ℕ → ℕ → List Permission → List Node → ℕ
init_refusal child b [] nodes = 0
init_refusal child b (p ∷ inside) nodes =
    visit_refusal (init_visit child b p) nodes or init_refusal child (suc b) inside (visited (init_visit child b p) nodes)

unfoldable pub after_init : ℕ → ℕ → List Permission → List Node → List Node
after_init child b [] nodes = nodes
after_init child b (p ∷ inside) nodes = after_init child (suc b) inside (visited (init_visit child b p) nodes)

-- ---- `reborrow`. The frame, `frame`, matters only under a protector
-- 14
abbrev pub is_below_start : ReborrowSettings → ThinPointer → Allocation → Bool
is_below_start w p a = eqb (length w.inside) 0 && ltb p.address a.address

-- 15: one more node with its codes, and "64 entries a frame"
abbrev pub of_node : Allocation → Sizes
of_node a = record { allocations = 0; words = 0; nodes = 1; codes = size a }

abbrev pub entry_bound : ℕ
entry_bound = 64

abbrev pub exceeds_entries : ReborrowSettings → ℕ → State → Bool
exceeds_entries w frame s = is_yes w.protected && ltb entry_bound (length (entries (frame_at s frame)) + 1)

unfoldable pub reborrow_refusal : ReborrowSettings → ℕ → ThinPointer → State → ℕ
reborrow_refusal w frame p s =
    let a = target s.memory p in
    never_made when names_never_made s.memory p.provenance
    or check_ptr a p 0 (length w.inside)
    or below_start when is_below_start w p a
    or size_exceeded when (exceeds_bounds s.memory (of_node a) || exceeds_entries w frame s)
    or init_refusal (length a.nodes) (offset a p) w.inside (with_child w p a)

unfoldable pub after_reborrow_in : ReborrowSettings → ThinPointer → Allocation → Allocation
after_reborrow_in w p a =
    changed a a.state a.words (after_init (length a.nodes) (offset a p) w.inside (with_child w p a))

-- a protected child is entered in its frame
abbrev pub frames_after : ReborrowSettings → ℕ → Provenance → State → List Frame
frames_after w frame child s =
    if is_yes w.protected then set s.frames frame (Open (entries (frame_at s frame) ++ (child ∷ []))) else s.frames

unfoldable pub accept_reborrow : ReborrowSettings → ℕ → ThinPointer → State → Answer × State
accept_reborrow w frame p s =
    let child : Provenance = record { allocation = allocation_of p.provenance; node = length (target s.memory p).nodes } in (
      gives_pointer (some child),
      record {
        memory = mutate_at (allocation_of p.provenance) (after_reborrow_in w p) s.memory;
        frames = frames_after w frame child s;
      },
    )

unfoldable pub reborrow : ReborrowSettings → ℕ → ThinPointer → State → Answer × State
reborrow w frame p s = unless_refused (reborrow_refusal w frame p s) s (accept_reborrow w frame p s)

-- ---- `retag_ptr`: "No node, and the same pointer with 5 to 24 untested", without settings
unfoldable pub retag_without_node : ThinPointer → State → Answer × State
retag_without_node p s =
    unless_refused (never_made when names_never_made s.memory p.provenance) s (gives_pointer p.provenance, s)

-- "also for zero length without provenance"
unfoldable pub retag : ReborrowSettings → ℕ → ThinPointer → State → Answer × State
retag w frame p s =
    if has_none p.provenance && eqb (length w.inside) 0 then retag_without_node p s else reborrow w frame p s
