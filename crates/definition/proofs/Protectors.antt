-- A node's protector: nothing but its own release takes it.
use Rattle.std.specs.Prelude.{if◌then◌else◌}
use Prim.Native.Nat.{ℕ, suc, ◌<◌}
use mathlib.Core.Path.{◌≡◌, refl, sym, ap, ◌∙◌}
use mathlib.Core.Bool.{Bool, true, false, not, ◌||◌, false≢true}
use mathlib.Core.List.{List, [], ◌∷◌}
use native.Mathlib.Decide.{dec_lt}
use native.Mathlib.Omega.{arith}
use lib.ListN.{length, get_or-eq_default, get_or-append}
use Rattle.definition.specs.Notation.{map_from, mutate_at, any}
use Rattle.definition.specs.Permission.{NodeRelation, Permission, is_protected, is_yes, next_by}
use Rattle.definition.specs.Tree.{Node, no_node, node_at, parents, relation, is_spared, Visit, node_after, visited}
use Rattle.definition.specs.Memory.{Allocation, Liveness, Memory, no_allocation, allocation_at, offset, ThinPointer, node_count, visit_of, write_all, after_access_in, after_deallocate_in}
use Rattle.definition.specs.Memory.Liveness.{Live, Dead}
use Rattle.definition.specs.Frame.{lacks_protector, unprotect_node, release_visit, released_nodes}
use Rattle.definition.specs.Retag.{ReborrowSettings, reborrow_settings, child_node, with_child, init_visit, after_init, after_reborrow_in}
use Rattle.definition.proofs.Any.{any-each}
use Rattle.definition.proofs.Lists.{mutate-kept}
use Rattle.definition.proofs.Places.{mutate-here, append-holds}
use Rattle.definition.proofs.Rows.{visited-node}
use Rattle.definition.proofs.ValidTrees.{next_by-protected}
use Rattle.definition.proofs.Changes.{Kept}

-- ---- what changes leave of it
lacks-after : (v : Visit) (ps : List ℕ) (n : ℕ) (x : Node) → lacks_protector (node_after v ps n x) ≡ lacks_protector x
unfolding node_after
lacks-after v ps n x = ap (λ (t : Bool). not (is_yes x.protected) || t) (go (is_spared ps v.spared n))
  where
    r : NodeRelation
    r = relation ps n v.accessed

    go : (t : Bool) → any (λ p. not (is_protected p)) (if t then x.permissions else map_from 0 (λ b p. next_by (v.access_at b) r p) x.permissions) ≡ any (λ p. not (is_protected p)) x.permissions
    go true = refl
    go false = any-each (λ p. not (is_protected p)) (λ b p. next_by (v.access_at b) r p) (λ b p. ap not (next_by-protected (v.access_at b) r p)) 0 x.permissions

pub visited-lacks : (v : Visit) (nodes : List Node) (j : ℕ) → lacks_protector (node_at (visited v nodes) j) ≡ lacks_protector (node_at nodes j)
visited-lacks v nodes j = ap lacks_protector (visited-node v nodes j) ∙ lacks-after v (parents nodes) j (node_at nodes j)

pub init-lacks : (child b : ℕ) (inside : List Permission) (nodes : List Node) (j : ℕ) → lacks_protector (node_at (after_init child b inside nodes) j) ≡ lacks_protector (node_at nodes j)
unfolding after_init
init-lacks child b [] nodes j = refl
init-lacks child b (p ∷ inside) nodes j = init-lacks child (suc b) inside (visited (init_visit child b p) nodes) j ∙ visited-lacks (init_visit child b p) nodes j

pub released-lacks : (state : Liveness) (n : ℕ) (nodes : List Node) (j : ℕ) → (n ≡ j → ⊥) → lacks_protector (node_at (released_nodes state n nodes) j) ≡ lacks_protector (node_at nodes j)
released-lacks Live n nodes j d =
    visited-lacks (release_visit n nodes) (mutate_at n (unprotect_node Live) nodes) j ∙ mutate-kept lacks_protector (unprotect_node Live) no_node nodes n j (λ e. absurd (d e))
released-lacks Dead n nodes j d = mutate-kept lacks_protector (unprotect_node Dead) no_node nodes n j (λ e. absurd (d e))

-- its own release, in a live allocation; in a dead one the mark stays
pub released-itself : (n : ℕ) (nodes : List Node) → n < length nodes → lacks_protector (node_at (released_nodes Live n nodes) n) ≡ true
released-itself n nodes l =
    visited-lacks (release_visit n nodes) (mutate_at n (unprotect_node Live) nodes) n ∙ ap lacks_protector (mutate-here (unprotect_node Live) no_node nodes n l)

-- a retag, of an earlier node
pub reborrowed-lacks : (w : ReborrowSettings) (p : ThinPointer) (a : Allocation) (n : ℕ) → n < node_count a
    → lacks_protector (node_at (after_reborrow_in w p a).nodes n) ≡ lacks_protector (node_at a.nodes n)
unfolding after_reborrow_in with_child
reborrowed-lacks w p a n l =
    init-lacks (length a.nodes) (offset a p) w.inside (with_child w p a) n ∙ ap lacks_protector (get_or-append a.nodes (child_node w p a ∷ []) no_node n l)

-- ---- a node that has it
abbrev pub HasProtector : ℕ → Allocation → Type 0
HasProtector n a = lacks_protector (node_at a.nodes n) ≡ false

-- where no node is, no protector is: so a node that has one was made
no-node-lacks : {A : Type 0} → lacks_protector no_node ≡ false → A
no-node-lacks h = absurd (false≢true (sym h))

pub has-node : (n : ℕ) (a : Allocation) → HasProtector n a → n < node_count a
has-node n a h = elim (dec_lt n (node_count a)) [ yes l ↦ l | no l ↦ no-node-lacks (ap lacks_protector (sym (get_or-eq_default a.nodes no_node {n = n} (omega arith))) ∙ h) ]

pub has-allocation : (m : Memory) (k n : ℕ) → HasProtector n (allocation_at m k) → k < length m
has-allocation m k n h =
    elim (dec_lt k (length m)) [
      | yes l ↦ l
      | no l ↦ no-node-lacks (ap (λ (a : Allocation). lacks_protector (node_at a.nodes n)) (sym (get_or-eq_default m no_allocation {n = k} (omega arith))) ∙ h)
    ]

pub protector-kept : (n : ℕ) → Kept (HasProtector n)
unfolding after_access_in after_deallocate_in after_reborrow_in with_child
protector-kept n =
    record {
      allocated = λ kind len exponent address h. no-node-lacks h;
      accessed = λ x access a e h. visited-lacks (visit_of x a) a.nodes n ∙ h;
      deallocated = λ p a e h. visited-lacks (write_all p a) a.nodes n ∙ h;
      reborrowed =
          λ pointer protected mask freeze p a l e h.
          let w : ReborrowSettings = reborrow_settings pointer protected mask freeze in
          init-lacks (length a.nodes) (offset a p) w.inside (with_child w p a) n
          ∙ append-holds (λ x. lacks_protector x ≡ false) no_node a.nodes (child_node w p a) n (λ i k. no-node-lacks k) h;
    }
