-- What a protected shared reference has read is held. Its node is Frozen there, with a local read, and no write of the byte passes that, whoever makes it:
-- neither a store nor a deallocation is accepted. So the byte keeps its word, in a live allocation, as long as the node has its protector (`held_kept`,
-- `held-released`).
use Rattle.std.specs.Prelude.{if◌then◌else◌}
use Prim.Native.Nat.{ℕ, suc, ◌+◌, ◌<◌}
use mathlib.Core.Path.{◌≡◌, refl, sym, ap, subst, ◌∙◌}
use mathlib.Core.Bool.{Bool, true, false, false≢true}
use mathlib.Core.Option.{Option, none, some}
use mathlib.Core.List.{List, [], ◌∷◌}
use native.Mathlib.Decide.{ℕ_discrete}
use native.Mathlib.Omega.{arith}
use borrow.Author.Tests.{le-leb, lt-ltb}
use lib.ListN.{length, get_or, get_or-append}
use Rattle.definition.specs.Notation.{◌when◌, mutate_at, write_at, in_range}
use Rattle.definition.specs.Refusal.{not_protected}
use Rattle.definition.specs.Permission.{AccessKind, NodeRelation, PermissionProt, Permission, refusal, next, refusal_by}
use Rattle.definition.specs.Permission.AccessKind.{Read, Write}
use Rattle.definition.specs.Permission.NodeRelation.{Local, Foreign}
use Rattle.definition.specs.Permission.LocalRead.{had_local_read}
use Rattle.definition.specs.Permission.Permission.{Prot}
use Rattle.definition.specs.Tree.{Node, no_node, node_at, parents, relation, Visit, access_visit, visit_refusal, visited}
use Rattle.definition.specs.Memory.{Allocation, Liveness, is_live, size, offset, ThinPointer, node_of, node_count, MemoryAccess, visit_of, write_all, after_access_in, after_deallocate_in}
use Rattle.definition.specs.Memory.Liveness.{Live, Dead}
use Rattle.definition.specs.Frame.{lacks_protector, unprotect_node, release_visit, release_visit_refusal, released_nodes, release_refusal_in, after_release_in}
use Rattle.definition.specs.Retag.{ReborrowSettings, reborrow_settings, child_node, with_child, init_visit, init_refusal, after_init, after_reborrow_in}
use Rattle.definition.proofs.Booleans.{or_left, or_right, when-none}
use Rattle.definition.proofs.Lists.{mutate-kept}
use Rattle.definition.proofs.Writes.{write-none, write-length, outside-write}
use Rattle.definition.proofs.Trees.{Parents}
use Rattle.definition.proofs.Visits.{visited-parents, visited-length}
use Rattle.definition.proofs.Rows.{row_at, permission_at, Reach, reached_refusal, reached_next, reach, visited-at, visit-accepted}
use Rattle.definition.proofs.Rows.Reach.{Spared, Reached}
use Rattle.definition.proofs.Leaves.{appended-tree}
use Rattle.definition.proofs.Retags.{reads_visit, reads-at-once}
use Rattle.definition.proofs.Releases.{unprotected-parents}
use Rattle.definition.proofs.ValidTrees.{with_child-length, init-length, released-length}
use Rattle.definition.proofs.Changes.{IsAccess, Kept, KeptByRelease}
use Rattle.definition.proofs.Changes.IsAccess.{load, store}
use Rattle.definition.proofs.Protectors.{HasProtector, visited-lacks, released-lacks, released-itself, reborrowed-lacks}

-- ---- the permission
-- a read byte of a protected shared reference
abbrev pub frozen : Permission
frozen = Prot (PermissionProt.Frozen had_local_read)

-- an access that is not refused there is no write
unwritten : (writes : Bool) (r : NodeRelation) → refusal_by (if writes then some Write else none) r frozen ≡ 0 → writes ≡ false
unfolding refusal
unwritten false r e = refl
unwritten true Local e = absurd (omega arith)
unwritten true Foreign e = absurd (omega arith)

-- and leaves it
frozen-stays : (x : Option AccessKind) (i : Reach) → reached_refusal x i frozen ≡ 0 → reached_next x i frozen ≡ frozen
unfolding refusal next
frozen-stays x Spared e = refl
frozen-stays none (Reached r) e = refl
frozen-stays (some Read) (Reached Local) e = refl
frozen-stays (some Read) (Reached Foreign) e = refl
frozen-stays (some Write) (Reached Local) e = absurd (omega arith)
frozen-stays (some Write) (Reached Foreign) e = absurd (omega arith)

-- ---- byte b of node n, in a tree
module _ (n b : ℕ) where
  frozen-visited : (v : Visit) (nodes : List Node) → Parents (parents nodes) → visit_refusal v nodes ≡ 0
      → permission_at nodes n b ≡ frozen → permission_at (visited v nodes) n b ≡ frozen
  frozen-visited v nodes tree e h =
      let x : Option AccessKind = v.access_at b in
      let i : Reach = reach v (parents nodes) n in
      visited-at v nodes n b ∙ ap (reached_next x i) h ∙ frozen-stays x i (ap (reached_refusal x i) (sym h) ∙ visit-accepted v nodes tree e n b)

  -- a write that is accepted is one of other bytes
  written-elsewhere : (node start len : ℕ) (nodes : List Node) → Parents (parents nodes) → visit_refusal (access_visit Write node start len) nodes ≡ 0
      → permission_at nodes n b ≡ frozen → in_range start len b ≡ false
  written-elsewhere node start len nodes tree e h =
      let v : Visit = access_visit Write node start len in
      let r : NodeRelation = relation (parents nodes) n node in
      unwritten (in_range start len b) r (ap (refusal_by (v.access_at b) r) (sym h) ∙ visit-accepted v nodes tree e n b)

  frozen-initialised : (child from : ℕ) (inside : List Permission) (nodes : List Node) → Parents (parents nodes) → init_refusal child from inside nodes ≡ 0
      → permission_at nodes n b ≡ frozen → permission_at (after_init child from inside nodes) n b ≡ frozen
  unfolding init_refusal after_init
  frozen-initialised child from [] nodes tree e h = h
  frozen-initialised child from (p ∷ inside) nodes tree e h =
      let v : Visit = init_visit child from p in
      let first : ℕ = visit_refusal v nodes in
      let later : ℕ = init_refusal child (suc from) inside (visited v nodes) in
      frozen-initialised child (suc from) inside (visited v nodes) (subst Parents (sym (visited-parents v nodes)) tree) (or_right first later e)
      (frozen-visited v nodes tree (or_left first later e) h)

  -- the release of another node
  frozen-released : (state : Liveness) (k : ℕ) (nodes : List Node) → (k ≡ n → ⊥) → Parents (parents nodes) → release_visit_refusal state k nodes ≡ 0
      → permission_at nodes n b ≡ frozen → permission_at (released_nodes state k nodes) n b ≡ frozen
  frozen-released state k nodes other tree e h = go state e (mutate-kept row (unprotect_node state) no_node nodes k n (λ i. absurd (other i)) ∙ h)
    where
      row : Node → Permission
      row x = row_at x.permissions b

      go : (state : Liveness) → release_visit_refusal state k nodes ≡ 0 → permission_at (mutate_at k (unprotect_node state) nodes) n b ≡ frozen
          → permission_at (released_nodes state k nodes) n b ≡ frozen
      go Live e h = frozen-visited (release_visit k nodes) (mutate_at k (unprotect_node Live) nodes) (subst Parents (sym (unprotected-parents Live k nodes)) tree) e h
      go Dead e h = h

-- ---- the trees that changes leave
pub init-tree : (child from : ℕ) (inside : List Permission) (nodes : List Node) → Parents (parents nodes) → Parents (parents (after_init child from inside nodes))
init-tree child from inside nodes tree =
    subst Parents (sym (ap parents (reads-at-once child from inside nodes) ∙ visited-parents (reads_visit child from inside) nodes)) tree

released-tree : (state : Liveness) (n : ℕ) (nodes : List Node) → Parents (parents nodes) → Parents (parents (released_nodes state n nodes))
released-tree Live n nodes tree = subst Parents (sym (visited-parents (release_visit n nodes) (mutate_at n (unprotect_node Live) nodes) ∙ unprotected-parents Live n nodes)) tree
released-tree Dead n nodes tree = subst Parents (sym (unprotected-parents Dead n nodes)) tree

-- ---- in an allocation: byte b, which node n holds, and its word
module _ (n b word : ℕ) where
  pub record Held (a : Allocation) : Type 0 where
    pub live : is_live a.state ≡ true
    pub within : b < size a
    pub permission : permission_at a.nodes n b ≡ frozen
    pub contents : get_or a.words b 0 ≡ word

  -- as long as the node has its protector
  pub record HeldWhileProtected (a : Allocation) : Type 0 where
    pub tree : Parents (parents a.nodes)
    pub made : n < node_count a
    pub held : HasProtector n a → Held a

  -- load and store
  contents-kept : (x : MemoryAccess) → IsAccess x → (a : Allocation) → Parents (parents a.nodes) → visit_refusal (visit_of x a) a.nodes ≡ 0
      → permission_at a.nodes n b ≡ frozen → get_or (write_at (offset a x.pointer) x.bytes a.words) b 0 ≡ get_or a.words b 0
  contents-kept x (load k no_bytes) a tree e h = rw (no_bytes, write-none)
  contents-kept x (store k many) a tree e h =
      let from : ℕ = offset a x.pointer in
      let node : ℕ = node_of x.pointer.provenance in
      let write : visit_refusal (access_visit Write node from x.len) a.nodes ≡ 0 =
      subst (λ (kind : AccessKind). visit_refusal (access_visit kind node from x.len) a.nodes ≡ 0) k e
      in
      outside-write from x.bytes a.words b 0
      (ap (λ (len : ℕ). in_range from len b) (sym many) ∙ written-elsewhere n b node from x.len a.nodes tree write h)

  held-accessed : (x : MemoryAccess) → IsAccess x → (a : Allocation) → Parents (parents a.nodes) → visit_refusal (visit_of x a) a.nodes ≡ 0
      → Held a → Held (after_access_in x a)
  unfolding after_access_in
  held-accessed x access a tree e h =
      record {
        live = h.live;
        within = omega (arith, h.within, write-length (offset a x.pointer) x.bytes a.words);
        permission = frozen-visited n b (visit_of x a) a.nodes tree e h.permission;
        contents = contents-kept x access a tree e h.permission ∙ h.contents;
      }

  -- a deallocation would write the byte
  not-deallocated : (p : ThinPointer) (a : Allocation) → Parents (parents a.nodes) → visit_refusal (write_all p a) a.nodes ≡ 0 → Held a → ⊥
  not-deallocated p a tree e h =
      false≢true
      (sym (written-elsewhere n b (node_of p.provenance) 0 (size a) a.nodes tree e h.permission)
      ∙ rw (le-leb 0 b (omega arith), lt-ltb b (0 + size a) (omega (arith, h.within))))

  -- a retag adds a node behind the others
  held-reborrowed : (w : ReborrowSettings) (p : ThinPointer) (a : Allocation) → Parents (parents (with_child w p a)) → n < node_count a
      → init_refusal (length a.nodes) (offset a p) w.inside (with_child w p a) ≡ 0 → Held a → Held (after_reborrow_in w p a)
  unfolding after_reborrow_in with_child
  held-reborrowed w p a tree l e h =
      record {
        live = h.live;
        within = h.within;
        permission =
            frozen-initialised n b (length a.nodes) (offset a p) w.inside (with_child w p a) tree e
            (ap (λ (x : Node). row_at x.permissions b) (get_or-append a.nodes (child_node w p a ∷ []) no_node n l) ∙ h.permission);
        contents = h.contents;
      }

  -- a release: of node n, which lets go, or of another
  lets_go : (a : Allocation) → HasProtector n a → HeldWhileProtected a → HasProtector n (after_release_in n a) → ⊥
  unfolding after_release_in
  lets_go a before h after = go a.state (h.held before).live after
    where
      go : (state : Liveness) → is_live state ≡ true → lacks_protector (node_at (released_nodes state n a.nodes) n) ≡ false → ⊥
      go Live i k = false≢true (sym k ∙ released-itself n a.nodes h.made)
      go Dead i k = false≢true i

  released-held : (k : ℕ) (a : Allocation) → release_refusal_in k a ≡ 0 → HeldWhileProtected a → HasProtector n (after_release_in k a) → Held (after_release_in k a)
  unfolding release_refusal_in after_release_in
  released-held k a e h after =
      let unprotected : Bool = lacks_protector (node_at a.nodes k) in
      let r16 : ℕ = not_protected when unprotected in
      let visit : ℕ = release_visit_refusal a.state k a.nodes in
      elim (ℕ_discrete k n) [
        | yes i ↦
            let before : HasProtector n a = subst (λ (k : ℕ). HasProtector k a) i (when-none 15 unprotected (or_left r16 visit e)) in
            absurd (lets_go a before h (subst (λ (k : ℕ). HasProtector n (after_release_in k a)) i after))
        | no i ↦
            let before : Held a = h.held (sym (released-lacks a.state k a.nodes n i) ∙ after) in
            record {
              live = before.live;
              within = before.within;
              permission = frozen-released n b a.state k a.nodes i h.tree (or_right r16 visit e) before.permission;
              contents = before.contents;
            }
      ]

  -- ---- every request
  pub held_kept : Kept HeldWhileProtected
  unfolding after_access_in after_deallocate_in after_reborrow_in with_child child_node
  held_kept =
      record {
        allocated = λ kind len exponent address h. absurd (omega (arith, h.made));
        accessed =
            λ x access a e h.
            let v : Visit = visit_of x a in
            record {
              tree = subst Parents (sym (visited-parents v a.nodes)) h.tree;
              made = omega (arith, h.made, visited-length v a.nodes);
              held = λ k. held-accessed x access a h.tree e (h.held (sym (visited-lacks v a.nodes n) ∙ k));
            };
        deallocated =
            λ p a e h.
            let v : Visit = write_all p a in
            record {
              tree = subst Parents (sym (visited-parents v a.nodes)) h.tree;
              made = omega (arith, h.made, visited-length v a.nodes);
              held = λ k. absurd (not-deallocated p a h.tree e (h.held (sym (visited-lacks v a.nodes n) ∙ k)));
            };
        reborrowed =
            λ pointer protected mask freeze p a l e h.
            let w : ReborrowSettings = reborrow_settings pointer protected mask freeze in
            let grown : Parents (parents (with_child w p a)) = appended-tree a.nodes (child_node w p a) l h.tree in
            record {
              tree = init-tree (length a.nodes) (offset a p) w.inside (with_child w p a) grown;
              made = omega (arith, h.made, init-length (length a.nodes) (offset a p) w.inside (with_child w p a), with_child-length w p a);
              held = λ k. held-reborrowed w p a grown h.made e (h.held (sym (reborrowed-lacks w p a n h.made) ∙ k));
            };
      }

  pub held-released : KeptByRelease HeldWhileProtected
  unfolding after_release_in
  held-released =
      record {
        released =
            λ k a e h.
            record {
              tree = released-tree a.state k a.nodes h.tree;
              made = omega (arith, h.made, released-length k a.state a.nodes);
              held = released-held k a e h;
            };
      }
