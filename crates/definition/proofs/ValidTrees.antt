-- A visit, the end of a protector and a new child keep an allocation's nodes well formed: an access keeps whether a permission is protected.
use Prim.Native.Nat.{ℕ, zero, suc, ◌+◌, ◌<◌}
use mathlib.Core.Path.{◌≡◌, refl, ◌∙◌}
use mathlib.Core.Bool.{Bool, true, false, false≢true}
use mathlib.Core.Option.{Option, none, some}
use mathlib.Core.List.{List, [], ◌∷◌, map}
use native.Mathlib.Omega.{arith}
use lib.ListN.{length, replicate, length-append, length-map, length-replicate}
use Rattle.definition.specs.Notation.{mutate_at}
use Rattle.definition.specs.Permission.{AccessKind, NodeRelation, PermissionUnprot, PermissionProt, Permission, Outcome, transition_unprot, transition_prot, wrapped, permission_after, next, next_by, is_protected, unprotected, Protected, is_yes, SafePointer, mk_perm}
use Rattle.definition.specs.Permission.Outcome.{becomes, refused}
use Rattle.definition.specs.Permission.Permission.{Unprot, Prot}
use Rattle.definition.specs.Permission.Protected.{No, Weak, Strong}
use Rattle.definition.specs.Permission.SafePointer.{SharedRef, MutableRef, Box}
use Rattle.definition.specs.Tree.{Node, parents, relation, is_spared, Visit, row_after, node_after, visited}
use Rattle.definition.specs.Layout.{FreezeMask}
use Rattle.definition.specs.Memory.{Allocation, Liveness, is_live, size, ThinPointer, node_of, offset}
use Rattle.definition.specs.Memory.Liveness.{Live, Dead}
use Rattle.definition.specs.Frame.{unprotect_node, release_visit, released_nodes}
use Rattle.definition.specs.Retag.{ReborrowSettings, start_perm, reborrow_settings, child_node, with_child, init_visit, after_init}
use Rattle.definition.specs.Valid.{All, AllFrom, Placed, ValidNode}
use Rattle.definition.proofs.Lists.{each-length, mutate-length}
use Rattle.definition.proofs.Writes.{write-length}
use Rattle.definition.proofs.Visits.{visited-length}
use Rattle.definition.proofs.Alls.{if-holds, all-each, all-write, all_replicate, all_map, all_from-imp, all_from-each, all_from-mutate, all_from-append}

-- ---- the rows
pub rows-wide : (bytes : ℕ) (live : Bool) (n : ℕ) (nodes : List Node) → AllFrom n (ValidNode bytes live) nodes → All (λ x. length x.permissions ≡ bytes) nodes
rows-wide bytes live n [] v = tt
rows-wide bytes live n (x ∷ nodes) v = (v.0.wide, rows-wide bytes live (suc n) nodes v.1)

-- ---- permissions
after-wrapped : {P : Type 0} (wrap : P → Permission) (b : Bool) → ((q : P) → is_protected (wrap q) ≡ b) → (q : P) (o : Outcome P)
    → is_protected (permission_after (wrap q) (wrapped wrap o)) ≡ b
after-wrapped wrap b h q (becomes r) = h r
after-wrapped wrap b h q (refused n) = h q

pub next-protected : (a : AccessKind) (r : NodeRelation) (p : Permission) → is_protected (next a r p) ≡ is_protected p
unfolding next
next-protected a r (Unprot u) = after-wrapped Unprot false (λ q. refl) u (transition_unprot a r u)
next-protected a r (Prot p) = after-wrapped Prot true (λ q. refl) p (transition_prot a r p)

pub next_by-protected : (a : Option AccessKind) (r : NodeRelation) (p : Permission) → is_protected (next_by a r p) ≡ is_protected p
next_by-protected none r p = refl
next_by-protected (some a) r p = next-protected a r p

pub unprotected-not-protected : (p : Permission) → is_protected (unprotected p) ≡ false
unprotected-not-protected (Unprot u) = refl
unprotected-not-protected (Prot p) = refl

-- ---- a visit
-- the nodes of an allocation of so many bytes
abbrev pub ValidNodes : ℕ → Bool → List Node → Type 0
ValidNodes bytes live nodes = AllFrom 0 (ValidNode bytes live) nodes

module _ (v : Visit) where
  same_place : (ps : List ℕ) (n k : ℕ) (x : Node) → Placed n x → Placed n (node_after v ps k x)
  unfolding node_after
  same_place ps zero k x h = h
  same_place ps (suc n) k x h = h

  after-visit : (ps : List ℕ) (bytes : ℕ) (live : Bool) (n : ℕ) (x : Node) → ValidNode bytes live n x → ValidNode bytes live n (node_after v ps n x)
  unfolding node_after
  after-visit ps bytes live n x h =
      let spared : Bool = is_spared ps v.spared n in
      let r : NodeRelation = relation ps n v.accessed in
      let row : List Permission = x.permissions in
      let after : List Permission = row_after v.access_at r row in
      let Marked : Permission → Type 0 = λ p. is_protected p ≡ is_yes x.protected in
      record {
        placed = same_place ps n n x h.placed;
        wide = if-holds (λ l. length l ≡ bytes) spared row after (λ e. h.wide) (λ e. each-length (λ b p. next_by (v.access_at b) r p) 0 row ∙ h.wide);
        marked =
            λ e.
            if-holds (All Marked) spared row after (λ s. h.marked e)
            (λ s. all-each Marked (λ b p. next_by (v.access_at b) r p) (λ b p m. next_by-protected (v.access_at b) r p ∙ m) 0 row (h.marked e));
      }

  pub visited-valid : (bytes : ℕ) (live : Bool) (nodes : List Node) → ValidNodes bytes live nodes → ValidNodes bytes live (visited v nodes)
  unfolding visited
  visited-valid bytes live nodes h =
      all_from-each (ValidNode bytes live) (node_after v (parents nodes)) (λ n x. after-visit (parents nodes) bytes live n x) 0 nodes h

-- nothing is asked of the permissions of the dead
pub dead-valid : (bytes : ℕ) (live : Bool) (nodes : List Node) → ValidNodes bytes live nodes → ValidNodes bytes false nodes
dead-valid bytes live nodes h =
    all_from-imp (ValidNode bytes live) (ValidNode bytes false)
    (λ n x k. record { placed = k.placed; wide = k.wide; marked = λ e. absurd (false≢true e) }) 0 nodes h

-- ---- a release
placed-unprotected : (state : Liveness) (n : ℕ) (x : Node) → Placed n x → Placed n (unprotect_node state x)
placed-unprotected Live zero x h = (h.0, refl)
placed-unprotected Dead zero x h = h
placed-unprotected state (suc n) x h = h

marked-unprotected : (state : Liveness) (x : Node) → is_live state ≡ true → All (λ p. is_protected p ≡ is_yes (unprotect_node state x).protected) (map unprotected x.permissions)
marked-unprotected Live x e = all_map (λ p. is_protected p ≡ false) unprotected unprotected-not-protected x.permissions
marked-unprotected Dead x e = absurd (false≢true e)

unprotect-valid : (state : Liveness) (bytes n : ℕ) (x : Node) → ValidNode bytes (is_live state) n x → ValidNode bytes (is_live state) n (unprotect_node state x)
unprotect-valid state bytes n x h =
    record {
      placed = placed-unprotected state n x h.placed;
      wide = length-map x.permissions unprotected ∙ h.wide;
      marked = marked-unprotected state x;
    }

module _ (n : ℕ) where
  mutate-valid : (state : Liveness) (bytes : ℕ) (nodes : List Node) → ValidNodes bytes (is_live state) nodes → ValidNodes bytes (is_live state) (mutate_at n (unprotect_node state) nodes)
  mutate-valid state bytes nodes h = all_from-mutate (ValidNode bytes (is_live state)) (unprotect_node state) (unprotect-valid state bytes) 0 n nodes h

  pub released-valid : (state : Liveness) (bytes : ℕ) (nodes : List Node) → ValidNodes bytes (is_live state) nodes → ValidNodes bytes (is_live state) (released_nodes state n nodes)
  released-valid Live bytes nodes h = visited-valid (release_visit n nodes) bytes true (mutate_at n (unprotect_node Live) nodes) (mutate-valid Live bytes nodes h)
  released-valid Dead bytes nodes h = mutate-valid Dead bytes nodes h

  pub released-length : (state : Liveness) (nodes : List Node) → length (released_nodes state n nodes) ≡ length nodes
  released-length Live nodes = visited-length (release_visit n nodes) (mutate_at n (unprotect_node Live) nodes) ∙ mutate-length n (unprotect_node Live) nodes
  released-length Dead nodes = mutate-length n (unprotect_node Dead) nodes

-- ---- a new child
-- the permissions are those of a node with this protector
pub record SettingsAgree (w : ReborrowSettings) : Type 0 where
  pub inside : All (λ p. is_protected p ≡ is_yes w.protected) w.inside
  pub outside : is_protected w.outside ≡ is_yes w.protected

mk_perm-agrees : (protected : Protected) (u : PermissionUnprot) (p : PermissionProt) → is_protected (mk_perm protected u p) ≡ is_yes protected
mk_perm-agrees No u p = refl
mk_perm-agrees Weak u p = refl
mk_perm-agrees Strong u p = refl

start_perm-agrees : (pointer : SafePointer) (protected : Protected) (is_freeze : Bool) → is_protected (start_perm pointer protected is_freeze) ≡ is_yes protected
start_perm-agrees SharedRef protected true = mk_perm-agrees protected _ _
start_perm-agrees SharedRef protected false = mk_perm-agrees protected _ _
start_perm-agrees MutableRef protected true = mk_perm-agrees protected _ _
start_perm-agrees MutableRef protected false = mk_perm-agrees protected _ _
start_perm-agrees Box protected true = mk_perm-agrees protected _ _
start_perm-agrees Box protected false = mk_perm-agrees protected _ _

pub settings-agree : (pointer : SafePointer) (protected : Protected) (mask : FreezeMask) (freeze : Bool) → SettingsAgree (reborrow_settings pointer protected mask freeze)
settings-agree pointer protected mask freeze =
    record {
      inside = all_map (λ p. is_protected p ≡ is_yes protected) (start_perm pointer protected) (start_perm-agrees pointer protected) mask;
      outside = start_perm-agrees pointer protected freeze;
    }

placed-later : (n : ℕ) (x : Node) → x.parent < n → Placed n x
placed-later zero x h = absurd (omega arith)
placed-later (suc n) x h = omega arith

module _ (w : ReborrowSettings) (p : ThinPointer) (a : Allocation) where
  pub with_child-length : length (with_child w p a) ≡ length a.nodes + 1
  unfolding with_child
  with_child-length = length-append a.nodes (child_node w p a ∷ [])

  pub child-valid : SettingsAgree w → (live : Bool) (n : ℕ) → node_of p.provenance < n → ValidNode (size a) live n (child_node w p a)
  unfolding child_node
  child-valid agree live n h =
      let Marked : Permission → Type 0 = λ q. is_protected q ≡ is_yes w.protected in
      record {
        placed = placed-later n (child_node w p a) h;
        wide = write-length (offset a p) w.inside (replicate (size a) w.outside) ∙ length-replicate (size a) w.outside;
        marked =
            λ e.
            all-write Marked (offset a p) w.inside (replicate (size a) w.outside) agree.inside
            (all_replicate Marked (size a) w.outside agree.outside);
      }

  pub with_child-valid : SettingsAgree w → (live : Bool) → node_of p.provenance < length a.nodes → ValidNodes (size a) live a.nodes → ValidNodes (size a) live (with_child w p a)
  unfolding with_child
  with_child-valid agree live h nodes =
      all_from-append (ValidNode (size a) live) 0 a.nodes (child_node w p a) nodes (child-valid agree live (0 + length a.nodes) (omega arith))

-- the child's first reads
pub init-valid : (child b : ℕ) (inside : List Permission) (bytes : ℕ) (live : Bool) (nodes : List Node) → ValidNodes bytes live nodes → ValidNodes bytes live (after_init child b inside nodes)
unfolding after_init
init-valid child b [] bytes live nodes h = h
init-valid child b (p ∷ inside) bytes live nodes h =
    init-valid child (suc b) inside bytes live (visited (init_visit child b p) nodes) (visited-valid (init_visit child b p) bytes live nodes h)

pub init-length : (child b : ℕ) (inside : List Permission) (nodes : List Node) → length (after_init child b inside nodes) ≡ length nodes
unfolding after_init
init-length child b [] nodes = refl
init-length child b (p ∷ inside) nodes = init-length child (suc b) inside (visited (init_visit child b p) nodes) ∙ visited-length (init_visit child b p) nodes
