-- Two visits of one tree that are independent at each byte (one has no access there, or both read): each is refused, or not, as without the other,
-- and they leave the same nodes in either order. A visit that only reads, repeated, changes nothing more. For any list of nodes, a tree or not.
use Rattle.std.specs.Prelude.{if◌then◌else◌}
use Prim.Native.Nat.{ℕ, zero, suc}
use mathlib.Core.Path.{◌≡◌, refl, sym, ap, ap₂, ◌∙◌}
use mathlib.Core.Bool.{Bool, true, false}
use mathlib.Core.Option.{Option}
use mathlib.Core.List.{List, [], ◌∷◌}
use lib.ListN.{length}
use Rattle.definition.specs.Notation.{◌or◌, first_refusal, map_from}
use Rattle.definition.specs.Permission.{AccessKind, NodeRelation, Permission, next_by}
use Rattle.definition.specs.Tree.{Node, node_at, parents, relation, visiting_order, is_spared, Visit, row_refusal, row_after, node_refusal, visit_refusal, node_after, visited}
use Rattle.definition.proofs.Permissions.{Calm, calm-refused, calm-commute, calm-again}
use Rattle.definition.proofs.Lists.{first-same, each-then, each-commute, each-length, each_map}

-- a row after a visit, that may spare it
abbrev row_if : Bool → (ℕ → Option AccessKind) → NodeRelation → List Permission → List Permission
row_if spared access_at r row = if spared then row else row_after access_at r row

module _ (f g : ℕ → Option AccessKind) (calm : (b : ℕ) → Calm (f b) (g b)) where
  row-refused : (r s : NodeRelation) (b : ℕ) (l : List Permission) → row_refusal g s b (map_from b (λ k p. next_by (f k) r p) l) ≡ row_refusal g s b l
  unfolding row_refusal map_from
  row-refused r s b [] = refl
  row-refused r s b (p ∷ l) = ap₂ ◌or◌ (calm-refused (f b) (g b) (calm b) r s p) (row-refused r s (suc b) l)

  row_if-refused : (spared : Bool) (r s : NodeRelation) (l : List Permission) → row_refusal g s 0 (row_if spared f r l) ≡ row_refusal g s 0 l
  row_if-refused true r s l = refl
  row_if-refused false r s l = row-refused r s 0 l

  row_if-commute : (x y : Bool) (r s : NodeRelation) (l : List Permission) → row_if y g s (row_if x f r l) ≡ row_if x f r (row_if y g s l)
  row_if-commute true y r s l = refl
  row_if-commute false true r s l = refl
  row_if-commute false false r s l =
      each-commute (λ b p. next_by (f b) r p) (λ b p. next_by (g b) s p) (λ b p. calm-commute (f b) (g b) (calm b) r s p) 0 l

row_if-again : (f : ℕ → Option AccessKind) (calm : (b : ℕ) → Calm (f b) (f b)) (spared : Bool) (r : NodeRelation) (l : List Permission)
    → row_if spared f r (row_if spared f r l) ≡ row_if spared f r l
row_if-again f calm true r l = refl
row_if-again f calm false r l = each-then (λ b p. next_by (f b) r p) (λ b p. next_by (f b) r p) (λ b p. next_by (f b) r p) (λ b p. calm-again (f b) (calm b) r p) 0 l

-- a visit keeps who is whose parent
pub visited-parents : (v : Visit) (nodes : List Node) → parents (visited v nodes) ≡ parents nodes
unfolding visited node_after
visited-parents v nodes = each_map (λ x. x.parent) (node_after v (parents nodes)) (λ n x. refl) 0 nodes

pub visited-length : (v : Visit) (nodes : List Node) → length (visited v nodes) ≡ length nodes
unfolding visited
visited-length v nodes = each-length (node_after v (parents nodes)) 0 nodes

module _ (v w : Visit) (calm : (b : ℕ) → Calm (v.access_at b) (w.access_at b)) where
  row_kept : (ps : List ℕ) (s : NodeRelation) (k n : ℕ) (nodes : List Node)
      → row_refusal w.access_at s 0 (node_at (map_from k (node_after v ps) nodes) n).permissions ≡ row_refusal w.access_at s 0 (node_at nodes n).permissions
  unfolding map_from node_after
  row_kept ps s k n [] = refl
  row_kept ps s k zero (x ∷ xs) =
      row_if-refused v.access_at w.access_at calm (is_spared ps v.spared k) (relation ps k v.accessed) s x.permissions
  row_kept ps s k (suc n) (x ∷ xs) = row_kept ps s (suc k) n xs

  node-refused : (nodes : List Node) (n : ℕ) → node_refusal w (visited v nodes) n ≡ node_refusal w nodes n
  unfolding node_refusal visited
  node-refused nodes n =
      ap (λ (ps : List ℕ). row_refusal w.access_at (relation ps n w.accessed) 0 (node_at (visited v nodes) n).permissions) (visited-parents v nodes)
      ∙ row_kept (parents nodes) (relation (parents nodes) n w.accessed) 0 n nodes

  -- w after v is refused as w alone
  pub visit-refused : (nodes : List Node) → visit_refusal w (visited v nodes) ≡ visit_refusal w nodes
  unfolding visit_refusal
  visit-refused nodes =
      ap (λ (ps : List ℕ). first_refusal (node_refusal w (visited v nodes)) (visiting_order ps w.spared)) (visited-parents v nodes)
      ∙ first-same (node_refusal w (visited v nodes)) (node_refusal w nodes) (node-refused nodes) (visiting_order (parents nodes) w.spared)

  node-commute : (ps : List ℕ) (n : ℕ) (x : Node) → node_after w ps n (node_after v ps n x) ≡ node_after v ps n (node_after w ps n x)
  unfolding node_after
  node-commute ps n x =
      ap {B = Node} (λ (l : List Permission). record { parent = x.parent; protected = x.protected; permissions = l })
      (row_if-commute v.access_at w.access_at calm (is_spared ps v.spared n) (is_spared ps w.spared n) (relation ps n v.accessed) (relation ps n w.accessed) x.permissions)

  -- the same nodes in either order
  pub visited-commute : (nodes : List Node) → visited w (visited v nodes) ≡ visited v (visited w nodes)
  unfolding visited
  visited-commute nodes =
      ap (λ (ps : List ℕ). map_from 0 (node_after w ps) (visited v nodes)) (visited-parents v nodes)
      ∙ each-commute (node_after v (parents nodes)) (node_after w (parents nodes)) (node-commute (parents nodes)) 0 nodes
      ∙ sym (ap (λ (ps : List ℕ). map_from 0 (node_after v ps) (visited w nodes)) (visited-parents w nodes))

pub visited-again : (v : Visit) (calm : (b : ℕ) → Calm (v.access_at b) (v.access_at b)) (nodes : List Node) → visited v (visited v nodes) ≡ visited v nodes
unfolding visited node_after
visited-again v calm nodes =
    ap (λ (ps : List ℕ). map_from 0 (node_after v ps) (visited v nodes)) (visited-parents v nodes)
    ∙ each-then (node_after v (parents nodes)) (node_after v (parents nodes)) (node_after v (parents nodes))
    (λ n x.
    ap {B = Node} (λ (l : List Permission). record { parent = x.parent; protected = x.protected; permissions = l })
    (row_if-again v.access_at calm (is_spared (parents nodes) v.spared n) (relation (parents nodes) n v.accessed) x.permissions))
    0 nodes
