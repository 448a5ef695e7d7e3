-- A visit told node by node and byte by byte, so that a law about trees comes down to one about permissions:
--     visited-at        the permission that it leaves
--     visit-accepted    where it is not refused, no access that it makes is
--     visit-accepts     and the other way round
use Rattle.std.specs.Prelude.{if◌then◌else◌}
use Prim.Native.Nat.{ℕ, zero, suc, ◌+◌}
use mathlib.Core.Path.{◌≡◌, refl, sym, ap, ap₂, ◌∙◌}
use mathlib.Core.Bool.{Bool, true, false, not, false≢true}
use mathlib.Core.Logic.{⊎_elim}
use mathlib.Core.Option.{Option, none, some}
use mathlib.Core.List.{List, [], ◌∷◌}
use native.Mathlib.Nat.{zero-add, add-zero}
use native.Mathlib.Decide.{dec_lt}
use native.Mathlib.Omega.{arith}
use lib.ListN.{length, get_or, length-map, get_or-eq_default}
use Rattle.definition.specs.Notation.{◌or◌, first_refusal, map_from, filter}
use Rattle.definition.specs.Permission.{AccessKind, NodeRelation, PermissionUnprot, Permission, refusal, next, refusal_by, next_by}
use Rattle.definition.specs.Permission.AccessKind.{Read, Write}
use Rattle.definition.specs.Permission.NodeRelation.{Local, Foreign}
use Rattle.definition.specs.Permission.Permission.{Unprot}
use Rattle.definition.specs.Tree.{Node, no_node, node_at, parents, relation, is_spared, preorder, visiting_order, Visit, row_refusal, node_refusal, visit_refusal, node_after, visited}
use Rattle.definition.proofs.Booleans.{or_left, or_right}
use Rattle.definition.proofs.Counts.{count, Member, counted-member}
use Rattle.definition.proofs.Trees.{Parents}
use Rattle.definition.proofs.Order.{visits-others}

-- ---- the permission at a byte. Where there is none, Cell stands: it refuses no access and no access changes it, so that the laws need no bounds
abbrev pub row_at : List Permission → ℕ → Permission
row_at row b = get_or row b (Unprot PermissionUnprot.Cell)

abbrev pub permission_at : List Node → ℕ → ℕ → Permission
permission_at nodes n b = row_at (node_at nodes n).permissions b

cell_stays : (x : Option AccessKind) (r : NodeRelation) → next_by x r (Unprot PermissionUnprot.Cell) ≡ Unprot PermissionUnprot.Cell
unfolding next
cell_stays none r = refl
cell_stays (some Read) Local = refl
cell_stays (some Read) Foreign = refl
cell_stays (some Write) Local = refl
cell_stays (some Write) Foreign = refl

pub cell-accepts : (x : Option AccessKind) (r : NodeRelation) → refusal_by x r (Unprot PermissionUnprot.Cell) ≡ 0
unfolding refusal
cell-accepts none r = refl
cell-accepts (some Read) Local = refl
cell-accepts (some Read) Foreign = refl
cell-accepts (some Write) Local = refl
cell-accepts (some Write) Foreign = refl

-- ---- a row
module _ (f : ℕ → Option AccessKind) (r : NodeRelation) where
  row-place : (n : ℕ) (row : List Permission) (b : ℕ) → row_at (map_from n (λ k p. next_by (f k) r p) row) b ≡ next_by (f (n + b)) r (row_at row b)
  unfolding map_from
  row-place n [] b = sym (cell_stays (f (n + b)) r)
  row-place n (p ∷ row) zero = ap (λ (k : ℕ). next_by (f k) r p) (sym (add-zero n))
  row-place n (p ∷ row) (suc b) = row-place (suc n) row b ∙ ap (λ (k : ℕ). next_by (f k) r (row_at row b)) (omega arith)

  row-accepted : (n : ℕ) (row : List Permission) → row_refusal f r n row ≡ 0 → (b : ℕ) → refusal_by (f (n + b)) r (row_at row b) ≡ 0
  unfolding row_refusal
  row-accepted n [] e b = cell-accepts (f (n + b)) r
  row-accepted n (p ∷ row) e zero = ap (λ (k : ℕ). refusal_by (f k) r p) (add-zero n) ∙ or_left (refusal_by (f n) r p) (row_refusal f r (suc n) row) e
  row-accepted n (p ∷ row) e (suc b) =
      ap (λ (k : ℕ). refusal_by (f k) r (row_at row b)) (omega arith) ∙ row-accepted (suc n) row (or_right (refusal_by (f n) r p) (row_refusal f r (suc n) row) e) b

  row-accepts : (n : ℕ) (row : List Permission) → ((b : ℕ) → refusal_by (f (n + b)) r (row_at row b) ≡ 0) → row_refusal f r n row ≡ 0
  unfolding row_refusal
  row-accepts n [] h = refl
  row-accepts n (p ∷ row) h =
      ap₂ ◌or◌ (ap (λ (k : ℕ). refusal_by (f k) r p) (sym (add-zero n)) ∙ h 0)
      (row-accepts (suc n) row (λ b. ap (λ (k : ℕ). refusal_by (f k) r (row_at row b)) (omega arith) ∙ h (suc b)))

-- ---- the first refusal along a list is none
first-accepted : (f : ℕ → ℕ) (l : List ℕ) → first_refusal f l ≡ 0 → (j : ℕ) → Member j l → f j ≡ 0
unfolding first_refusal
first-accepted f [] e j m = absurd m
first-accepted f (x ∷ xs) e j m =
    ⊎_elim (λ h. ap f (sym h) ∙ or_left (f x) (first_refusal f xs) e) (λ h. first-accepted f xs (or_right (f x) (first_refusal f xs) e) j h) m

first-accepts : (f : ℕ → ℕ) (test : ℕ → Bool) → ((x : ℕ) → test x ≡ true → f x ≡ 0) → (l : List ℕ) → first_refusal f (filter test l) ≡ 0
unfolding first_refusal filter
first-accepts f test h [] = refl
first-accepts f test h (x ∷ xs) = go (test x) (h x) (first-accepts f test h xs)
  where
    go : (t : Bool) → (t ≡ true → f x ≡ 0) → first_refusal f (filter test xs) ≡ 0 → first_refusal f (if t then x ∷ filter test xs else filter test xs) ≡ 0
    go true k e = ap₂ ◌or◌ (k refl) e
    go false k e = e

-- ---- what a visit is to a node: the node is spared, or reached by an access that is local or foreign to it
pub data Reach : Type 0 where
  Spared : Reach
  Reached : NodeRelation → Reach

abbrev pub reach_by : Bool → NodeRelation → Reach
reach_by spared r = if spared then Spared else Reached r

abbrev pub reach : Visit → List ℕ → ℕ → Reach
reach v ps n = reach_by (is_spared ps v.spared n) (relation ps n v.accessed)

-- the refusal, and the permission afterwards, at a node that is reached so
abbrev pub reached_refusal : Option AccessKind → Reach → Permission → ℕ
reached_refusal x Spared p = 0
reached_refusal x (Reached r) p = refusal_by x r p

abbrev pub reached_next : Option AccessKind → Reach → Permission → Permission
reached_next x Spared p = p
reached_next x (Reached r) p = next_by x r p

module _ (v : Visit) (nodes : List Node) where
  abbrev ps : List ℕ
  ps = parents nodes

  abbrev spares : ℕ → Bool
  spares j = is_spared ps v.spared j

  abbrev relation_of : ℕ → NodeRelation
  relation_of j = relation ps j v.accessed

  -- ---- the node, and the permission, that it leaves
  no-node-after : (j : ℕ) → no_node ≡ node_after v ps j no_node
  unfolding node_after map_from
  no-node-after j = go (spares j)
    where
      go : (t : Bool) → ◌≡◌ {A = Node} no_node (record { parent = 0; protected = no_node.protected; permissions = if t then [] else [] })
      go true = refl
      go false = refl

  node-place : (n : ℕ) (l : List Node) (j : ℕ) → node_at (map_from n (node_after v ps) l) j ≡ node_after v ps (n + j) (node_at l j)
  unfolding map_from
  node-place n [] j = no-node-after (n + j)
  node-place n (x ∷ l) zero = ap (λ (k : ℕ). node_after v ps k x) (sym (add-zero n))
  node-place n (x ∷ l) (suc j) = node-place (suc n) l j ∙ ap (λ (k : ℕ). node_after v ps k (node_at l j)) (omega arith)

  pub visited-node : (j : ℕ) → node_at (visited v nodes) j ≡ node_after v (parents nodes) j (node_at nodes j)
  unfolding visited
  visited-node j = node-place 0 nodes j ∙ ap (λ (k : ℕ). node_after v ps k (node_at nodes j)) (zero-add j)

  pub visited-at : (j b : ℕ) → permission_at (visited v nodes) j b ≡ reached_next (v.access_at b) (reach v (parents nodes) j) (permission_at nodes j b)
  unfolding node_after
  visited-at j b = ap (λ (x : Node). row_at x.permissions b) (visited-node j) ∙ go (spares j)
    where
      row : List Permission
      row = (node_at nodes j).permissions

      go : (t : Bool) → row_at (if t then row else map_from 0 (λ k p. next_by (v.access_at k) (relation_of j) p) row) b ≡ reached_next (v.access_at b) (reach_by t (relation_of j)) (row_at row b)
      go true = refl
      go false = row-place v.access_at (relation_of j) 0 row b ∙ ap (λ (k : ℕ). next_by (v.access_at k) (relation_of j) (row_at row b)) (zero-add b)

  -- ---- where it is not refused
  node-accepted : Parents (parents nodes) → visit_refusal v nodes ≡ 0 → (j : ℕ) → spares j ≡ false → node_refusal v nodes j ≡ 0
  unfolding visit_refusal node_refusal row_refusal
  node-accepted tree e j s =
      elim (dec_lt j (length nodes)) [
        | yes l ↦
            let once : count j (visiting_order ps v.spared) ≡ 1 = visits-others ps tree v.spared j (omega (arith, length-map nodes (λ x. x.parent))) ∙ rw s in
            first-accepted (node_refusal v nodes) (visiting_order ps v.spared) e j (counted-member j (visiting_order ps v.spared) (omega arith))
        | no l ↦ ap (λ (x : Node). row_refusal v.access_at (relation_of j) 0 x.permissions) (get_or-eq_default nodes no_node {n = j} (omega arith))
      ]

  pub visit-accepted : Parents (parents nodes) → visit_refusal v nodes ≡ 0 → (j b : ℕ) → reached_refusal (v.access_at b) (reach v (parents nodes) j) (permission_at nodes j b) ≡ 0
  visit-accepted tree e j b = go (spares j) (node-accepted tree e j)
    where
      go : (t : Bool) → (t ≡ false → node_refusal v nodes j ≡ 0) → reached_refusal (v.access_at b) (reach_by t (relation_of j)) (permission_at nodes j b) ≡ 0
      go true h = refl
      go false h =
          unfold node_refusal in
          ap (λ (k : ℕ). refusal_by (v.access_at k) (relation_of j) (permission_at nodes j b)) (sym (zero-add b))
          ∙ row-accepted v.access_at (relation_of j) 0 (node_at nodes j).permissions (h refl) b

  pub visit-accepts : ((j b : ℕ) → reached_refusal (v.access_at b) (reach v (parents nodes) j) (permission_at nodes j b) ≡ 0) → visit_refusal v nodes ≡ 0
  unfolding visit_refusal visiting_order node_refusal
  visit-accepts h = first-accepts (node_refusal v nodes) (λ n. not (spares n)) each (preorder ps)
    where
      visits : (t : Bool) (x : Option AccessKind) (r : NodeRelation) (p : Permission) → not t ≡ true → reached_refusal x (reach_by t r) p ≡ 0 → refusal_by x r p ≡ 0
      visits true x r p t e = absurd (false≢true t)
      visits false x r p t e = e

      each : (j : ℕ) → not (spares j) ≡ true → node_refusal v nodes j ≡ 0
      each j s =
          row-accepts v.access_at (relation_of j) 0 (node_at nodes j).permissions
          (λ b.
          ap (λ (k : ℕ). refusal_by (v.access_at k) (relation_of j) (permission_at nodes j b)) (zero-add b)
          ∙ visits (spares j) (v.access_at b) (relation_of j) (permission_at nodes j b) s (h j b))
