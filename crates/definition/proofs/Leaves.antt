-- A tree with one more node, a leaf. A visit through the leaf is one through its parent, and the leaf's own row besides:
--     leaf-relation    a node is to the leaf what it is to the leaf's parent
--     refusal-leaf     the first refusal is that through the parent, where nothing is refused at the leaf itself
--     visited-leaf     the others are left as the visit through the parent leaves them
use Rattle.std.specs.Prelude.{if◌then◌else◌}
use Prim.Native.Nat.{ℕ, suc, ◌+◌, ◌<◌}
use mathlib.Core.Path.{◌≡◌, refl, sym, ap, ap₂, subst, ◌∙◌}
use mathlib.Core.Bool.{Bool, true, false}
use mathlib.Core.Option.{Option, none}
use mathlib.Core.List.{List, [], ◌∷◌, ◌++◌}
use native.Mathlib.Nat.{add-zero, zero-add}
use native.Mathlib.Omega.{arith}
use lib.Dec.{eqb}
use borrow.Author.Tests.{ne_eqb}
use lib.ListN.{length, length-map, get_or-append}
use lib.Seq.{get_or-append_seam}
use Rattle.definition.specs.Notation.{◌or◌, first_refusal, map_from}
use Rattle.definition.specs.Permission.{AccessKind, NodeRelation, Permission}
use Rattle.definition.specs.Permission.NodeRelation.{Local, Foreign}
use Rattle.definition.specs.Tree.{Node, no_node, parents, is_above, relation, descendants, preorder, visiting_order, Visit, row_refusal, row_after, node_refusal, visit_refusal, node_after, visited}
use Rattle.definition.proofs.Lists.{first-append, each-same-below, each_append}
use Rattle.definition.proofs.Trees.{Parents, above-itself, above_parent, above-append, grown-tree}
use Rattle.definition.proofs.Order.{none-spared}

-- ---- one more node, a leaf: its ancestors are it and those of its parent
module _ (ps : List ℕ) (tree : Parents ps) (p : ℕ) (l : p < length ps) where
  abbrev grown : List ℕ
  grown = ps ++ (p ∷ [])

  leaf-above : (n : ℕ) → n < length ps → is_above grown n (length ps) ≡ is_above ps n p
  leaf-above n h =
      above_parent grown (grown-tree ps tree p l) n (length ps) (omega arith)
      ∙ rw (ne_eqb (length ps) n (omega arith), get_or-append_seam ps p [] 0) (above-append ps tree (p ∷ []) n p l)

  -- a node is to the leaf what it is to the leaf's parent
  pub leaf-relation : (n : ℕ) → n < length ps → relation grown n (length ps) ≡ relation ps n p
  unfolding relation
  leaf-relation n h = ap {B = NodeRelation} (λ (b : Bool). if b then Local else Foreign) (leaf-above n h)

  leaf-itself : relation grown (length ps) (length ps) ≡ Local
  unfolding relation
  leaf-itself = ap {B = NodeRelation} (λ (b : Bool). if b then Local else Foreign) (above-itself grown (length ps))

-- ---- and it stands somewhere in the order: where nothing is refused at it, the first refusal is that of the others
module _ (g h : ℕ → ℕ) (p : ℕ) where
  abbrev go_down : ℕ → ℕ → Bool → List ℕ → List ℕ
  go_down n m b qs = elim b as (λ _. List ℕ) [ true ↦ m ∷ (descendants m (suc m) qs ++ descendants n (suc m) qs) | false ↦ descendants n (suc m) qs ]

  leaf-descendants : (qs : List ℕ) (n m : ℕ) → g (m + length qs) ≡ 0 → ((k : ℕ) → k < m + length qs → g k ≡ h k)
      → first_refusal g (descendants n m (qs ++ (p ∷ []))) ≡ first_refusal h (descendants n m qs)
  unfolding descendants first_refusal
  leaf-descendants [] n m z e = last (eqb p n)
    where
      last : (b : Bool) → first_refusal g (go_down n m b []) ≡ 0
      last true = ap (λ (k : ℕ). g k or 0) (sym (add-zero m)) ∙ ap (λ (k : ℕ). k or 0) z
      last false = refl
  leaf-descendants (q ∷ qs) n m z e = down (eqb q n) (leaf-descendants qs m (suc m) z' e') (leaf-descendants qs n (suc m) z' e')
    where
      same : suc m + length qs ≡ m + suc (length qs)
      same = omega arith

      z' : g (suc m + length qs) ≡ 0
      z' = ap g same ∙ z

      e' : (k : ℕ) → k < suc m + length qs → g k ≡ h k
      e' k l = e k (omega arith)

      down : (b : Bool) → first_refusal g (descendants m (suc m) (qs ++ (p ∷ []))) ≡ first_refusal h (descendants m (suc m) qs)
          → first_refusal g (descendants n (suc m) (qs ++ (p ∷ []))) ≡ first_refusal h (descendants n (suc m) qs)
          → first_refusal g (go_down n m b (qs ++ (p ∷ []))) ≡ first_refusal h (go_down n m b qs)
      down true a c =
          ap₂ ◌or◌ (e m (omega arith))
          (first-append g (descendants m (suc m) (qs ++ (p ∷ []))) (descendants n (suc m) (qs ++ (p ∷ [])))
          ∙ ap₂ ◌or◌ a c ∙ sym (first-append h (descendants m (suc m) qs) (descendants n (suc m) qs)))
      down false a c = c

  leaf-preorder : (ps : List ℕ) → 0 < length ps → g (length ps) ≡ 0 → ((k : ℕ) → k < length ps → g k ≡ h k)
      → first_refusal g (preorder (ps ++ (p ∷ []))) ≡ first_refusal h (preorder ps)
  unfolding preorder first_refusal
  leaf-preorder [] l z e = absurd (omega arith)
  leaf-preorder (q ∷ qs) l z e =
      let same : 1 + length qs ≡ suc (length qs) = omega arith in
      ap₂ ◌or◌ (e 0 (omega arith)) (leaf-descendants qs 0 1 (ap g same ∙ z) (λ k i. e k (omega arith)))

  leaf-order : (ps : List ℕ) → 0 < length ps → g (length ps) ≡ 0 → ((k : ℕ) → k < length ps → g k ≡ h k)
      → first_refusal g (visiting_order (ps ++ (p ∷ [])) none) ≡ first_refusal h (visiting_order ps none)
  leaf-order ps l z e =
      ap (first_refusal g) (none-spared (ps ++ (p ∷ []))) ∙ leaf-preorder ps l z e ∙ sym (ap (first_refusal h) (none-spared ps))

-- ---- a visit through a new child, on the tree with it, and the same visit through its parent, on the tree without
-- the accesses f, through a node, none spared
abbrev pub through : ℕ → (ℕ → Option AccessKind) → Visit
through node f = record { accessed = node; access_at = f; spared = none }

-- a node with another row
abbrev pub with_row : Node → List Permission → Node
with_row x row = record { parent = x.parent; protected = x.protected; permissions = row }

pub parents-append : (nodes : List Node) (x : Node) → parents (nodes ++ (x ∷ [])) ≡ parents nodes ++ (x.parent ∷ [])
parents-append [] x = refl
parents-append (y ∷ nodes) x = ap {B = List ℕ} (λ l. y.parent ∷ l) (parents-append nodes x)

pub appended-tree : (nodes : List Node) (x : Node) → x.parent < length nodes → Parents (parents nodes) → Parents (parents (nodes ++ (x ∷ [])))
appended-tree nodes x l tree =
    subst Parents (sym (parents-append nodes x)) (grown-tree (parents nodes) tree x.parent (omega (arith, length-map nodes (λ x. x.parent))))

module _ (nodes : List Node) (tree : Parents (parents nodes)) (child : Node) (l : child.parent < length nodes) (f : ℕ → Option AccessKind) where
  abbrev ps : List ℕ
  ps = parents nodes

  abbrev family : List Node
  family = nodes ++ (child ∷ [])

  many : length ps ≡ length nodes
  many = length-map nodes (λ x. x.parent)

  below : child.parent < length ps
  below = omega (arith, many)

  -- who is local
  old-relation : (n : ℕ) → n < length nodes → relation (parents family) n (length nodes) ≡ relation ps n child.parent
  old-relation n h =
      ap₂ (λ (qs : List ℕ) (k : ℕ). relation qs n k) (parents-append nodes child) (sym many)
      ∙ leaf-relation ps tree child.parent below n (omega (arith, many))

  own-relation : relation (parents family) (length nodes) (length nodes) ≡ Local
  own-relation = ap₂ (λ (qs : List ℕ) (k : ℕ). relation qs k k) (parents-append nodes child) (sym many) ∙ leaf-itself ps tree child.parent below

  -- the first refusal, where the child's own row is not refused
  old-refusal : (n : ℕ) → n < length nodes → node_refusal (through (length nodes) f) family n ≡ node_refusal (through child.parent f) nodes n
  unfolding node_refusal
  old-refusal n h =
      ap₂ (λ (r : NodeRelation) (x : Node). row_refusal f r 0 x.permissions) (old-relation n h) (get_or-append nodes (child ∷ []) no_node n h)

  own-refusal : node_refusal (through (length nodes) f) family (length nodes) ≡ row_refusal f Local 0 child.permissions
  unfolding node_refusal
  own-refusal =
      ap₂ (λ (r : NodeRelation) (x : Node). row_refusal f r 0 x.permissions) own-relation (get_or-append_seam nodes child [] no_node)

  pub refusal-leaf : row_refusal f Local 0 child.permissions ≡ 0 → visit_refusal (through (length nodes) f) family ≡ visit_refusal (through child.parent f) nodes
  unfolding visit_refusal
  refusal-leaf quiet =
      ap (λ (qs : List ℕ). first_refusal (node_refusal (through (length nodes) f) family) (visiting_order qs none)) (parents-append nodes child)
      ∙ leaf-order (node_refusal (through (length nodes) f) family) (node_refusal (through child.parent f) nodes) child.parent ps (omega (arith, below))
      (ap (node_refusal (through (length nodes) f) family) many ∙ own-refusal ∙ quiet) (λ n h. old-refusal n (omega (arith, many)))

  -- the nodes afterwards
  pub visited-leaf : visited (through (length nodes) f) family ≡ visited (through child.parent f) nodes ++ (with_row child (row_after f Local child.permissions) ∷ [])
  unfolding visited node_after map_from
  visited-leaf =
      each_append (node_after (through (length nodes) f) (parents family)) 0 nodes (child ∷ [])
      ∙ ap₂ {C = List Node} (λ (xs : List Node) (r : NodeRelation). xs ++ (with_row child (row_after f r child.permissions) ∷ []))
      (each-same-below (node_after (through (length nodes) f) (parents family)) (node_after (through child.parent f) ps) 0 nodes
      (λ n x h. ap (λ (r : NodeRelation). with_row x (row_after f r x.permissions)) (old-relation n (omega arith))))
      (ap (λ (n : ℕ). relation (parents family) n (length nodes)) (zero-add (length nodes)) ∙ own-relation)
