-- The visit as the Rust writes it (`Node::access`, `Node::release_protector`), by recursion: a node, then each of its children with its own, in the order
-- they were made, up to the first refusal; the spared node is not entered. It is the visit in turn of the definition's order, so it meets the definition's
-- refusal and leaves the definition's nodes. (That `release_protector` takes the mark off the spared node is no part of the visit.)
use Rattle.std.specs.Prelude.{if◌then◌else◌}
use Prim.Native.Nat.{ℕ, zero, suc, ◌+◌, ◌≤◌, ◌<◌}
use mathlib.Core.Path.{◌≡◌, refl, sym, ap, ◌∙◌}
use mathlib.Core.Bool.{Bool, true, false, not, ◌&&◌}
use mathlib.Core.Option.{Option, none, some}
use mathlib.Core.List.{List, [], ◌∷◌, ◌++◌}
use native.Mathlib.Decide.{ℕ_discrete}
use native.Mathlib.Omega.{arith}
use lib.Dec.{eqb}
use lib.ListN.{length, drop, length-drop, length-map}
use borrow.Author.Tests.{eq-eqb, ne_eqb}
use Rattle.definition.specs.Tree.{Node, parents, visiting_order, Visit, visit_refusal, visited}
use Rattle.definition.proofs.Trees.{Parents}
use Rattle.definition.proofs.Order.{walk, walk-some, walk_none, root-spared}
use Rattle.definition.proofs.Turns.{◌and_then◌, node_in_turn, in_turn, turn-refusal, turn-nodes}

-- node n is the spared one
abbrev pub is_the : Option ℕ → ℕ → Bool
is_the none n = false
is_the (some spared) n = eqb n spared

-- the children of n among the nodes m, m + 1, .., whose parents are listed: each, then its own, then the next
unfoldable pub visit_children : Visit → ℕ → ℕ → List ℕ → List Node → ℕ × List Node
visit_children v n m [] nodes = (0, nodes)
visit_children v n m (p ∷ ps) nodes =
    elim (eqb p n && not (is_the v.spared m)) [
      | true ↦ node_in_turn v m nodes and_then visit_children v m (suc m) ps and_then visit_children v n (suc m) ps
      | false ↦ visit_children v n (suc m) ps nodes
    ]

-- the root and its children
unfoldable pub visit_tree : Visit → List Node → ℕ × List Node
visit_tree v nodes =
    if is_the v.spared 0 then (0, nodes)
    else (node_in_turn v 0 nodes and_then visit_children v 0 1 (drop 1 (parents nodes)))

-- ---- one visit after another
module _ (f g : List Node → ℕ × List Node) where
  regrouped : (r : ℕ) (nodes : List Node) → ((r, nodes) and_then f and_then g) ≡ ((r, nodes) and_then (λ x. f x and_then g))
  regrouped zero nodes = refl
  regrouped (suc r) nodes = refl

  then_same : ((x : List Node) → f x ≡ g x) → (r : ℕ) (nodes : List Node) → ((r, nodes) and_then f) ≡ ((r, nodes) and_then g)
  then_same h zero nodes = h nodes
  then_same h (suc r) nodes = refl

turn-append : (v : Visit) (xs ys : List ℕ) (nodes : List Node) → in_turn v (xs ++ ys) nodes ≡ (in_turn v xs nodes and_then in_turn v ys)
unfolding in_turn
turn-append v [] ys nodes = refl
turn-append v (n ∷ xs) ys nodes =
    let t : ℕ × List Node = node_in_turn v n nodes in
    then_same (in_turn v (xs ++ ys)) (λ x. in_turn v xs x and_then in_turn v ys) (turn-append v xs ys) t.0 t.1
    ∙ sym (regrouped (in_turn v xs) (in_turn v ys) t.0 t.1)

-- ---- the recursion is a walk
module _ (v : Visit) (s bound : ℕ) (spare : (m : ℕ) → m < bound → is_the v.spared m ≡ eqb m s) where
  children-walk : (n m : ℕ) (qs : List ℕ) → m + length qs ≤ bound → (nodes : List Node) → visit_children v n m qs nodes ≡ in_turn v (walk s n m qs) nodes
  unfolding visit_children walk in_turn
  children-walk n m [] h nodes = refl
  children-walk n m (p ∷ qs) h nodes =
      let here : is_the v.spared m ≡ eqb m s = spare m (omega arith) in
      let others : (x : List Node) → visit_children v n (suc m) qs x ≡ in_turn v (walk s n (suc m) qs) x = children-walk n (suc m) qs (omega arith) in
      let own : (x : List Node) → visit_children v m (suc m) qs x ≡ in_turn v (walk s m (suc m) qs) x = children-walk m (suc m) qs (omega arith) in
      elim (ℕ_discrete p n) [
        | yes e ↦
            elim (ℕ_discrete m s) [
              | yes q ↦ rw (visit_children, eq-eqb p n e, here, eq-eqb m s q) (others nodes)
              | no q ↦
                  let t : ℕ × List Node = node_in_turn v m nodes in
                  let x : List ℕ = walk s m (suc m) qs in
                  let y : List ℕ = walk s n (suc m) qs in
                  rw (visit_children, eq-eqb p n e, here, ne_eqb m s q)
                  (regrouped (visit_children v m (suc m) qs) (visit_children v n (suc m) qs) t.0 t.1
                  ∙ then_same (λ z. visit_children v m (suc m) qs z and_then visit_children v n (suc m) qs) (in_turn v (x ++ y))
                  (λ z.
                  ap (λ (u : ℕ × List Node). u and_then visit_children v n (suc m) qs) (own z)
                  ∙ then_same (visit_children v n (suc m) qs) (in_turn v y) others (in_turn v x z).0 (in_turn v x z).1
                  ∙ sym (turn-append v x y z))
                  t.0 t.1)
            ]
        | no e ↦ rw (visit_children, ne_eqb p n e) (others nodes)
      ]

-- ---- so it is the definition's visit
module _ (v : Visit) (nodes : List Node) (tree : Parents (parents nodes)) (root : 0 < length nodes) where
  abbrev ps : List ℕ
  ps = parents nodes

  entered : (s : ℕ) → ((m : ℕ) → m < length ps → is_the v.spared m ≡ eqb m s) → 0 < s → visiting_order ps v.spared ≡ 0 ∷ walk s 0 1 (drop 1 ps)
      → visit_tree v nodes ≡ in_turn v (visiting_order ps v.spared) nodes
  unfolding visit_tree in_turn
  entered s spare z e =
      let l : 0 < length ps = omega (arith, length-map nodes (λ x. x.parent)) in
      let t : ℕ × List Node = node_in_turn v 0 nodes in
      rw (spare 0 l ∙ ne_eqb 0 s (omega arith), e)
      (then_same (visit_children v 0 1 (drop 1 ps)) (in_turn v (walk s 0 1 (drop 1 ps)))
      (children-walk v s (length ps) spare 0 1 (drop 1 ps) (omega (arith, length-drop 1 ps))) t.0 t.1)

  tree-in-turn : visit_tree v nodes ≡ in_turn v (visiting_order ps v.spared) nodes
  unfolding visit_tree in_turn
  tree-in-turn = go v.spared refl
    where
      go : (o : Option ℕ) → v.spared ≡ o → visit_tree v nodes ≡ in_turn v (visiting_order ps v.spared) nodes
      go none e =
          let l : 0 < length ps = omega (arith, length-map nodes (λ x. x.parent)) in
          entered (length ps) (λ m k. ap (λ (o : Option ℕ). is_the o m) e ∙ sym (ne_eqb m (length ps) (omega arith))) l
          (ap (visiting_order ps) e ∙ walk_none ps (length ps) (omega arith) l)
      go (some zero) e = rw (e, root-spared ps tree)
      go (some (suc s)) e =
          entered (suc s) (λ m k. ap (λ (o : Option ℕ). is_the o m) e) (omega arith)
          (ap (visiting_order ps) e ∙ walk-some ps tree (suc s) (omega arith) (omega (arith, length-map nodes (λ x. x.parent))))

  pub recursion-refusal : (visit_tree v nodes).0 ≡ visit_refusal v nodes
  recursion-refusal = ap (λ (t : ℕ × List Node). t.0) tree-in-turn ∙ turn-refusal v nodes tree

  pub recursion-nodes : visit_refusal v nodes ≡ 0 → (visit_tree v nodes).1 ≡ visited v nodes
  recursion-nodes e = ap (λ (t : ℕ × List Node). t.1) tree-in-turn ∙ turn-nodes v nodes tree e
