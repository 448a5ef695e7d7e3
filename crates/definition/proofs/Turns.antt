-- A visit in turn: each permission is changed as it is met, node after node in the definition's order, up to the first refusal.
-- It meets the refusal that the definition says, and without one leaves the nodes that the definition says: no node is visited twice, and the change
-- of one is not seen at another.
use Rattle.std.specs.Prelude.{if◌then◌else◌}
use Prim.Native.Nat.{ℕ, zero, suc, ◌≤◌, ◌<◌}
use mathlib.Core.Path.{◌≡◌, refl, sym, ap, ap₂, subst, ◌∙◌}
use mathlib.Core.Bool.{Bool, true, false}
use mathlib.Core.Option.{Option}
use mathlib.Core.List.{List, [], ◌∷◌}
use native.Mathlib.Decide.{ℕ_discrete}
use native.Mathlib.Omega.{arith}
use lib.ListN.{length, length-map}
use lib.Seq.{ext_get_or}
use Rattle.definition.specs.Notation.{◌or◌, first_refusal, map_from, mutate_at, sum_of}
use Rattle.definition.specs.Permission.{AccessKind, NodeRelation, Permission, refusal_by, next_by}
use Rattle.definition.specs.Tree.{Node, no_node, node_at, parents, relation, is_spared, visiting_order, Visit, row_refusal, row_after, node_refusal, visit_refusal, node_after, visited}
use Rattle.definition.proofs.Booleans.{or_left, or_right}
use Rattle.definition.proofs.Lists.{each-length, mutate-length, mutate-kept, mutate-map}
use Rattle.definition.proofs.Places.{each_at, mutate-here, mutate-same}
use Rattle.definition.proofs.Counts.{count, count-here, count-other}
use Rattle.definition.proofs.Trees.{Parents}
use Rattle.definition.proofs.Order.{visits-others, visits-once}

-- a row whose first byte is b: the refusal met, or 0, and the row as it then is
unfoldable pub row_in_turn : (ℕ → Option AccessKind) → NodeRelation → ℕ → List Permission → ℕ × List Permission
row_in_turn access_at r b [] = (0, [])
row_in_turn access_at r b (p ∷ row) =
    elim (refusal_by (access_at b) r p) [
      | zero ↦ let rest = row_in_turn access_at r (suc b) row in (rest.0, next_by (access_at b) r p ∷ rest.1)
      | suc k ↦ (suc k, p ∷ row)
    ]

-- a node with another row
abbrev pub with_row : List Permission → Node → Node
with_row row x = record { parent = x.parent; protected = x.protected; permissions = row }

-- node n: the refusal met, or 0, and the nodes as they then are
unfoldable pub node_in_turn : Visit → ℕ → List Node → ℕ × List Node
node_in_turn v n nodes =
    let row = row_in_turn v.access_at (relation (parents nodes) n v.accessed) 0 (node_at nodes n).permissions in
    (row.0, mutate_at n (with_row row.1) nodes)

-- the Rust's `?`: a visit goes on only if no refusal was met
infixl 20 ◌and_then◌
abbrev pub ◌and_then◌ : ℕ × List Node → (List Node → ℕ × List Node) → ℕ × List Node
t and_then go = elim t.0 [ zero ↦ go t.1 | suc r ↦ t ]

-- the nodes of a list, one after another
unfoldable pub in_turn : Visit → List ℕ → List Node → ℕ × List Node
in_turn v [] nodes = (0, nodes)
in_turn v (n ∷ ns) nodes = node_in_turn v n nodes and_then in_turn v ns

-- ---- a row
module _ (access_at : ℕ → Option AccessKind) (r : NodeRelation) where
  row-refusal : (b : ℕ) (row : List Permission) → (row_in_turn access_at r b row).0 ≡ row_refusal access_at r b row
  unfolding row_in_turn row_refusal
  row-refusal b [] = refl
  row-refusal b (p ∷ row) = go (refusal_by (access_at b) r p) (row-refusal (suc b) row)
    where
      go : (k : ℕ) → (row_in_turn access_at r (suc b) row).0 ≡ row_refusal access_at r (suc b) row
          → (elim k as (λ _. ℕ × List Permission) [
            | zero ↦ let rest = row_in_turn access_at r (suc b) row in (rest.0, next_by (access_at b) r p ∷ rest.1)
            | suc k ↦ (suc k, p ∷ row)
          ]).0 ≡ (k or row_refusal access_at r (suc b) row)
      go zero e = e
      go (suc k) e = refl

  row-after : (b : ℕ) (row : List Permission) → row_refusal access_at r b row ≡ 0 → (row_in_turn access_at r b row).1 ≡ map_from b (λ k p. next_by (access_at k) r p) row
  unfolding row_in_turn row_refusal map_from
  row-after b [] e = refl
  row-after b (p ∷ row) e =
      rw (row_in_turn, or_left (refusal_by (access_at b) r p) (row_refusal access_at r (suc b) row) e)
      (ap (λ (l : List Permission). next_by (access_at b) r p ∷ l) (row-after (suc b) row (or_right (refusal_by (access_at b) r p) (row_refusal access_at r (suc b) row) e)))

-- ---- a node
module _ (v : Visit) (ps : List ℕ) where
  -- a visited node's change
  abbrev touch : ℕ → Node → Node
  touch n x = with_row (row_after v.access_at (relation ps n v.accessed) x.permissions) x

  abbrev change : ℕ → List Node → List Node
  change n nodes = mutate_at n (touch n) nodes

  node-refusal : (n : ℕ) (nodes : List Node) → (node_in_turn v n nodes).0 ≡ node_refusal v nodes n
  unfolding node_in_turn node_refusal
  node-refusal n nodes = row-refusal v.access_at (relation (parents nodes) n v.accessed) 0 (node_at nodes n).permissions

  node-change : (n : ℕ) (nodes : List Node) → parents nodes ≡ ps → node_refusal v nodes n ≡ 0 → (node_in_turn v n nodes).1 ≡ change n nodes
  unfolding node_in_turn node_refusal
  node-change n nodes q e =
      let row : List Permission = (node_at nodes n).permissions in
      mutate-same (with_row (row_in_turn v.access_at (relation (parents nodes) n v.accessed) 0 row).1) (touch n) no_node nodes n
      (ap (λ (l : List Permission). with_row l (node_at nodes n))
      (row-after v.access_at (relation (parents nodes) n v.accessed) 0 row e ∙ ap (λ (qs : List ℕ). row_after v.access_at (relation qs n v.accessed) row) q))

  change-parents : (n : ℕ) (nodes : List Node) → parents nodes ≡ ps → parents (change n nodes) ≡ ps
  change-parents n nodes q = mutate-map (λ x. x.parent) (touch n) (λ x. refl) n nodes ∙ q

  -- a step of the visit: refused it stops, else it goes on with the changed nodes
  stops : (n r : ℕ) (ns : List ℕ) (nodes : List Node) → node_refusal v nodes n ≡ suc r → (in_turn v (n ∷ ns) nodes).0 ≡ suc r
  unfolding in_turn
  stops n r ns nodes e = let t : (node_in_turn v n nodes).0 ≡ suc r = node-refusal n nodes ∙ e in rw t

  goes_on : (n : ℕ) (ns : List ℕ) (nodes : List Node) → parents nodes ≡ ps → node_refusal v nodes n ≡ 0 → in_turn v (n ∷ ns) nodes ≡ in_turn v ns (change n nodes)
  unfolding in_turn
  goes_on n ns nodes q e = let t : (node_in_turn v n nodes).0 ≡ 0 = node-refusal n nodes ∙ e in rw t (ap (in_turn v ns) (node-change n nodes q e))

  -- ---- the refusal
  elsewhere : (n k : ℕ) (nodes : List Node) → parents nodes ≡ ps → (n ≡ k → ⊥) → node_refusal v (change n nodes) k ≡ node_refusal v nodes k
  unfolding node_refusal
  elsewhere n k nodes q h =
      ap (λ (qs : List ℕ). row_refusal v.access_at (relation qs k v.accessed) 0 (node_at (change n nodes) k).permissions) (change-parents n nodes q ∙ sym q)
      ∙ mutate-kept (λ (x : Node). row_refusal v.access_at (relation (parents nodes) k v.accessed) 0 x.permissions) (touch n) no_node nodes n k (λ e. absurd (h e))

  rest-same : (n : ℕ) (nodes : List Node) → parents nodes ≡ ps → (ns : List ℕ) → count n ns ≡ 0
      → first_refusal (node_refusal v (change n nodes)) ns ≡ first_refusal (node_refusal v nodes) ns
  unfolding first_refusal
  rest-same n nodes q [] c = refl
  rest-same n nodes q (k ∷ ns) c =
      elim (ℕ_discrete k n) [
        | yes e ↦ absurd (omega (arith, count-here n k ns e))
        | no e ↦ ap₂ ◌or◌ (elsewhere n k nodes q (λ d. absurd (e (sym d)))) (rest-same n nodes q ns (sym (count-other n k ns e) ∙ c))
      ]

  -- no number stands twice in a list
  Distinct : List ℕ → Type 0
  Distinct ns = (j : ℕ) → count j ns ≤ 1

  refusal-in-turn : (ns : List ℕ) (nodes : List Node) → parents nodes ≡ ps → Distinct ns → (in_turn v ns nodes).0 ≡ first_refusal (node_refusal v nodes) ns
  unfolding in_turn first_refusal Distinct
  refusal-in-turn [] nodes q d = refl
  refusal-in-turn (n ∷ ns) nodes q d =
      go (node_refusal v nodes n) refl (refusal-in-turn ns (change n nodes) (change-parents n nodes q) later)
    where
      later : (j : ℕ) → count j ns ≤ 1
      later j = elim (ℕ_discrete n j) [ yes e ↦ omega (arith, d j, count-here j n ns e) | no e ↦ omega (arith, d j, count-other j n ns e) ]

      go : (r : ℕ) → node_refusal v nodes n ≡ r → (in_turn v ns (change n nodes)).0 ≡ first_refusal (node_refusal v (change n nodes)) ns
          → (in_turn v (n ∷ ns) nodes).0 ≡ (r or first_refusal (node_refusal v nodes) ns)
      go zero e h = ap (λ (t : ℕ × List Node). t.0) (goes_on n ns nodes q e) ∙ h ∙ rest-same n nodes q ns (omega (arith, d n, count-here n n ns refl))
      go (suc r) e h = stops n r ns nodes e

  -- ---- the nodes, where no refusal is met
  abbrev times : ℕ → (Node → Node) → Node → Node
  times zero f x = x
  times (suc k) f x = times k f (f x)

  -- each node is changed as often as it stands in the list
  record Changed (ns : List ℕ) (nodes out : List Node) : Type 0 where
    as_many : length out ≡ length nodes
    at : (j : ℕ) → j < length nodes → node_at out j ≡ times (count j ns) (touch j) (node_at nodes j)

  one_more : (n : ℕ) (ns : List ℕ) (nodes out : List Node) → Changed ns (change n nodes) out → Changed (n ∷ ns) nodes out
  one_more n ns nodes out c =
      let k : length (change n nodes) ≡ length nodes = mutate-length n (touch n) nodes in
      record {
        as_many = c.as_many ∙ k;
        at =
            λ j l.
            c.at j (omega arith)
            ∙ elim (ℕ_discrete n j) [
              | yes e ↦
                  ap (times (count j ns) (touch j)) (subst (λ (i : ℕ). node_at (change i nodes) j ≡ touch j (node_at nodes j)) (sym e) (mutate-here (touch j) no_node nodes j l))
                  ∙ ap (λ (t : ℕ). times t (touch j) (node_at nodes j)) (sym (count-here j n ns e))
              | no e ↦
                  ap (times (count j ns) (touch j)) (mutate-kept (λ (x : Node). x) (touch n) no_node nodes n j (λ i. absurd (e i)))
                  ∙ ap (λ (t : ℕ). times t (touch j) (node_at nodes j)) (sym (count-other j n ns e))
            ];
      }

  nodes-in-turn : (ns : List ℕ) (nodes : List Node) → parents nodes ≡ ps → (in_turn v ns nodes).0 ≡ 0 → Changed ns nodes (in_turn v ns nodes).1
  unfolding in_turn sum_of
  nodes-in-turn [] nodes q z = record { as_many = refl; at = λ j l. refl }
  nodes-in-turn (n ∷ ns) nodes q z = go (node_refusal v nodes n) refl (nodes-in-turn ns (change n nodes) (change-parents n nodes q))
    where
      go : (r : ℕ) → node_refusal v nodes n ≡ r → ((in_turn v ns (change n nodes)).0 ≡ 0 → Changed ns (change n nodes) (in_turn v ns (change n nodes)).1)
          → Changed (n ∷ ns) nodes (in_turn v (n ∷ ns) nodes).1
      go zero e h =
          let on : in_turn v (n ∷ ns) nodes ≡ in_turn v ns (change n nodes) = goes_on n ns nodes q e in
          subst (λ (t : ℕ × List Node). Changed (n ∷ ns) nodes t.1) (sym on)
          (one_more n ns nodes (in_turn v ns (change n nodes)).1 (h (sym (ap (λ (t : ℕ × List Node). t.0) on) ∙ z)))
      go (suc r) e h = absurd (omega (arith, stops n r ns nodes e, z))

-- ---- a tree
module _ (v : Visit) (nodes : List Node) (tree : Parents (parents nodes)) where
  abbrev ps : List ℕ
  ps = parents nodes

  abbrev order : List ℕ
  order = visiting_order ps v.spared

  pub turn-refusal : (in_turn v (visiting_order (parents nodes) v.spared) nodes).0 ≡ visit_refusal v nodes
  unfolding visit_refusal Distinct
  turn-refusal = refusal-in-turn v ps order nodes refl (visits-once ps tree v.spared)

  -- a node that is spared stays
  touched-or-spared : (j : ℕ) (x : Node) → times v ps (if is_spared ps v.spared j then 0 else 1) (touch v ps j) x ≡ node_after v ps j x
  unfolding node_after
  touched-or-spared j x = go (is_spared ps v.spared j)
    where
      go : (b : Bool) → times v ps (if b then 0 else 1) (touch v ps j) x
          ≡ with_row (if b then x.permissions else row_after v.access_at (relation ps j v.accessed) x.permissions) x
      go true = refl
      go false = refl

  pub turn-nodes : visit_refusal v nodes ≡ 0 → (in_turn v (visiting_order (parents nodes) v.spared) nodes).1 ≡ visited v nodes
  unfolding visited
  turn-nodes z =
      let c = nodes-in-turn v ps order nodes refl (turn-refusal ∙ z) in
      ext_get_or no_node (in_turn v order nodes).1 (map_from 0 (node_after v ps) nodes)
      (c.as_many ∙ sym (each-length (node_after v ps) 0 nodes))
      (λ j l.
      let k : j < length nodes = omega (arith, c.as_many) in
      c.at j k
      ∙ ap (λ (t : ℕ). times v ps t (touch v ps j) (node_at nodes j)) (visits-others ps tree v.spared j (omega (arith, length-map nodes (λ x. x.parent))))
      ∙ touched-or-spared j (node_at nodes j)
      ∙ sym (each_at (node_after v ps) no_node no_node nodes j k))
