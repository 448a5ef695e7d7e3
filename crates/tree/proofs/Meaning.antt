-- A visit over the tables is the definition's visit of the nodes that they hold: `means-refusal`, `means-after`.
-- The rows agree byte by byte; the table changes row by row, and each visited node is changed once.
use Rattle.std.specs.Prelude.{if◌then◌else◌}
use Prim.Native.Nat.{ℕ, zero, suc, ◌<◌}
use mathlib.Core.Path.{◌≡◌, refl, sym, ap, ap₂, subst, subst⁻¹, ◌∙◌}
use mathlib.Core.Bool.{Bool, true, false}
use mathlib.Core.Option.{Option}
use mathlib.Core.List.{List, [], ◌∷◌, ◌++◌, map}
use native.Mathlib.Decide.{ℕ_discrete}
use native.Mathlib.Omega.{arith}
use lib.ListN.{length, take, drop, length-map}
use lib.Seq.{ext_get_or}
use Rattle.definition.specs.Notation.{◌or◌, first_refusal, mutate_at, sum_of}
use Rattle.definition.specs.Permission.{AccessKind, NodeRelation, Permission, next_by, code}
use Rattle.definition.specs.Tree.{Node, no_node, node_at, parents, relation, is_spared, visiting_order, Visit, visit_refusal, visited}
use Rattle.definition.specs.Valid.{All}
use Rattle.definition.proofs.Lists.{each-length, mutate-length, mutate-kept}
use Rattle.definition.proofs.Places.{each_at, mutate-here}
use Rattle.definition.proofs.Counts.{count, count-here, count-other}
use Rattle.definition.proofs.Trees.{Parents}
use Rattle.definition.proofs.Order.{visits-only-nodes, visits-others}
use Rattle.definition.proofs.Ranges.{accesses_refusal, accesses_after, Places, places-refusal, places-after}
use Rattle.definition.specs.Tree as definition
use Rattle.permission.proofs.Codes.{refusal-code, next-code}
use Rattle.std.specs.Prelude.{Ok, Err}
use Rattle.visit.specs.declared.Effect.TheVariants.{Stays, Changes}
use Rattle.visit.specs.declared.Reach.{Reach}
use Rattle.tree.specs.Table.{rows_of, Holds}
use Rattle.tree.specs.Requests.{Checked}
use Rattle.visit.specs.Walk.{SameVisit, Answer, Told, ToldOf, planned, codes_refusal, codes_after, row_refusal, row_after, node_refusal, node_after, subtree, walk_refusal, walk_after, with_row_at}
use Rattle.tree.proofs.Held.{Wide, row-held, row-changed, wide-changed}

-- what a check told, said of equal things
pub told_same : {a a' : ℕ} {x x' y y' : List ℕ} (answer : Answer) → a ≡ a' → x ≡ x' → y ≡ y' → Told a x y answer → Told a' x' y' answer
told_same (Ok Stays) ea ex ey t = (sym ea ∙ t.0, sym ex ∙ t.1 ∙ ey)
told_same (Ok Changes) ea ex ey t = sym ea ∙ t
told_same (Err refusal) ea ex ey t = t ∙ ea

-- ---- lists
module _ {A B : Type 0} (f : A → B) where
  pub drop-map : (n : ℕ) (l : List A) → drop n (map f l) ≡ map f (drop n l)
  drop-map zero l = refl
  drop-map (suc n) [] = refl
  drop-map (suc n) (x ∷ l) = drop-map n l

  pub take-map : (n : ℕ) (l : List A) → take n (map f l) ≡ map f (take n l)
  take-map zero l = refl
  take-map (suc n) [] = refl
  take-map (suc n) (x ∷ l) = ap (λ (m : List B). f x ∷ m) (take-map n l)

  pub map-append : (xs ys : List A) → map f (xs ++ ys) ≡ map f xs ++ map f ys
  map-append [] ys = refl
  map-append (x ∷ xs) ys = ap (λ (m : List B). f x ∷ m) (map-append xs ys)

-- the first refusal along a list depends on what f gives along it
first-same-along : {A : Type 0} (P : A → Type 0) (f g : A → ℕ) → ((x : A) → P x → f x ≡ g x) → (l : List A) → All P l → first_refusal f l ≡ first_refusal g l
unfolding first_refusal
first-same-along P f g e [] a = refl
first-same-along P f g e (x ∷ l) a = ap₂ ◌or◌ (e x a.0) (first-same-along P f g e l a.1)

-- ---- a row
module _ (r : NodeRelation) where
  codes-refusal : (xs : List (Option AccessKind)) (row : List Permission) → codes_refusal r xs (map code row) ≡ accesses_refusal r xs row
  unfolding codes_refusal accesses_refusal
  codes-refusal xs [] = refl
  codes-refusal [] (p ∷ row) = refl
  codes-refusal (x ∷ xs) (p ∷ row) = ap₂ ◌or◌ (refusal-code x r p) (codes-refusal xs row)

  codes-after : (xs : List (Option AccessKind)) (row : List Permission) → codes_after r xs (map code row) ≡ map code (accesses_after r xs row)
  unfolding codes_after accesses_after
  codes-after xs [] = refl
  codes-after [] (p ∷ row) = refl
  codes-after (x ∷ xs) (p ∷ row) = ap₂ ◌∷◌ (next-code x r p) (codes-after xs row)

-- ---- nodes changed in turn
-- node n by f n, for each n of a list
unfoldable changed_in_turn : (ℕ → Node → Node) → List ℕ → List Node → List Node
changed_in_turn f [] nodes = nodes
changed_in_turn f (n ∷ ns) nodes = changed_in_turn f ns (mutate_at n (f n) nodes)

module _ (f : ℕ → Node → Node) where
  in-turn-length : (ns : List ℕ) (nodes : List Node) → length (changed_in_turn f ns nodes) ≡ length nodes
  unfolding changed_in_turn
  in-turn-length [] nodes = refl
  in-turn-length (n ∷ ns) nodes = in-turn-length ns (mutate_at n (f n) nodes) ∙ mutate-length n (f n) nodes

  -- a node that is not in the list stays; one that is in it once is changed once
  in-turn-other : (j : ℕ) (ns : List ℕ) (nodes : List Node) → count j ns ≡ 0 → node_at (changed_in_turn f ns nodes) j ≡ node_at nodes j
  unfolding changed_in_turn
  in-turn-other j [] nodes c = refl
  in-turn-other j (n ∷ ns) nodes c =
      elim (ℕ_discrete n j) [
        | yes e ↦ absurd (omega (arith, count-here j n ns e))
        | no e ↦ in-turn-other j ns (mutate_at n (f n) nodes) (sym (count-other j n ns e) ∙ c) ∙ mutate-kept (λ x. x) (f n) no_node nodes n j (λ q. absurd (e q))
      ]

  in-turn-once : (j : ℕ) (ns : List ℕ) (nodes : List Node) → j < length nodes → count j ns ≡ 1 → node_at (changed_in_turn f ns nodes) j ≡ f j (node_at nodes j)
  unfolding changed_in_turn sum_of
  in-turn-once j [] nodes l c = absurd (omega (arith, c))
  in-turn-once j (n ∷ ns) nodes l c =
      elim (ℕ_discrete n j) [
        | yes e ↦
            in-turn-other j ns (mutate_at n (f n) nodes) (omega (arith, count-here j n ns e))
            ∙ subst (λ (k : ℕ). node_at (mutate_at k (f k) nodes) j ≡ f j (node_at nodes j)) (sym e) (mutate-here (f j) no_node nodes j l)
        | no e ↦
            in-turn-once j ns (mutate_at n (f n) nodes) (omega (arith, mutate-length n (f n) nodes)) (sym (count-other j n ns e) ∙ c)
            ∙ ap (f j) (mutate-kept (λ x. x) (f n) no_node nodes n j (λ q. absurd (e q)))
      ]

-- ---- what becomes of a node that is spared, and of another
module _ (w : Visit) (ps : List ℕ) where
  pub after-spared : (n : ℕ) (x : Node) → is_spared ps w.spared n ≡ true → definition.node_after w ps n x ≡ x
  unfolding definition.node_after
  after-spared n x e = rw e

  pub after-wide : (n : ℕ) (x : Node) → length (definition.node_after w ps n x).permissions ≡ length x.permissions
  unfolding definition.node_after
  after-wide n x = go (is_spared ps w.spared n)
    where
      go : (b : Bool)
          → length (if b then x.permissions else definition.row_after w.access_at (relation ps n w.accessed) x.permissions) ≡ length x.permissions
      go true = refl
      go false = each-length (λ b p. next_by (w.access_at b) (relation ps n w.accessed) p) 0 x.permissions

-- ---- a visit
-- what v, by the codes lent with it, asks for is the visit w
pub record Means (v : Reach) (lent ps : List ℕ) (w : Visit) : Type 0 where
  pub accessed : w.accessed ≡ v.node
  pub places : Places w.access_at v.from (planned v lent)
  pub order : visiting_order ps w.spared ≡ subtree v.spared 0 ps

-- so does the same visit with its accesses said in another way
pub means-same : (v r : Reach) (lent ps : List ℕ) (w : Visit) → SameVisit v lent r → Means v lent ps w → Means r lent ps w
means-same v r lent ps w s means =
    subst⁻¹ (λ (q : Reach). Means q lent ps w) s.same
    (record {
      accessed = means.accessed;
      places = subst⁻¹ (λ (xs : List (Option AccessKind)). Places w.access_at v.from xs) s.accesses means.places;
      order = means.order;
    })

module _ (v : Reach) (lent ps : List ℕ) (w : Visit) (means : Means v lent ps w) where
  -- ---- the first refusal
  row-refusal : (r : NodeRelation) (row : List Permission) → row_refusal v lent r (map code row) ≡ definition.row_refusal w.access_at r 0 row
  row-refusal r row =
      ap (codes_refusal r (planned v lent)) (drop-map code v.from row)
      ∙ codes-refusal r (planned v lent) (drop v.from row)
      ∙ sym (places-refusal r w.access_at v.from (planned v lent) means.places row)

  row-after : (r : NodeRelation) (row : List Permission) → row_after v lent r (map code row) ≡ map code (definition.row_after w.access_at r row)
  row-after r row =
      ap₂ (λ (a b : List ℕ). a ++ codes_after r (planned v lent) b) (take-map code v.from row) (drop-map code v.from row)
      ∙ ap (λ (b : List ℕ). map code (take v.from row) ++ b) (codes-after r (planned v lent) (drop v.from row))
      ∙ sym (map-append code (take v.from row) (accesses_after r (planned v lent) (drop v.from row)))
      ∙ ap (map code) (sym (places-after r w.access_at v.from (planned v lent) means.places row))

  -- a visited node's change
  abbrev touched : ℕ → Node → Node
  touched n x =
      record {
        parent = x.parent;
        protected = x.protected;
        permissions = definition.row_after w.access_at (relation ps n w.accessed) x.permissions;
      }

  touched-wide : (n : ℕ) (x : Node) → length (touched n x).permissions ≡ length x.permissions
  touched-wide n x = each-length (λ b p. next_by (w.access_at b) (relation ps n w.accessed) p) 0 x.permissions

  -- ---- a node
  module _ (nodes : List Node) (wide : Wide v.width nodes) (n : ℕ) (l : n < length nodes) where
    node-refusal : parents nodes ≡ ps → node_refusal v ps lent (rows_of nodes) n ≡ definition.node_refusal w nodes n
    unfolding node_refusal definition.node_refusal
    node-refusal e =
        ap₂ (λ (a : ℕ) (row : List ℕ). row_refusal v lent (relation ps n a) row) (sym means.accessed) (row-held v.width nodes wide n l)
        ∙ row-refusal (relation ps n w.accessed) (node_at nodes n).permissions
        ∙ ap (λ (qs : List ℕ). definition.row_refusal w.access_at (relation qs n w.accessed) 0 (node_at nodes n).permissions) (sym e)

    node-after : node_after v ps lent n (rows_of nodes) ≡ rows_of (mutate_at n (touched n) nodes)
    unfolding node_after
    node-after =
        ap (λ (row : List ℕ). with_row_at v.width n row (rows_of nodes))
        (ap₂ (λ (a : ℕ) (row : List ℕ). row_after v lent (relation ps n a) row) (sym means.accessed) (row-held v.width nodes wide n l)
        ∙ row-after (relation ps n w.accessed) (node_at nodes n).permissions)
        ∙ row-changed v.width (touched n) nodes wide n l

  -- ---- the tree
  walk_after_lem : (ns : List ℕ) (nodes : List Node) → Wide v.width nodes → All (λ n. n < length nodes) ns
      → walk_after v ps lent ns (rows_of nodes) ≡ rows_of (changed_in_turn touched ns nodes)
  unfolding walk_after changed_in_turn
  walk_after_lem [] nodes wide a = refl
  walk_after_lem (n ∷ ns) nodes wide a =
      ap (walk_after v ps lent ns) (node-after nodes wide n a.0)
      ∙ walk_after_lem ns (mutate_at n (touched n) nodes) (wide-changed v.width (touched n) (touched-wide n) nodes n wide)
      (subst (λ (k : ℕ). All (λ m. m < k) ns) (sym (mutate-length n (touched n) nodes)) a.1)

  -- each node that is not spared is changed once, the others not at all
  abbrev visits : List ℕ
  visits = visiting_order ps w.spared

  in-turn-at : (nodes : List Node) (j : ℕ) → j < length nodes → (spared : Bool) → count j visits ≡ (if is_spared ps w.spared j then 0 else 1) → is_spared ps w.spared j ≡ spared
      → node_at (changed_in_turn touched visits nodes) j ≡ definition.node_after w ps j (node_at nodes j)
  unfolding definition.node_after
  in-turn-at nodes j l true c q = in-turn-other touched j visits nodes (c ∙ ap (λ (b : Bool). if b then 0 else 1) q) ∙ sym (rw q)
  in-turn-at nodes j l false c q = in-turn-once touched j visits nodes l (c ∙ ap (λ (b : Bool). if b then 0 else 1) q) ∙ sym (rw q)

  in-turn-visited : (nodes : List Node) → Parents ps → parents nodes ≡ ps → changed_in_turn touched visits nodes ≡ visited w nodes
  unfolding visited
  in-turn-visited nodes tree e =
      ext_get_or no_node (changed_in_turn touched visits nodes) (visited w nodes) (in-turn-length touched visits nodes ∙ sym (each-length (definition.node_after w (parents nodes)) 0 nodes))
      (λ j l.
      let k : j < length nodes = omega (arith, in-turn-length touched visits nodes) in
      in-turn-at nodes j k (is_spared ps w.spared j) (visits-others ps tree w.spared j (omega (arith, ap length e, length-map nodes (λ x. x.parent)))) refl
      ∙ ap (λ (qs : List ℕ). definition.node_after w qs j (node_at nodes j)) (sym e)
      ∙ sym (each_at (definition.node_after w (parents nodes)) no_node no_node nodes j k))

  module _ (nodes : List Node) (codes : List ℕ) (holds : Holds nodes v.width ps codes) where
    only-nodes : All (λ n. n < length nodes) visits
    only-nodes = subst (λ (k : ℕ). All (λ n. n < k) visits) (ap length holds.parents ∙ length-map nodes (λ x. x.parent)) (visits-only-nodes ps w.spared)

    pub means-refusal : walk_refusal v ps lent codes (subtree v.spared 0 ps) ≡ visit_refusal w nodes
    unfolding visit_refusal
    means-refusal =
        ap₂ (λ (cs ns : List ℕ). walk_refusal v ps lent cs ns) holds.table.rows (sym means.order)
        ∙ first-same-along (λ n. n < length nodes) (node_refusal v ps lent (rows_of nodes)) (definition.node_refusal w nodes)
        (λ n l. node-refusal nodes holds.table.wide n l (sym holds.parents)) visits only-nodes
        ∙ ap (λ (qs : List ℕ). first_refusal (definition.node_refusal w nodes) (visiting_order qs w.spared)) holds.parents

    pub means-after : walk_after v ps lent (subtree v.spared 0 ps) codes ≡ rows_of (visited w nodes)
    means-after =
        ap₂ (λ (cs ns : List ℕ). walk_after v ps lent ns cs) holds.table.rows (sym means.order)
        ∙ walk_after_lem visits nodes holds.table.wide only-nodes
        ∙ ap rows_of (in-turn-visited nodes holds.earlier (sym holds.parents))

    pub means-told : (answer : Answer) → ToldOf v ps lent codes (subtree v.spared 0 ps) answer → Checked w nodes answer
    means-told answer t = told_same answer means-refusal holds.table.rows means-after t
