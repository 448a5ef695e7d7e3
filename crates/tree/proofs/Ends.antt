-- The end of a node's protector, over the tables: its visit is the definition's, on the table before and on the one with the node's row unprotected.
use Prim.Native.Nat.{ℕ, ◌<◌}
use mathlib.Core.Path.{◌≡◌, refl, sym, ap, subst⁻¹, ◌∙◌}
use mathlib.Core.Bool.{false}
use mathlib.Core.List.{List, map}
use native.Mathlib.Omega.{arith}
use lib.ListN.{length, take}
use Rattle.definition.specs.Notation.{mutate_at}
use Rattle.definition.specs.Tree.{Node, node_at, visited}
use Rattle.definition.specs.Memory.Liveness.{Live}
use Rattle.definition.specs.Frame.{lacks_protector, unprotect_node, release_visit, release_visit_refusal, released_nodes}
use Rattle.permission.specs.Codes.{unprotected_code}
use Rattle.visit.specs.declared.Accesses.TheVariants as accesses
use Rattle.visit.specs.declared.Reach.{Reach}
use Rattle.visit.specs.Walk.{SameVisit, Ready, Answer, Told, ToldOf, row_at, with_row_at, subtree, walk_after}
use Rattle.visit.proofs.Places.{same-ready, same_width}
use Rattle.tree.specs.Table.{rows_of, marks, Holds}
use Rattle.tree.specs.Requests.{end_number, release_refusal, Ended, Released}
use Rattle.tree.proofs.Held.{held-count}
use Rattle.tree.proofs.Meaning.{Means, means-same, told_same, means-told, means-after}
use Rattle.tree.proofs.Visits.{held-ready, means-release, accepted-nodes, refused-nodes}
use Rattle.tree.proofs.Releases.{held-row, unprotected-table, unprotected-holds, spared-unread, spared-stays, release-visits, release-accepted, release-refused}

module _ (nodes : List Node) (width : ℕ) (ps codes lent : List ℕ) (held : Holds nodes width ps codes) (n : ℕ) (l : n < length ps) (z : 0 < n)
    (told : take width lent ≡ map end_number (row_at width n codes))
    (reach : Reach) (same : SameVisit (record { node = n; spared = n; width = width; from = 0; len = width; what = accesses.Told }) lent reach) where
  inside : n < length nodes
  inside = omega (arith, held-count held)

  means : Means reach lent ps (release_visit n nodes)
  means = means-same _ reach lent ps (release_visit n nodes) same (means-release ps held.root width held.earlier n z nodes lent (told ∙ ap (map end_number) (held-row nodes width codes held.table n inside)))

  as_wide : {held-nodes : List Node} {cs : List ℕ} → Holds held-nodes width ps cs → Holds held-nodes reach.width ps cs
  as_wide {held-nodes} {cs} = subst⁻¹ (λ (w : ℕ). Holds held-nodes w ps cs) (same_width _ reach lent same)

  -- the visit does not read the node: it need not be unprotected yet
  pub end-told : (answer : Answer) → ToldOf reach ps lent codes (subtree reach.spared 0 ps) answer → Told (release_visit_refusal Live n nodes) (rows_of nodes) (rows_of (visited (release_visit n nodes) nodes)) answer
  end-told answer t =
      told_same answer (sym (spared-unread (release_visit n nodes) n refl (unprotect_node Live) (λ x. refl) nodes)) refl refl
      (means-told reach lent ps (release_visit n nodes) means nodes codes (as_wide held) answer t)

  module _ (codes' : List ℕ) (e : codes' ≡ with_row_at width n (map unprotected_code (row_at width n codes)) codes) where
    table-held : codes' ≡ rows_of (mutate_at n (unprotect_node Live) nodes)
    table-held = e ∙ unprotected-table Live nodes width codes held.table n inside

    holds : Holds (mutate_at n (unprotect_node Live) nodes) width ps codes'
    holds = unprotected-holds Live nodes width codes held.table n inside ps codes' held table-held

    pub end-ready : Ready reach ps codes'
    end-ready = same-ready _ reach lent ps codes' same (held-ready _ (mutate_at n (unprotect_node Live) nodes) ps codes' holds l (omega arith))

    pub end_after : walk_after reach ps lent (subtree reach.spared 0 ps) codes' ≡ rows_of (released_nodes Live n nodes)
    end_after = means-after reach lent ps (release_visit n nodes) means (mutate_at n (unprotect_node Live) nodes) codes' (as_wide holds)

    -- where the visit leaves the table before as it is, it leaves this one
    pub end_stays : rows_of nodes ≡ rows_of (visited (release_visit n nodes) nodes) → codes' ≡ rows_of (released_nodes Live n nodes)
    end_stays stays =
        table-held
        ∙ spared-stays (release_visit n nodes) n refl (unprotect_node Live) (λ x. refl) nodes width held.table.wide inside stays

-- ---- the answer: the visit is refused, or the table is what it leaves
module _ (nodes : List Node) (n answer : ℕ) (codes : List ℕ) where
  pub end_refused : answer ≡ release_visit_refusal Live n nodes → (answer ≡ 0 → ⊥) → codes ≡ rows_of nodes → Ended n nodes answer codes
  end_refused e z t =
      record { refusal = e; table = t ∙ ap rows_of (sym (refused-nodes (release_visit_refusal Live n nodes) nodes (released_nodes Live n nodes) (λ q. z (e ∙ q)))) }

  pub end-accepted : answer ≡ release_visit_refusal Live n nodes → answer ≡ 0 → codes ≡ rows_of (released_nodes Live n nodes) → Ended n nodes answer codes
  end-accepted e z t =
      record { refusal = e; table = t ∙ ap rows_of (sym (accepted-nodes (release_visit_refusal Live n nodes) nodes (released_nodes Live n nodes) (sym e ∙ z))) }

  -- it is all of the release of a node that has one, but for its mark
  module _ (ended : Ended n nodes answer codes) (protected : lacks_protector (node_at nodes n) ≡ false) (protectors : List ℕ) where
    answered : answer ≡ release_refusal Live n nodes
    answered = ended.refusal ∙ release-visits Live nodes n protected

    pub ended-refused : (answer ≡ 0 → ⊥) → protectors ≡ marks nodes → Released Live n nodes answer protectors codes
    ended-refused z m =
        release-refused Live nodes n answer protectors codes answered z m
        (ended.table ∙ ap rows_of (refused-nodes (release_visit_refusal Live n nodes) nodes (released_nodes Live n nodes) (λ q. z (ended.refusal ∙ q))))

    pub ended-accepted : answer ≡ 0 → protectors ≡ marks (released_nodes Live n nodes) → Released Live n nodes answer protectors codes
    ended-accepted z m =
        release-accepted Live nodes n answer protectors codes answered z m
        (ended.table ∙ ap rows_of (accepted-nodes (release_visit_refusal Live n nodes) nodes (released_nodes Live n nodes) (sym ended.refusal ∙ z)))
