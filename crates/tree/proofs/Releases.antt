-- The release of a protected node, over the tables: 16's test, the node's row unprotected, the marks, and that the visit neither reads nor changes the released node.
use Rattle.std.specs.Prelude.{if◌then◌else◌}
use Prim.Native.Nat.{ℕ, zero, suc, ◌<◌}
use mathlib.Core.Path.{◌≡◌, refl, sym, ap, ap₂, subst, ◌∙◌}
use mathlib.Core.Bool.{Bool, true, false, not, false≢true}
use mathlib.Core.Option.{Option, some}
use mathlib.Core.List.{List, [], ◌∷◌, map}
use native.Mathlib.Decide.{ℕ_discrete}
use native.Mathlib.Omega.{arith}
use lib.ListN.{length, get_or, set, length-map, get_or-map}
use lib.Seq.{ext_get_or}
use Rattle.definition.specs.Notation.{◌when◌, ◌or◌, first_refusal, map_from, mutate_at, any, filter}
use Rattle.definition.specs.Refusal.{not_protected}
use Rattle.definition.specs.Permission.{Permission, Protected, is_yes, is_protected, unprotected, code}
use Rattle.definition.specs.Permission.Protected.{No, Weak, Strong}
use Rattle.definition.specs.Tree.{Node, no_node, node_at, parents, relation, is_spared, preorder, visiting_order, Visit, row_refusal, node_refusal, visit_refusal, node_after, visited}
use Rattle.definition.specs.Memory.{Liveness}
use Rattle.definition.specs.Memory.Liveness.{Live, Dead}
use Rattle.definition.specs.Frame.{lacks_protector, unprotect_node, release_visit, release_visit_refusal, released_nodes}
use Rattle.definition.proofs.Alls.{all-each}
use Rattle.definition.proofs.Lists.{each-length, each_map, mutate-length, mutate-kept, mutate-map}
use Rattle.definition.proofs.Places.{each_at, mutate-here}
use Rattle.definition.proofs.Trees.{above-itself}
use Rattle.definition.proofs.Visits.{visited-length}
use Rattle.permission.specs.Codes.{is_protected_code, unprotected_code}
use Rattle.permission.proofs.Codes.{is-protected-code, unprotected-code}
use Rattle.tree.specs.Table.{rows_of, protector_number, marks, HoldsRows, Holds, HoldsMarks}
use Rattle.visit.specs.Walk.{row_at, with_row_at}
use Rattle.tree.specs.Requests.{release_refusal, Released}
use Rattle.tree.proofs.Held.{Wide, row-held, row-changed, wide-changed}
use Rattle.tree.proofs.Meaning.{after-spared, after-wide}
use Rattle.tree.proofs.Visits.{accepted-nodes, refused-nodes}

-- ---- the row of node n, in a table that holds it
module _ (nodes : List Node) (width : ℕ) (codes : List ℕ) (held : HoldsRows nodes width codes) (n : ℕ) (l : n < length nodes) where
  pub held-row : row_at width n codes ≡ map code (node_at nodes n).permissions
  held-row = ap (row_at width n) held.rows ∙ row-held width nodes held.wide n l

-- ---- marks
pub mark-at : (nodes : List Node) (n : ℕ) → get_or (marks nodes) n 0 ≡ protector_number (node_at nodes n).protected
mark-at nodes n = get_or-map (λ x. protector_number x.protected) nodes n no_node

marked : (p : Protected) → (protector_number p ≡ 0 → ⊥) → is_yes p ≡ true
marked No h = absurd (h refl)
marked Weak h = refl
marked Strong h = refl

-- ---- 16
unprotected-any : (row : List Permission) → any (λ c. not (is_protected_code c)) (map code row) ≡ any (λ p. not (is_protected p)) row
unfolding any
unprotected-any [] = refl
unprotected-any (p ∷ row) = rw (is-protected-code p) (ap (λ (b : Bool). if not (is_protected p) then true else b) (unprotected-any row))

module _ (nodes : List Node) (width : ℕ) (protectors codes : List ℕ) (held : HoldsMarks nodes width protectors codes) (n : ℕ) where
  mark_of : get_or protectors n 0 ≡ protector_number (node_at nodes n).protected
  mark_of = ap (λ (l : List ℕ). get_or l n 0) held.marked ∙ mark-at nodes n

  pub lacks-code : n < length nodes → (get_or protectors n 0 ≡ 0 → ⊥) → any (λ c. not (is_protected_code c)) (row_at width n codes) ≡ lacks_protector (node_at nodes n)
  lacks-code l h =
      ap (any (λ c. not (is_protected_code c))) (held-row nodes width codes held.table n l)
      ∙ unprotected-any (node_at nodes n).permissions
      ∙ sym (rw (marked (node_at nodes n).protected (λ q. h (mark_of ∙ q))))

-- ---- the row unprotected
unprotected-row : (row : List Permission) → map unprotected_code (map code row) ≡ map code (map unprotected row)
unprotected-row [] = refl
unprotected-row (p ∷ row) = ap₂ ◌∷◌ (unprotected-code p) (unprotected-row row)

module _ (state : Liveness) (nodes : List Node) (width : ℕ) (codes : List ℕ) (held : HoldsRows nodes width codes) (n : ℕ) (l : n < length nodes) where
  pub unprotected-table : with_row_at width n (map unprotected_code (row_at width n codes)) codes ≡ rows_of (mutate_at n (unprotect_node state) nodes)
  unprotected-table =
      ap₂ (λ (row cs : List ℕ). with_row_at width n row cs)
      (ap (map unprotected_code) (held-row nodes width codes held n l) ∙ unprotected-row (node_at nodes n).permissions) held.rows
      ∙ row-changed width (unprotect_node state) nodes held.wide n l

  pub unprotected-holds : (ps codes' : List ℕ) → Holds nodes width ps codes → codes' ≡ rows_of (mutate_at n (unprotect_node state) nodes) → Holds (mutate_at n (unprotect_node state) nodes) width ps codes'
  unprotected-holds ps codes' h e =
      record {
        parents = h.parents ∙ sym (mutate-map (λ x. x.parent) (unprotect_node state) (λ x. refl) n nodes);
        table =
            record {
              rows = e;
              wide = wide-changed width (unprotect_node state) (λ x. length-map x.permissions unprotected) nodes n held.wide;
            };
        earlier = h.earlier;
        root = h.root;
        few = h.few;
      }

-- ---- the marks afterwards
cleared : (nodes : List Node) (n : ℕ) → marks (mutate_at n (unprotect_node Live) nodes) ≡ set (marks nodes) n 0
unfolding mutate_at
cleared [] n = refl
cleared (x ∷ nodes) zero = refl
cleared (x ∷ nodes) (suc n) = ap (λ (l : List ℕ). protector_number x.protected ∷ l) (cleared nodes n)

visited-marks : (v : Visit) (nodes : List Node) → marks (visited v nodes) ≡ marks nodes
unfolding visited node_after
visited-marks v nodes = each_map (λ x. protector_number x.protected) (node_after v (parents nodes)) (λ k x. refl) 0 nodes

pub released-marks : (nodes : List Node) (n : ℕ) → set (marks nodes) n 0 ≡ marks (released_nodes Live n nodes)
released-marks nodes n = sym (visited-marks (release_visit n nodes) (mutate_at n (unprotect_node Live) nodes) ∙ cleared nodes n)

pub dead-marks : (nodes : List Node) (n : ℕ) → marks nodes ≡ marks (released_nodes Dead n nodes)
dead-marks nodes n = sym (mutate-map (λ x. protector_number x.protected) (unprotect_node Dead) (λ x. refl) n nodes)

-- ---- a visit keeps the rows as wide as they are
wide-visited : (width : ℕ) (v : Visit) (nodes : List Node) → Wide width nodes → Wide width (visited v nodes)
unfolding visited
wide-visited width v nodes wide =
    all-each (λ x. length x.permissions ≡ width) (node_after v (parents nodes)) (λ k x e. after-wide v (parents nodes) k x ∙ e) 0 nodes wide

-- ---- the visit does not read the released node
first-filtered : (test : ℕ → Bool) (f g : ℕ → ℕ) → ((k : ℕ) → test k ≡ true → f k ≡ g k) → (l : List ℕ) → first_refusal f (filter test l) ≡ first_refusal g (filter test l)
unfolding filter first_refusal
first-filtered test f g h [] = refl
first-filtered test f g h (k ∷ l) = by (test k) (h k) (first-filtered test f g h l)
  where
    by : (t : Bool) → (t ≡ true → f k ≡ g k) → first_refusal f (filter test l) ≡ first_refusal g (filter test l)
        → first_refusal f (if t then k ∷ filter test l else filter test l) ≡ first_refusal g (if t then k ∷ filter test l else filter test l)
    by true e r = ap₂ ◌or◌ (e refl) r
    by false e r = r

module _ (v : Visit) (n : ℕ) (s : v.spared ≡ some n) (f : Node → Node) (e : (x : Node) → (f x).parent ≡ x.parent) (nodes : List Node) where
  same-parents : parents (mutate_at n f nodes) ≡ parents nodes
  same-parents = mutate-map (λ x. x.parent) f e n nodes

  spared-itself : is_spared (parents nodes) v.spared n ≡ true
  spared-itself = ap (λ (o : Option ℕ). is_spared (parents nodes) o n) s ∙ above-itself (parents nodes) n

  pub spared-unread : visit_refusal v (mutate_at n f nodes) ≡ visit_refusal v nodes
  unfolding visit_refusal visiting_order node_refusal
  spared-unread =
      ap (λ (ps : List ℕ). first_refusal (node_refusal v (mutate_at n f nodes)) (visiting_order ps v.spared)) same-parents
      ∙ first-filtered (λ k. not (is_spared (parents nodes) v.spared k)) (node_refusal v (mutate_at n f nodes)) (node_refusal v nodes) other (preorder (parents nodes))
    where
      other : (k : ℕ) → not (is_spared (parents nodes) v.spared k) ≡ true → node_refusal v (mutate_at n f nodes) k ≡ node_refusal v nodes k
      other k t =
          ap (λ (ps : List ℕ). row_refusal v.access_at (relation ps k v.accessed) 0 (node_at (mutate_at n f nodes) k).permissions) same-parents
          ∙ mutate-kept (λ (x : Node). row_refusal v.access_at (relation (parents nodes) k v.accessed) 0 x.permissions) f no_node nodes n k
          (λ q. absurd (false≢true (sym (ap not (subst (λ (j : ℕ). is_spared (parents nodes) v.spared j ≡ true) q spared-itself)) ∙ t)))

  -- nor does it change it: it may as well be changed before
  abbrev after : ℕ → Node → Node
  after = node_after v (parents nodes)

  visited-kept : n < length nodes → node_at (visited v nodes) n ≡ node_at nodes n
  unfolding visited
  visited-kept l = each_at after no_node no_node nodes n l ∙ after-spared v (parents nodes) n (node_at nodes n) spared-itself

  spared-first : n < length nodes → visited v (mutate_at n f nodes) ≡ mutate_at n f (visited v nodes)
  unfolding visited
  spared-first l =
      ap (λ (ps : List ℕ). map_from 0 (node_after v ps) (mutate_at n f nodes)) same-parents
      ∙ ext_get_or no_node (map_from 0 after (mutate_at n f nodes)) (mutate_at n f (map_from 0 after nodes))
      (each-length after 0 (mutate_at n f nodes) ∙ mutate-length n f nodes ∙ sym (mutate-length n f (map_from 0 after nodes) ∙ each-length after 0 nodes))
      (λ k h.
      let i : k < length nodes = omega (arith, each-length after 0 (mutate_at n f nodes), mutate-length n f nodes) in
      each_at after no_node no_node (mutate_at n f nodes) k (omega (arith, mutate-length n f nodes)) ∙ at k i)
    where
      at : (k : ℕ) → k < length nodes → after k (node_at (mutate_at n f nodes) k) ≡ node_at (mutate_at n f (map_from 0 after nodes)) k
      at k i =
          elim (ℕ_discrete n k) [
            | yes q ↦
                subst (λ (j : ℕ). after j (node_at (mutate_at n f nodes) j) ≡ node_at (mutate_at n f (map_from 0 after nodes)) j) q
                (after-spared v (parents nodes) n (node_at (mutate_at n f nodes) n) spared-itself
                ∙ mutate-here f no_node nodes n l
                ∙ sym (mutate-here f no_node (map_from 0 after nodes) n (omega (arith, each-length after 0 nodes)) ∙ ap f (visited-kept l)))
            | no q ↦
                ap (after k) (mutate-kept (λ x. x) f no_node nodes n k (λ e. absurd (q e)))
                ∙ sym (mutate-kept (λ x. x) f no_node (map_from 0 after nodes) n k (λ e. absurd (q e)) ∙ each_at after no_node no_node nodes k i)
          ]

  -- a visit that leaves the table as it is leaves it so whatever the spared node is
  pub spared-stays : (width : ℕ) → Wide width nodes → n < length nodes → rows_of nodes ≡ rows_of (visited v nodes) → rows_of (mutate_at n f nodes) ≡ rows_of (visited v (mutate_at n f nodes))
  spared-stays width wide l stays =
      sym (row-changed width f nodes wide n l)
      ∙ ap₂ (λ (x : Node) (codes : List ℕ). with_row_at width n (map code (f x).permissions) codes) (sym (visited-kept l)) stays
      ∙ row-changed width f (visited v nodes) (wide-visited width v nodes wide) n (omega (arith, visited-length v nodes))
      ∙ ap rows_of (sym (spared-first l))

-- ---- the answer
module _ (state : Liveness) (nodes : List Node) (n : ℕ) where
  pub release-16 : lacks_protector (node_at nodes n) ≡ true → 16 ≡ release_refusal state n nodes
  unfolding release_refusal
  release-16 e = sym (ap (λ (b : Bool). not_protected when b or release_visit_refusal state n nodes) e)

  pub release-visits : lacks_protector (node_at nodes n) ≡ false → release_visit_refusal state n nodes ≡ release_refusal state n nodes
  unfolding release_refusal
  release-visits e = sym (ap (λ (b : Bool). not_protected when b or release_visit_refusal state n nodes) e)

  module _ (answer : ℕ) (protectors codes : List ℕ) (e : answer ≡ release_refusal state n nodes) where
    pub release-accepted : answer ≡ 0 → protectors ≡ marks (released_nodes state n nodes) → codes ≡ rows_of (released_nodes state n nodes) → Released state n nodes answer protectors codes
    release-accepted z m t =
        let a = sym (accepted-nodes (release_refusal state n nodes) nodes (released_nodes state n nodes) (sym e ∙ z)) in
        record { refusal = e; marked = m ∙ ap marks a; table = t ∙ ap rows_of a }

    pub release-refused : (answer ≡ 0 → ⊥) → protectors ≡ marks nodes → codes ≡ rows_of nodes → Released state n nodes answer protectors codes
    release-refused z m t =
        let a = sym (refused-nodes (release_refusal state n nodes) nodes (released_nodes state n nodes) (λ q. z (e ∙ q))) in
        record { refusal = e; marked = m ∙ ap marks a; table = t ∙ ap rows_of a }
