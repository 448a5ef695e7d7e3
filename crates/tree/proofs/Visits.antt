-- The visits that the requests make, as the definition's.
use Prim.Native.Nat.{ℕ, ◌+◌, ◌*◌, ◌≤◌, ◌<◌}
use mathlib.Core.Path.{◌≡◌, refl, sym, ap, ap₂, subst, subst⁻¹, ◌∙◌}
use mathlib.Core.Option.{Option, none, some}
use mathlib.Core.List.{List, [], ◌∷◌, map}
use native.Mathlib.Nat.{le_refl}
use borrow.Author.Tests.{eq-eqb, ne_eqb}
use lib.ListN.{length, take, length-map}
use lib.Seq.{take-length}
use Rattle.definition.specs.Permission.{AccessKind, Permission, end_access, init_access, code, permission}
use Rattle.definition.specs.Permission.AccessKind.{Read, Write}
use Rattle.definition.specs.Tree.{Node, node_at, Visit, visit_refusal, visited, access_visit}
use Rattle.definition.specs.Frame.{release_visit}
use Rattle.definition.proofs.Trees.{Parents}
use Rattle.definition.proofs.Order.{walk_none, walk-some}
use Rattle.definition.proofs.Ranges.{Places, range-places, list-places, release-places}
use Rattle.definition.proofs.Retags.{reads_visit}
use Rattle.permission.specs.Codes.{access_kind, end_access_code, init_access_code}
use Rattle.permission.proofs.Codes.{end-access-code}
use Rattle.permission.specs.declared.AccessKind as declared
use Rattle.visit.specs.declared.Accesses.TheVariants.{Each, Told, AtInit}
use Rattle.std.specs.Prelude.{Ok}
use Rattle.visit.specs.declared.Effect.{Effect}
use Rattle.visit.specs.declared.Effect.TheVariants.{Stays, Changes}
use Rattle.visit.specs.declared.Reach.{Reach}
use Rattle.tree.specs.Table.{rows_of, Holds}
use Rattle.visit.specs.Walk.{SameVisit, Ready, Answer, ToldOf, told_access, subtree, walk_after}
use Rattle.visit.proofs.Places.{same_width}
use Rattle.tree.specs.Requests.{access_number, end_number, unless_refused, Made, Checked}
use Rattle.tree.proofs.Held.{rows-length}
use Rattle.tree.proofs.Meaning.{Means, means-same, means-told, means-after}
use Rattle.tree.proofs.Inits.{init-access-permission}

-- a table that holds nodes is ready for a visit of them
pub held-ready : (v : Reach) (nodes : List Node) (ps codes : List ℕ) → Holds nodes v.width ps codes → v.node < length ps → v.from + v.len ≤ v.width → Ready v ps codes
held-ready v nodes ps codes h l i =
    record {
      tree = h.earlier;
      node = l;
      inside = i;
      rows = ap length h.table.rows ∙ rows-length v.width nodes h.table.wide ∙ ap (λ (k : ℕ). k * v.width) (sym (ap length h.parents ∙ length-map nodes (λ x. x.parent)));
      few = h.few;
    }

same-accesses : (inside : List ℕ) → map init_access (map permission inside) ≡ map init_access_code (take (length inside) inside)
same-accesses inside = each inside ∙ ap (map init_access_code) (sym (take-length inside))
  where
    each : (cs : List ℕ) → map init_access (map permission cs) ≡ map init_access_code cs
    each [] = refl
    each (c ∷ cs) = ap₂ ◌∷◌ (sym (init-access-permission c)) (each cs)

-- the number of an access tells it
number-told : (x : Option AccessKind) → told_access (access_number x) ≡ x
unfolding told_access
number-told none = refl
number-told (some Read) = refl
number-told (some Write) = refl

same_ends : (row : List Permission) → map told_access (map end_number (map code row)) ≡ map end_access row
same_ends [] = refl
same_ends (p ∷ row) = ap₂ ◌∷◌ (number-told (end_access_code (code p)) ∙ end-access-code p) (same_ends row)

module _ (ps : List ℕ) (root : 0 < length ps) (width : ℕ) where
  -- an access of one kind
  pub means-bytes : (kind : declared.AccessKind) (node from len : ℕ) (lent : List ℕ)
      → Means (record { node = node; spared = length ps; width = width; from = from; len = len; what = Each kind }) lent ps (access_visit (access_kind kind) node from len)
  means-bytes kind node from len lent =
      record { accessed = refl; places = range-places (access_kind kind) from len; order = walk_none ps (length ps) (le_refl (length ps)) root }

  -- a retag's reads, all at once
  pub means-reads : (node from : ℕ) (inside : List ℕ)
      → Means (record { node = node; spared = length ps; width = width; from = from; len = length inside; what = AtInit }) inside ps (reads_visit node from (map permission inside))
  means-reads node from inside =
      record {
        accessed = refl;
        places = subst (λ (xs : List (Option AccessKind)). Places (reads_visit node from (map permission inside)).access_at from xs) (same-accesses inside) (list-places from (map init_access (map permission inside)));
        order = walk_none ps (length ps) (le_refl (length ps)) root;
      }

  -- the accesses of a protector's end, by the numbers that tell them
  pub means-release : Parents ps → (n : ℕ) → 0 < n → (nodes : List Node) (lent : List ℕ) → take width lent ≡ map end_number (map code (node_at nodes n).permissions)
      → Means (record { node = n; spared = n; width = width; from = 0; len = width; what = Told }) lent ps (release_visit n nodes)
  means-release tree n z nodes lent e =
      record {
        accessed = refl;
        places =
            subst (λ (xs : List (Option AccessKind)). Places (release_visit n nodes).access_at 0 xs) (sym (ap (map told_access) e ∙ same_ends (node_at nodes n).permissions))
            (release-places (node_at nodes n).permissions);
        order = walk-some ps tree n z root;
      }

-- a retag's reads, all at once, with their accesses said in another way
module _ (nodes : List Node) (width node from : ℕ) (ps codes inside : List ℕ) (held : Holds nodes width ps codes)
    (reach : Reach) (same : SameVisit (record { node = node; spared = length ps; width = width; from = from; len = length inside; what = AtInit }) inside reach) where
  as_wide : Holds nodes reach.width ps codes
  as_wide = subst⁻¹ (λ (w : ℕ). Holds nodes w ps codes) (same_width _ reach inside same) held

  means : Means reach inside ps (reads_visit node from (map permission inside))
  means = means-same _ reach inside ps (reads_visit node from (map permission inside)) same (means-reads ps held.root width node from inside)

  pub reads-told : (answer : Answer) → ToldOf reach ps inside codes (subtree reach.spared 0 ps) answer → Checked (reads_visit node from (map permission inside)) nodes answer
  reads-told = means-told reach inside ps (reads_visit node from (map permission inside)) means nodes codes as_wide

  pub reads-after : walk_after reach ps inside (subtree reach.spared 0 ps) codes ≡ rows_of (visited (reads_visit node from (map permission inside)) nodes)
  reads-after = means-after reach inside ps (reads_visit node from (map permission inside)) means nodes codes as_wide

-- ---- what passes a check
pub checked-accepted : (v : Visit) (nodes : List Node) (effect : Effect) → Checked v nodes (Ok effect) → visit_refusal v nodes ≡ 0
checked-accepted v nodes Stays t = t.0
checked-accepted v nodes Changes t = t

-- ---- a refusal leaves the nodes as they were
pub accepted-nodes : (r : ℕ) (before after : List Node) → r ≡ 0 → unless_refused r before after ≡ after
accepted-nodes r before after z = rw (eq-eqb r 0 z)

pub refused-nodes : (r : ℕ) (before after : List Node) → (r ≡ 0 → ⊥) → unless_refused r before after ≡ before
refused-nodes r before after z = rw (ne_eqb r 0 z)

module _ {refused : ℕ} (v : Visit) (nodes : List Node) (answer : ℕ) (codes : List ℕ) (e : answer ≡ refused) where
  pub visit-accepted : answer ≡ 0 → codes ≡ rows_of (visited v nodes) → Made refused v nodes answer codes
  visit-accepted z t = record { refusal = e; table = t ∙ ap rows_of (sym (accepted-nodes refused nodes (visited v nodes) (sym e ∙ z))) }

  pub visit-refused : (answer ≡ 0 → ⊥) → codes ≡ rows_of nodes → Made refused v nodes answer codes
  visit-refused z t = record { refusal = e; table = t ∙ ap rows_of (sym (refused-nodes refused nodes (visited v nodes) (λ q. z (e ∙ q)))) }
