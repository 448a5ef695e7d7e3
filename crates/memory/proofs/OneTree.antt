-- One allocation's tree as a visit leaves it makes the tables of the memory after the visit.
use Prim.Native.Nat.{ℕ, ◌+◌, ◌-◌, ◌≤◌, ◌<◌}
use mathlib.Core.Path.{◌≡◌, refl, sym, ap, subst, ◌∙◌}
use mathlib.Core.List.{List, ◌++◌}
use native.Mathlib.Omega.{arith}
use borrow.Rule.Slice.PartMut.{put_mid}
use lib.ListN.{length, take, drop, length-drop, take-append-drop}
use lib.Seq.{drop-drop, take-append-le, drop-append-le}
use Rattle.definition.specs.Notation.{mutate_at}
use Rattle.definition.specs.Permission.{AccessKind}
use Rattle.definition.specs.Permission.AccessKind.{Write}
use Rattle.definition.specs.Tree.{Visit, access_visit, visit_refusal}
use Rattle.definition.specs.Memory.{Allocation, Memory, allocation_at}
use Rattle.definition.specs.Valid.{Valid}
use Rattle.definition.proofs.Places.{valid-at}
use Rattle.tables.specs.Encoding.{codes_of, held}
use Rattle.tables.specs.Held.{start_of}
use Rattle.tables.specs.declared.Allocation as lent_record
use Rattle.tables.proofs.Focus.{focus-part, focus-mutate}
use Rattle.tables.proofs.Sizes.{codes_at}
use Rattle.tree.specs.Requests.{Visited, deallocate_refusal, Deallocated}
use Rattle.parts.specs.declared.Parts.{Parts}
use Rattle.parts.specs.Trees.{parts_in, TreeAt, after_visit, TreeVisited}
use Rattle.parts.proofs.Trees.{codes-rows, visited-codes}
use Rattle.parts.proofs.Lent.{trees-of, tree-at, parts-read, tree-visited}
use Rattle.memory.specs.Access.{Found, visit_at}
use Rattle.memory.specs.Deallocate.{FoundMarked, WrittenAll}

-- ---- an allocation that was found: its parts lie where its record says
pub found-tree : {m : Memory} {n : ℕ} {a : lent_record.Allocation} {P C : List ℕ} → Found m n a P C → n < length m → {r : Parts} → r ≡ parts_in a → TreeAt m n P C r
found-tree {m} {n} {a} {P} {C} f made e = subst (λ (r : Parts). TreeAt m n P C r) (sym e) (tree-at f.trees (parts-read f.trees.records made f.read))

pub marked-tree : {m : Memory} {n : ℕ} {a : lent_record.Allocation} {P R C : List ℕ} → FoundMarked m n a P R C → n < length m → {r : Parts} → r ≡ parts_in a → TreeAt m n P C r
marked-tree f made e = found-tree (record { records = f.records; trees = trees-of f.trees; read = f.read }) made e

-- ---- its part of the codes comes back
module _ {m : Memory} {n : ℕ} {P C : List ℕ} {r : Parts} (h : TreeAt m n P C r) where
  abbrev x : Allocation
  x = allocation_at m n

  abbrev given_back : List ℕ → List ℕ
  given_back last = put_mid r.codes.start (r.codes.end - r.codes.start) C last

  -- of a load or a store, in an allocation that starts at base
  module _ (kind : AccessKind) (node address len : ℕ) {base : ℕ} (e : base ≡ x.address) {answer : ℕ} where
    pub access-visited : (last : List ℕ) → Visited (access_visit kind node (address - base) len) x.nodes answer last
        → TreeVisited m n (visit_refusal (visit_at kind m n node address len) x.nodes) (visit_at kind m n node address len) answer (given_back last)
    access-visited last k =
        subst (λ (z : ℕ). let v = access_visit kind node (address - z) len in TreeVisited m n (visit_refusal v x.nodes) v answer (given_back last)) e
        (tree-visited h k)

  -- of a deallocation
  pub deallocate-visited : (node : ℕ) {answer : ℕ} (last : List ℕ) → Deallocated node r.width x.nodes answer last → WrittenAll m n node answer (given_back last)
  deallocate-visited node {answer} last k =
      subst (λ (z : ℕ). TreeVisited m n (deallocate_refusal node z x.nodes) (access_visit Write node 0 z) answer (given_back last)) h.part.width
      (tree-visited h k)

-- ---- changes of one allocation
-- only the part counts
pub same_parts : (total : ℕ) (f : Allocation → List ℕ) (m : Memory) (n : ℕ) → n < length m → (g k : Allocation → Allocation)
    → length (f (g (allocation_at m n))) ≡ length (f (allocation_at m n)) → f (k (allocation_at m n)) ≡ f (g (allocation_at m n))
    → held total f (mutate_at n g m) ≡ held total f (mutate_at n k m)
same_parts total f m n made g k l e =
    sym (focus-mutate total f m n made g (f (g (allocation_at m n))) l refl) ∙ focus-mutate total f m n made k (f (g (allocation_at m n))) l e

pub visited-part : (m : Memory) (n : ℕ) → Valid m → n < length m → (v : Visit)
    → length (codes_of (after_visit v (allocation_at m n))) ≡ length (codes_of (allocation_at m n))
visited-part m n w made v = ap length (codes-rows (after_visit v (allocation_at m n))) ∙ visited-codes (allocation_at m n) (valid-at m n w made) v ∙ sym (codes_at m w n made)

-- some numbers of a part
pub focus-load : (total : ℕ) (f : Allocation → List ℕ) (m : Memory) (n : ℕ) → n < length m → (off len : ℕ) → off + len ≤ length (f (allocation_at m n))
    → take len (drop (start_of f m n + off) (held total f m)) ≡ take len (drop off (f (allocation_at m n)))
focus-load total f m n made off len fits =
    let X = f (allocation_at m n) in
    let H = held total f m in
    let D = drop (start_of f m n) H in
    let s : D ≡ X ++ drop (length X) D = sym (take-append-drop (length X) D) ∙ ap (λ (l : List ℕ). l ++ drop (length X) D) (focus-part total f m n made) in
    let lo : off ≤ length X = omega arith in
    let ln : len ≤ length (drop off X) = simp length-drop (omega arith) in
    ap (take len) (sym (drop-drop off (start_of f m n) H))
    ∙ ap (λ (l : List ℕ). take len (drop off l)) s
    ∙ ap (take len) (drop-append-le off X (drop (length X) D) lo)
    ∙ take-append-le len (drop off X) (drop (length X) D) ln
