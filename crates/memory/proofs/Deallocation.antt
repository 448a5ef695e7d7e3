-- Deallocation: the refusals of the record and those of the tree are the definition's, and so are the record and the codes afterwards.
use Prim.Native.Nat.{ℕ, zero, suc, ◌*◌, ◌<◌}
use mathlib.Core.Path.{◌≡◌, refl, sym, ap, ◌∙◌}
use mathlib.Core.Bool.{true, false, not}
use mathlib.Core.Option.{none, some}
use mathlib.Core.List.{List, [], ◌∷◌}
use native.Mathlib.Omega.{arith}
use borrow.Author.Tests.{eq-eqb, ne_eqb}
use lib.Dec.{eqb}
use lib.ListN.{length, set}
use Rattle.definition.specs.Notation.{◌when◌, ◌or◌, mutate_at}
use Rattle.definition.specs.Refusal.{never_made, dead_allocation, away_from_start, another_kind, another_size, another_alignment}
use Rattle.definition.specs.Tree.{Visit}
use Rattle.definition.specs.Memory.{Provenance, ThinPointer, Allocation, AllocationKind, Memory, kind_number, allocation_of, allocation_at, size, refused_with, unless_refused, was_made, names_never_made, write_all, after_deallocate_in, accept_deallocate, deallocate}
use Rattle.definition.proofs.Booleans.{not-not-false, or_assoc, or_left, when-none}
use Rattle.definition.proofs.Visits.{visited-length}
use Rattle.definition.proofs.ValidMemory.{Made, was-made}
use Rattle.definition.specs.Memory as definition
use Rattle.pointer.specs.Pointer.{provenance_of, thin_pointer_of}
use Rattle.std.specs.Prelude.{None}
use Rattle.pointer.specs.Pointer.{via}
use Rattle.pointer.specs.declared.ThinPointer as code
use Rattle.answer.specs.Answer.{reply_to}
use Rattle.answer.specs.Answer.Gives.{Nothing}
use Rattle.answer.specs.declared.Answer.TheVariants.{Accepted}
use Rattle.tables.specs.declared.Starts.{Starts}
use Rattle.tables.specs.Encoding.{state_number, record_of, codes_of, held_records, held}
use Rattle.tables.specs.Held.{Records}
use Rattle.tables.proofs.Lookup.{state-at, live_state, kind_at, exponent-at, address-at, size-at, record_at}
use Rattle.tables.proofs.Records.{record-state}
use Rattle.tables.specs.declared.Allocation as lent_record
use Rattle.tree.specs.Requests as tree
use Rattle.bounds.specs.Bounds.{target_in}
use Rattle.bounds.proofs.Points.{target-record}
use Rattle.parts.specs.Trees.{HoldsMarked, after_visit, TreeVisited}
use Rattle.parts.proofs.Lent.{records-of}
use Rattle.memory.specs.Deallocate.{record_refusal, refusal_through, FoundMarked, NodeIn, WrittenAll, Deallocated}
use Rattle.memory.proofs.OneTree.{same_parts, visited-part}

or-five : (a b c d e f : ℕ) → ((a or b or c or d or e) or f) ≡ (a or b or c or d or e or f)
or-five a b c d e f =
    or_assoc a (b or c or d or e) f
    ∙ ap (λ (n : ℕ). a or n) (or_assoc b (c or d or e) f ∙ ap (λ (n : ℕ). b or n) (or_assoc c (d or e) f ∙ ap (λ (n : ℕ). c or n) (or_assoc d e f)))

-- a pointer with provenance
abbrev pub through : ℕ → Provenance → ThinPointer
through address t = record { address = address; provenance = some t }

-- ---- what the tests leave
pub made-node : (m : Memory) (t : Provenance) → names_never_made m (some t) ≡ false → NodeIn m t.allocation t.node
made-node m t e = let made : Made m t = was-made m t (not-not-false (was_made m t) e) in record { made = made.allocation; in_tree = made.node }

pub node_made : (t : Provenance) (at of_kind len alignment : ℕ) (m : Memory) → 0 ≡ refusal_through t at of_kind len alignment m → NodeIn m t.allocation t.node
unfolding refusal_through
node_made t at of_kind len alignment m e =
    let a : Allocation = allocation_at m t.allocation in
    let rest = record_refusal (state_number a.state) (kind_number a.kind) a.exponent a.address (size a) at of_kind len alignment in
    made-node m t (when-none 3 (names_never_made m (some t)) (or_left (never_made when names_never_made m (some t)) rest (sym e)))

-- the record as it is read
pub record-read : {m : Memory} {A : List ℕ} → Records m A → {n : ℕ} → n < length m → {r : lent_record.Allocation} → r ≡ record_at A n → (at of_kind len alignment : ℕ) → {answer : ℕ}
    → answer ≡ record_refusal r.state r.kind r.exponent r.address r.size at of_kind len alignment
    → let a = allocation_at m n in answer ≡ record_refusal (state_number a.state) (kind_number a.kind) a.exponent a.address (size a) at of_kind len alignment
record-read h {n} made q at of_kind len alignment e =
    e ∙ ap (λ (x : lent_record.Allocation). record_refusal x.state x.kind x.exponent x.address x.size at of_kind len alignment) q
    ∙ rw (state-at h n made, kind_at h n made, exponent-at h n made, address-at h n made, size-at h n made)

-- ---- the refusal
module _ (p : ThinPointer) (k : AllocationKind) (len exponent : ℕ) (m : Memory) where
  performed : (r : ℕ) → definition.deallocate_refusal m p k len exponent ≡ r → deallocate p k len exponent m ≡ unless_refused r m (accept_deallocate p m)
  unfolding deallocate
  performed r e = ap (λ (n : ℕ). unless_refused n m (accept_deallocate p m)) e

  pub deallocate-refused : {A P R C : List ℕ} (r : ℕ) → (r ≡ 0 → ⊥) → HoldsMarked m A P R C → {C' : List ℕ} → C' ≡ held 32768 codes_of m
      → definition.deallocate_refusal m p k len exponent ≡ r → Deallocated p k len exponent m (reply_to Nothing (refused_with r)) A C'
  deallocate-refused zero z h c e = absurd (z refl)
  deallocate-refused (suc r) z h c e =
      let o = performed (suc r) e in
      record {
        reply = ap (λ o. reply_to Nothing o.0) (sym o);
        answers = λ words. ap (λ o. o.0) (sym o);
        allocs = h.trees.allocs ∙ ap (λ o. held_records o.1) (sym o);
        codes = c ∙ ap (λ o. held 32768 codes_of o.1) (sym o);
      }

pub missing-refused : (address : ℕ) (k : AllocationKind) (len exponent : ℕ) (m : Memory)
    → definition.deallocate_refusal m (record { address = address; provenance = none }) k len exponent ≡ 7
unfolding definition.deallocate_refusal
missing-refused address k len exponent m = refl

module _ (address : ℕ) (t : Provenance) (k : AllocationKind) (len exponent : ℕ) (m : Memory) where
  abbrev before : ℕ
  before = refusal_through t address (kind_number k) len exponent m

  abbrev in_tree : ℕ
  in_tree = tree.deallocate_refusal t.node (size (allocation_at m t.allocation)) (allocation_at m t.allocation).nodes

  refusal-split : definition.deallocate_refusal m (through address t) k len exponent ≡ (before or in_tree)
  unfolding definition.deallocate_refusal refusal_through record_refusal tree.deallocate_refusal
  refusal-split =
      let a : Allocation = allocation_at m t.allocation in
      let never = never_made when names_never_made m (some t) in
      let away = away_from_start when not (eqb address a.address) in
      let kinds = another_kind when not (eqb (kind_number k) (kind_number a.kind)) in
      let sizes = another_size when not (eqb len (size a)) in
      let alignments = another_alignment when not (eqb exponent a.exponent) in
      let dead = dead_allocation when not (eqb (state_number a.state) 1) in
      rw (← live_state a.state)
      (sym (or_assoc never (dead or away or kinds or sizes or alignments) in_tree
      ∙ ap (λ (n : ℕ). never or n) (or-five dead away kinds sizes alignments in_tree)))

  -- refused by the record
  pub refused-before : (r : ℕ) → r ≡ before → (r ≡ 0 → ⊥) → definition.deallocate_refusal m (through address t) k len exponent ≡ r
  refused-before zero e z = absurd (z refl)
  refused-before (suc r) e z = refusal-split ∙ ap (λ (n : ℕ). n or in_tree) (sym e)

  -- and by the tree
  pub refused-in-tree : before ≡ 0 → definition.deallocate_refusal m (through address t) k len exponent ≡ in_tree
  refused-in-tree e = refusal-split ∙ ap (λ (n : ℕ). n or in_tree) e

-- ---- accepted
module _ (p : ThinPointer) {m : Memory} {A P R C : List ℕ} (h : HoldsMarked m A P R C) (made : allocation_of p.provenance < length m) where
  abbrev n : ℕ
  n = allocation_of p.provenance

  dead-record : (q : Starts) → record_of q (after_deallocate_in p (allocation_at m n)) ≡ set (record_of q (allocation_at m n)) 0 2
  unfolding after_deallocate_in
  dead-record q =
      let a : Allocation = allocation_at m n in
      ap (λ (c : ℕ). 2 ∷ kind_number a.kind ∷ a.exponent ∷ a.address ∷ size a ∷ c ∷ q.words ∷ q.nodes ∷ q.codes ∷ []) (visited-length (write_all p a) a.nodes)

  dead-records : set A (n * 9) 2 ≡ held_records (mutate_at n (after_deallocate_in p) m)
  dead-records = ap (λ (l : List ℕ). set l (n * 9) 2) h.trees.allocs ∙ record-state m n made (after_deallocate_in p) 2 dead-record

  dead-codes : held 32768 codes_of (mutate_at n (after_visit (write_all p (allocation_at m n))) m) ≡ held 32768 codes_of (mutate_at n (after_deallocate_in p) m)
  unfolding after_deallocate_in codes_of
  dead-codes =
      let v : Visit = write_all p (allocation_at m n) in
      same_parts 32768 codes_of m n made (after_visit v) (after_deallocate_in p) (visited-part m n h.valid made v) refl

  pub deallocate-accepted : (k : AllocationKind) (len exponent : ℕ) {C' : List ℕ} → C' ≡ held 32768 codes_of (mutate_at n (after_visit (write_all p (allocation_at m n))) m)
      → definition.deallocate_refusal m p k len exponent ≡ 0 → Deallocated p k len exponent m Accepted (set A (n * 9) 2) C'
  unfolding accept_deallocate
  deallocate-accepted k len exponent c e =
      let o = performed p k len exponent m 0 e in
      record {
        reply = ap (λ o. reply_to Nothing o.0) (sym o);
        answers = λ words. ap (λ o. o.0) (sym o);
        allocs = dead-records ∙ ap (λ o. held_records o.1) (sym o);
        codes = c ∙ dead-codes ∙ ap (λ o. held 32768 codes_of o.1) (sym o);
      }

  -- by what the tree's write leaves
  module _ (k : AllocationKind) (len exponent r refused : ℕ) {C' : List ℕ} (w : TreeVisited m n refused (write_all p (allocation_at m n)) r C')
      (e : definition.deallocate_refusal m p k len exponent ≡ refused) where
    pub tree-refused : (r ≡ 0 → ⊥) → Deallocated p k len exponent m (reply_to Nothing (refused_with r)) A C'
    tree-refused z =
        let f : eqb refused 0 ≡ false = ne_eqb refused 0 (λ q. z (w.refusal ∙ q)) in
        deallocate-refused p k len exponent m r z h (w.codes ∙ rw f) (e ∙ sym w.refusal)

    pub tree-accepted : r ≡ 0 → Deallocated p k len exponent m Accepted (set A (n * 9) 2) C'
    tree-accepted z =
        let q : refused ≡ 0 = sym w.refusal ∙ z in
        let f : eqb refused 0 ≡ true = eq-eqb refused 0 q in
        deallocate-accepted k len exponent (w.codes ∙ rw f) (e ∙ q)

-- ---- a pointer of the code, through node `node` of allocation n
module _ (p : code.ThinPointer) {n node : ℕ} (e : p.provenance ≡ via n node) (A : List ℕ) {a : lent_record.Allocation} (q : a ≡ target_in A (provenance_of p.provenance)) where
  pub target-through : a ≡ target_in A (some (record { allocation = n; node = node }))
  target-through = rw e at q

  pub found-through : {m : Memory} {P R C : List ℕ} → HoldsMarked m A P R C → n < length m → FoundMarked m n a P R C
  found-through h made = record {
    records = A;
    trees = h;
    read = target-through ∙ target-record (records-of h) (record { allocation = n; node = node }) made;
  }

module _ (p : code.ThinPointer) {n node : ℕ} (e : p.provenance ≡ via n node) (k : AllocationKind) {kind len exponent : ℕ} (q : kind ≡ kind_number k)
    {m : Memory} {A P R C : List ℕ} (h : HoldsMarked m A P R C) where
  pub refused-through : (r : ℕ) → r ≡ refusal_through (record { allocation = n; node = node }) p.addr kind len exponent m → (r ≡ 0 → ⊥)
      → Deallocated (thin_pointer_of p) k len exponent m (reply_to Nothing (refused_with r)) A C
  refused-through r f z =
      let t : Provenance = record { allocation = n; node = node } in
      rw e
      (deallocate-refused (through p.addr t) k len exponent m r z h h.trees.codes (refused-before p.addr t k len exponent m r (rw q at f) z))

  module _ (f : 0 ≡ refusal_through (record { allocation = n; node = node }) p.addr kind len exponent m) {r : ℕ} {C' : List ℕ} (w : WrittenAll m n node r C') where
    pub prevented-through : (r ≡ 0 → ⊥) → Deallocated (thin_pointer_of p) k len exponent m (reply_to Nothing (refused_with r)) A C'
    prevented-through z =
        let t : Provenance = record { allocation = n; node = node } in
        rw e
        (tree-refused (through p.addr t) h (node_made t p.addr kind len exponent m f).made k len exponent r _ w
        (refused-in-tree p.addr t k len exponent m (sym (rw q at f))) z)

    pub accepted-through : r ≡ 0 → Deallocated (thin_pointer_of p) k len exponent m Accepted (set A (n * 9) 2) C'
    accepted-through z =
        let t : Provenance = record { allocation = n; node = node } in
        rw e
        (tree-accepted (through p.addr t) h (node_made t p.addr kind len exponent m f).made k len exponent r _ w
        (refused-in-tree p.addr t k len exponent m (sym (rw q at f))) z)

pub missing-through : (p : code.ThinPointer) → p.provenance ≡ None → (k : AllocationKind) (len exponent : ℕ) {m : Memory} {A P R C : List ℕ} → HoldsMarked m A P R C
    → Deallocated (thin_pointer_of p) k len exponent m (reply_to Nothing (refused_with 7)) A C
missing-through p e k len exponent {m} h =
    rw e
    (deallocate-refused (record { address = p.addr; provenance = none }) k len exponent m 7 (λ z. omega arith) h h.trees.codes (missing-refused p.addr k len exponent m))
