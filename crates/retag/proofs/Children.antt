-- The reads made through the parent, and then the child put in as its own read leaves it: what the definition's reborrow leaves.
use Rattle.std.specs.Prelude.{if◌then◌else◌}
use Prim.Native.Nat.{ℕ}
use mathlib.Core.Path.{◌≡◌, refl, sym, ap, ap₂, subst, ◌∙◌}
use mathlib.Core.List.{List, [], ◌∷◌, ◌++◌, map}
use native.Mathlib.Omega.{arith}
use borrow.Author.Tests.{eq-eqb, ne_eqb}
use lib.Dec.{eqb}
use lib.ListN.{length, replicate, length-map}
use Rattle.definition.specs.Notation.{◌or◌, mutate_at, write_at}
use Rattle.definition.specs.Permission.{Permission, next, permission, is_yes}
use Rattle.definition.specs.Permission.AccessKind.{Read}
use Rattle.definition.specs.Permission.NodeRelation.{Local}
use Rattle.definition.specs.Permission as permissions
use Rattle.definition.specs.Tree.{Node, parents, Visit, visited}
use Rattle.definition.specs.Layout.{FreezeMask}
use Rattle.definition.specs.Memory.{ThinPointer, Allocation, changed, size, Memory, no_allocation, allocation_at, target, offset, node_count, exceeds_bounds}
use Rattle.definition.specs.Frame.{State}
use Rattle.definition.specs.Retag.{ReborrowSettings, child_node, with_child, init_refusal, after_init, of_node, reborrow_refusal, after_reborrow_in}
use Rattle.definition.specs.Valid.{Valid}
use Rattle.definition.proofs.Lists.{mutate-twice}
use Rattle.definition.proofs.Places.{mutate-same, valid-at}
use Rattle.definition.proofs.Trees.{Parents, valid-tree}
use Rattle.definition.proofs.Visits.{visited-length}
use Rattle.definition.proofs.Retags.{reads_refusal, reads_visit, reads-at-once, child-readable, settings_after_init, reads-refusal-after, reads-visit-after, retag-refusal, reborrowed-in}
use Rattle.definition.proofs.Writes.{write-none}
use Rattle.permission.specs.Codes.{protector, safe_pointer}
use Rattle.pointer.specs.Pointer.{via, thin_pointer_of}
use Rattle.pointer.specs.declared.ThinPointer as pointer
use Rattle.tables.specs.Encoding.{protector_number, codes_of, held}
use Rattle.tables.specs.Held.{with_node, Trees, NodeFits}
use Rattle.retag.specs.declared.ReborrowSettings as code
use Rattle.retag.specs.Settings.{settings_of, inside_codes, place_in, child_at}
use Rattle.parts.specs.Trees.{HoldsMarked, after_visit, TreeVisited}
use Rattle.parts.proofs.Afterwards.{there-after, made_after, room_after, holds_after}
use Rattle.retag.specs.Retag.{bounds_refusal, reads_at, after_reads, Fits, Passed, Tested, Added, Asked}
use Rattle.retag.proofs.Codes.{inside-length, inside-permissions, row-of-child, row-long}
use Rattle.retag.proofs.Tests.{pointer_at, points-at, placed, refusal-split, or-first, passed-at}

module _ (settings : code.ReborrowSettings) (mask : FreezeMask) {codes : List ℕ} (e : codes ≡ inside_codes settings mask) (addr n node : ℕ) (m : Memory) (valid : Valid m)
    (h : Passed m n node addr (length codes)) where
  abbrev w : ReborrowSettings
  w = settings_of settings mask

  abbrev p : ThinPointer
  p = pointer_at addr n node

  abbrev a : Allocation
  a = allocation_at m n

  tree : Parents (parents a.nodes)
  tree = valid-tree a (valid-at m n valid h.fits.reached.made)

  module _ {from : ℕ} (place : from ≡ place_in a.address addr (length codes)) where
    -- ---- where the bytes start
    at_place : {B : Type 0} (f : ℕ → List Permission → B) → ((k : ℕ) → f 0 [] ≡ f k []) → (inside : List Permission) → length inside ≡ length codes → f from inside ≡ f (offset a p) inside
    at_place f none inside long =
        ap (λ (k : ℕ). f k inside) (place ∙ ap (place_in a.address addr) (sym long)) ∙ placed f none a.address addr inside

    -- ---- the reads that are tested
    pub reads-refusal : init_refusal (length a.nodes) (offset a p) w.inside (with_child w p a) ≡ reads_refusal node from (map permission codes) a.nodes
    unfolding reads_refusal
    reads-refusal =
        retag-refusal w p a tree h.fits.reached.in_tree
        (child-readable (safe_pointer settings.pointer) (protector settings.protected) mask settings.freeze p a)
        ∙ sym (at_place (λ k inside. reads_refusal node k inside a.nodes) (λ k. refl) w.inside (sym (inside-length settings mask e)))
        ∙ sym (reads-refusal-after node from w.inside a.nodes)
        ∙ ap (λ (inside : List Permission). reads_refusal node from inside a.nodes) (sym (inside-permissions settings mask e))

    -- ---- the reads that are made
    none_read : (k : ℕ) → visited (reads_visit node 0 []) a.nodes ≡ visited (reads_visit node k []) a.nodes
    unfolding after_init
    none_read k = sym (reads-at-once node 0 [] a.nodes) ∙ reads-at-once node k [] a.nodes

    reads-are : visited (reads_visit node from (map permission codes)) a.nodes ≡ visited (reads_visit node (offset a p) w.inside) a.nodes
    reads-are =
        ap (λ (inside : List Permission). visited (reads_visit node from inside) a.nodes) (inside-permissions settings mask e)
        ∙ ap (λ (v : Visit). visited v a.nodes) (reads-visit-after node from w.inside)
        ∙ at_place (λ k inside. visited (reads_visit node k inside) a.nodes) none_read w.inside (sym (inside-length settings mask e))

    -- ---- the child
    child-is : {bytes : ℕ} → bytes ≡ size a → child_at (settings_after_init w) node from bytes ≡ child_node (settings_after_init w) p a
    unfolding child_node
    child-is long =
        ap (λ (row : List Permission). record { parent = node; protected = w.protected; permissions = row })
        (ap (λ (k : ℕ). write_at from (settings_after_init w).inside (replicate k w.outside)) long
        ∙ at_place (λ k inside. write_at k inside (replicate (size a) w.outside)) (λ k. write-none 0 _ ∙ sym (write-none k _)) (settings_after_init w).inside
        (length-map w.inside (next Read Local) ∙ sym (inside-length settings mask e)))

    pub reborrowed : {bytes : ℕ} → bytes ≡ size a → {A P R C : List ℕ}
        → Trees (mutate_at n (with_node (child_at (settings_after_init w) node from bytes)) (after_reads m n node addr codes)) A P R C → Trees (mutate_at n (after_reborrow_in w p) m) A P R C
    reborrowed {bytes} long {A} {P} {R} {C} t =
        let reads : Visit = reads_at m n node addr codes in
        let child : Node = child_at (settings_after_init w) node from bytes in
        let same : reads_visit node from (map permission codes) ≡ reads = ap (λ (k : ℕ). reads_visit node k (map permission codes)) place in
        let both : with_node child (after_visit reads a) ≡ after_reborrow_in w p a =
        ap₂ (λ (nodes : List Node) (x : Node). changed a a.state a.words (nodes ++ (x ∷ []))) (ap (λ (v : Visit). visited v a.nodes) (sym same) ∙ reads-are) (child-is long)
        ∙ sym (reborrowed-in w p a tree h.fits.reached.in_tree) in
        subst (λ (m' : Memory). Trees m' A P R C)
        (mutate-twice n (with_node child) (after_visit reads) m ∙ mutate-same (λ x. with_node child (after_visit reads x)) (after_reborrow_in w p) no_allocation m n both) t

-- of a pointer as the code has it
pub added : (settings : code.ReborrowSettings) (mask : FreezeMask) {codes : List ℕ} (e : codes ≡ inside_codes settings mask) (q : pointer.ThinPointer) {n node : ℕ} → q.provenance ≡ via n node
    → (m : Memory) (valid : Valid m) (h : Passed m n node q.addr (length codes)) {from : ℕ} (place : from ≡ place_in (allocation_at m n).address q.addr (length codes))
    → {bytes : ℕ} (long : bytes ≡ size (allocation_at m n)) {number : ℕ} (last : number ≡ node_count (allocation_at m n)) {A P R C : List ℕ}
    → Trees (mutate_at n (with_node (child_at (settings_after_init (settings_of settings mask)) node from bytes)) (after_reads m n node q.addr codes)) A P R C
    → Added (settings_of settings mask) (thin_pointer_of q) m n number A P R C
added settings mask e q {n} {node} at m valid h place long last {A} {P} {R} {C} t =
    record {
      number = last;
      trees =
          subst (λ (p : ThinPointer). Trees (mutate_at n (after_reborrow_in (settings_of settings mask) p) m) A P R C) (sym (points-at q at))
          (reborrowed settings mask e q.addr n node m valid h place long t);
    }

-- ---- what the tests and the reads leave
module _ {m : Memory} {n node addr : ℕ} (codes : List ℕ) {answer : ℕ} {C : List ℕ} where
  pub tested-read : Passed m n node addr (length codes) → {from : ℕ} → from ≡ place_in (allocation_at m n).address addr (length codes)
      → {refused : ℕ} → TreeVisited m n refused (reads_visit node from (map permission codes)) answer C → Tested m n node addr codes answer C
  tested-read h place t =
      record {
        passed = λ z. h;
        left =
            t.codes
            ∙ ap₂ (λ (r k : ℕ). held 32768 codes_of (if eqb r 0 then mutate_at n (after_visit (reads_visit node k (map permission codes))) m else m)) (sym t.refusal) place;
      }

  pub tested-kept : Tested m n node addr codes answer C → (answer ≡ 0 → ⊥) → C ≡ held 32768 codes_of m
  tested-kept t z = rw (ne_eqb answer 0 z) at t.left

  pub tested-made : Tested m n node addr codes answer C → answer ≡ 0 → C ≡ held 32768 codes_of (after_reads m n node addr codes)
  tested-made t z = rw (eq-eqb answer 0 z) at t.left

-- with the reads made the buffers hold the memory after them
pub read_after : {m : Memory} {n node addr : ℕ} (codes : List ℕ) {A P R C C' : List ℕ} → HoldsMarked m A P R C → Tested m n node addr codes 0 C' → HoldsMarked (after_reads m n node addr codes) A P R C'
read_after {m} {n} {node} {addr} codes h t = holds_after (reads_at m n node addr codes) m n (t.passed refl).fits.reached.made h (tested-made codes t refl)

-- ---- a visit of the tree leaves room for the child
pub fits_after : (v : Visit) {m : Memory} {n node from len : ℕ} → Fits m n node from len → Fits (mutate_at n (after_visit v) m) n node from len
fits_after v {m} {n} f =
    let a : Allocation = allocation_at m n in
    let made = f.reached.made in
    let there = there-after v m n made in
    record {
      reached = record {
        made = made_after v m n made;
        in_tree = omega (arith, ap node_count there, visited-length v a.nodes, f.reached.in_tree);
        within = omega (arith, ap size there, f.reached.within);
      };
      room = ap (λ (x : Allocation). exceeds_bounds (mutate_at n (after_visit v) m) (of_node x)) there ∙ room_after v m n made (of_node a) ∙ f.room;
    }

-- ---- what the tables ask of the child
pub child_fits : (settings : code.ReborrowSettings) (mask : FreezeMask) {m : Memory} {n node from bytes : ℕ} {A P R C codes : List ℕ} {outside number : ℕ}
    → HoldsMarked m A P R C → Fits m n node from (length codes) → bytes ≡ size (allocation_at m n) → codes ≡ inside_codes settings mask
    → outside ≡ permissions.code (settings_of settings mask).outside → number ≡ protector_number (protector settings.protected)
    → NodeFits m n (child_at (settings_after_init (settings_of settings mask)) node from bytes) A P R C node number (write_at from codes (replicate bytes outside))
child_fits settings mask {m} {n} {node} {from} {bytes} h f long e o k =
    let row_is = row-of-child settings mask node from bytes e o in
    record {
      valid = h.valid;
      trees = h.trees;
      made = f.reached.made;
      is_parent = refl;
      is_protector = k;
      is_row = row_is;
      wide = ap length row_is ∙ row-long (settings_after_init (settings_of settings mask)) node from bytes ∙ long;
      room = f.room;
    }

-- ---- the refusals
module _ (settings : code.ReborrowSettings) (mask : FreezeMask) {codes : List ℕ} (frame entered : ℕ) (s : State) (asked : Asked s frame entered settings mask codes)
    (q : pointer.ThinPointer) where
  abbrev tests : ℕ
  tests = bounds_refusal (is_yes (protector settings.protected)) entered (length codes) (thin_pointer_of q) s.memory

  abbrev reads_of : ThinPointer → ℕ
  reads_of p =
      let a = target s.memory p in
      init_refusal (length a.nodes) (offset a p) (settings_of settings mask).inside (with_child (settings_of settings mask) p a)

  refusal_is : reborrow_refusal (settings_of settings mask) frame (thin_pointer_of q) s ≡ (tests or reads_of (thin_pointer_of q))
  refusal_is =
      refusal-split (settings_of settings mask) frame (thin_pointer_of q) s
      ∙ ap₂ (λ (k len : ℕ). bounds_refusal (is_yes (protector settings.protected)) k len (thin_pointer_of q) s.memory or reads_of (thin_pointer_of q))
      (sym asked.entered) (sym (inside-length settings mask asked.inside))

  pub refused-by-tests : (r : ℕ) → r ≡ tests → (r ≡ 0 → ⊥) → r ≡ reborrow_refusal (settings_of settings mask) frame (thin_pointer_of q) s
  refused-by-tests r t z = or-first r (reads_of (thin_pointer_of q)) z ∙ ap (λ (k : ℕ). k or reads_of (thin_pointer_of q)) t ∙ sym refusal_is

  pub refused-by-reads : {n node from : ℕ} → q.provenance ≡ via n node → Valid s.memory → 0 ≡ tests → from ≡ place_in (allocation_at s.memory n).address q.addr (length codes)
      → reads_refusal node from (map permission codes) (allocation_at s.memory n).nodes ≡ reborrow_refusal (settings_of settings mask) frame (thin_pointer_of q) s
  refused-by-reads {n} {node} e valid t place =
      sym
      (refusal_is ∙ ap (λ (k : ℕ). k or reads_of (thin_pointer_of q)) (sym t) ∙ ap reads_of (points-at q e)
      ∙ reads-refusal settings mask asked.inside q.addr n node s.memory valid (passed-at s.memory q e (is_yes (protector settings.protected)) entered (length codes) t) place)
