-- What a retag's tests leave to be known: its refusal is theirs or that of the reads through the parent, and where they refuse nothing there is a place for the child.
use Rattle.retag.specs.declared.Parent.{Parent}
use Rattle.std.specs.Prelude as std
use Rattle.std.specs.Prelude.{if◌then◌else◌, Some}
use Prim.Native.Nat.{ℕ, zero, suc, ◌+◌, ◌-◌, ◌≤◌, ◌<◌}
use mathlib.Core.Path.{◌≡◌, refl, sym, ap, subst, ◌∙◌}
use mathlib.Core.Bool.{Bool, true, false, not, ◌&&◌, ◌||◌, false≢true}
use mathlib.Core.Option.{some}
use mathlib.Core.List.{List, [], ◌∷◌}
use native.Mathlib.Decide.{ℕ_discrete}
use native.Mathlib.Omega.{arith}
use borrow.Author.Tests.{eq-eqb, ne_eqb, leb-true}
use lib.Dec.{eqb, leb, ltb}
use lib.ListN.{length}
use Rattle.definition.specs.Notation.{◌when◌, ◌or◌, sum_of}
use Rattle.definition.specs.Refusal.{never_made, missing_provenance, dead_allocation, out_of_bounds, below_start, size_exceeded}
use Rattle.definition.specs.Permission.{Permission, is_yes}
use Rattle.definition.specs.Memory.{Provenance, ThinPointer, is_live, Allocation, size, Memory, allocation_at, target, offset, was_made, names_never_made, is_outside, check_ptr, exceeds_bounds}
use Rattle.definition.specs.Frame.{entries, State, frame_at}
use Rattle.definition.specs.Retag.{ReborrowSettings, with_child, init_refusal, is_below_start, of_node, entry_bound, exceeds_entries, reborrow_refusal}
use Rattle.definition.proofs.Booleans.{and_left, and_right, not-not-false, or-neither, or_left, or_right, or_assoc, when-none}
use Rattle.definition.proofs.ValidMemory.{Made, was-made}
use Rattle.pointer.specs.Pointer.{via, provenance_of, thin_pointer_of}
use Rattle.pointer.specs.declared.Provenance as naming
use Rattle.pointer.specs.declared.ThinPointer as pointer
use Rattle.tables.specs.declared.Allocation as code
use Rattle.tables.specs.declared.Starts.{Starts}
use Rattle.tables.specs.Held.{Records, Used}
use Rattle.tables.proofs.Lookup.{record_at}
use Rattle.bounds.specs.Bounds.{target_in, Points}
use Rattle.bounds.proofs.Points.{read-address, read-size, points-made, points-read}
use Rattle.parts.specs.declared.Parts.{Parts}
use Rattle.parts.specs.Trees.{parts_in, PartsOf}
use Rattle.parts.proofs.Lent.{parts-read}
use Rattle.retag.specs.Settings.{place_in}
use Rattle.retag.specs.Retag.{Located, bounds_refusal, Fits, Passed}

-- a pointer into allocation n, via a node of it
abbrev pub pointer_at : ℕ → ℕ → ℕ → ThinPointer
pointer_at addr n node = record { address = addr; provenance = some (record { allocation = n; node = node }) }

pub points-at : (p : pointer.ThinPointer) {n node : ℕ} → p.provenance ≡ via n node → thin_pointer_of p ≡ pointer_at p.addr n node
points-at p e = ap (λ q. record { address = p.addr; provenance = provenance_of q }) e

-- ---- where the bytes start: without bytes it does not matter
pub placed : {B : Type 0} (f : ℕ → List Permission → B) → ((k : ℕ) → f 0 [] ≡ f k []) → (address addr : ℕ) (inside : List Permission)
    → f (place_in address addr (length inside)) inside ≡ f (addr - address) inside
placed f e address addr [] = e (addr - address)
placed f e address addr (p ∷ inside) =
    ap (λ (is_zero : Bool). f (if is_zero then 0 else addr - address) (p ∷ inside)) (ne_eqb (length (p ∷ inside)) 0 (λ z. omega arith))

-- ---- 4, 7 to 9, 14 and 15, and then the reads
pub refusal-split : (w : ReborrowSettings) (frame : ℕ) (p : ThinPointer) (s : State)
    → reborrow_refusal w frame p s
    ≡ (bounds_refusal (is_yes w.protected) (length (entries (frame_at s frame))) (length w.inside) p s.memory
    or init_refusal (length (target s.memory p).nodes) (offset (target s.memory p) p) w.inside (with_child w p (target s.memory p)))
unfolding reborrow_refusal bounds_refusal
refusal-split w frame p s =
    let a : Allocation = target s.memory p in
    let r4 : ℕ = never_made when names_never_made s.memory p.provenance in
    let r9 : ℕ = check_ptr a p 0 (length w.inside) in
    let r14 : ℕ = below_start when is_below_start w p a in
    let r15 : ℕ = size_exceeded when (exceeds_bounds s.memory (of_node a) || exceeds_entries w frame s) in
    let r17 : ℕ = init_refusal (length a.nodes) (offset a p) w.inside (with_child w p a) in
    sym (or_assoc r4 (r9 or r14 or r15) r17 ∙ ap (λ (r : ℕ). r4 or r) (or_assoc r9 (r14 or r15) r17 ∙ ap (λ (r : ℕ). r9 or r) (or_assoc r14 r15 r17)))

-- the tests in checking order
pub or-first : (x y : ℕ) → (x ≡ 0 → ⊥) → x ≡ (x or y)
or-first zero y z = absurd (z refl)
or-first (suc x) y z = refl

module _ (is_protected : Bool) (entered len : ℕ) (p : ThinPointer) (m : Memory) where
  abbrev refusal : ℕ
  refusal = bounds_refusal is_protected entered len p m

  pub first-4 : names_never_made m p.provenance ≡ true → 4 ≡ refusal
  unfolding bounds_refusal
  first-4 e = rw e

  module _ (known : names_never_made m p.provenance ≡ false) where
    pub first-9 : (r : ℕ) → r ≡ check_ptr (target m p) p 0 len → (r ≡ 0 → ⊥) → r ≡ refusal
    unfolding bounds_refusal
    first-9 r e z = rw (known, ← e) (or-first r _ z)

    pub first-15 : check_ptr (target m p) p 0 len ≡ 0 → (is_below no_room no_entry : Bool) → is_below ≡ (eqb len 0 && ltb p.address (target m p).address)
        → no_room ≡ exceeds_bounds m (of_node (target m p)) → no_entry ≡ (is_protected && ltb entry_bound (entered + 1))
        → (below_start when is_below or size_exceeded when (no_room || no_entry)) ≡ refusal
    unfolding bounds_refusal
    first-15 check is_below no_room no_entry e14 e15 e64 = rw (known, check, e14, e15, e64)

-- of a pointer into allocation n, which was made, whose record was looked up
module _ {m : Memory} {A : List ℕ} (p : pointer.ThinPointer) {n node : ℕ} (e : p.provenance ≡ via n node) (h : Points m A (provenance_of p.provenance))
    {r : code.Allocation} (t : r ≡ target_in A (provenance_of p.provenance)) where
  target_is : allocation_at m n ≡ target m (thin_pointer_of p)
  target_is = sym (ap (λ t. target m (record { address = p.addr; provenance = provenance_of t })) e)

  q : r ≡ record_at A n
  q = points-read p e h t

  is_made : n < length m
  is_made = points-made p e h

  pub tests_order : (is_protected : Bool) (entered len : ℕ) → 0 ≡ check_ptr (target m (thin_pointer_of p)) (thin_pointer_of p) 0 len → (is_below no_room no_entry : Bool)
      → is_below ≡ (eqb len 0 && ltb p.addr r.address) → no_room ≡ exceeds_bounds m (record { allocations = 0; words = 0; nodes = 1; codes = r.size })
      → no_entry ≡ (is_protected && ltb entry_bound (entered + 1))
      → (below_start when is_below or size_exceeded when (no_room || no_entry)) ≡ bounds_refusal is_protected entered len (thin_pointer_of p) m
  tests_order is_protected entered len check is_below no_room no_entry e14 e15 e64 =
      first-15 is_protected entered len (thin_pointer_of p) m h.made (sym check) is_below no_room no_entry
      (e14 ∙ ap (λ (k : ℕ). eqb len 0 && ltb p.addr k) (read-address h.records is_made q ∙ ap (λ (x : Allocation). x.address) target_is))
      (e15 ∙ ap (λ (k : ℕ). exceeds_bounds m (record { allocations = 0; words = 0; nodes = 1; codes = k })) (read-size h.records is_made q ∙ ap size target_is)) e64

-- ---- what the tests leave to be known
not-outside : (is_zero is_dead outside : Bool) → is_zero ≡ false → (if is_zero then 0 else (missing_provenance when false or dead_allocation when is_dead or out_of_bounds when outside)) ≡ 0
    → outside ≡ false
not-outside true is_dead outside z e = absurd (false≢true (sym z))
not-outside false true outside z e = absurd (omega arith)
not-outside false false outside z e = when-none 8 outside e

module _ (addr n node len : ℕ) (m : Memory) where
  abbrev a : Allocation
  a = allocation_at m n

  abbrev p : ThinPointer
  p = pointer_at addr n node

  -- the bytes are among the allocation's
  record Around : Type 0 where
    above : a.address ≤ addr
    below : addr + len ≤ a.address + size a

  around : (len ≡ 0 → ⊥) → check_ptr a p 0 len ≡ 0 → Around
  unfolding check_ptr
  around long e =
      let lower : Bool = leb (a.address + 0) addr in
      let upper : Bool = leb (addr + len) (a.address + size a) in
      let both : lower && upper ≡ true =
      not-not-false (lower && upper) (not-outside (eqb (0 + len) 0) (not (is_live a.state)) (is_outside a p 0 len) (ne_eqb (0 + len) 0 (λ z. long (omega arith))) e) in
      record {
        above = omega (arith, leb-true (a.address + 0) addr (and_left lower upper both));
        below = leb-true (addr + len) (a.address + size a) (and_right lower upper both);
      }

  pub passed : (is_protected : Bool) (entered : ℕ) → bounds_refusal is_protected entered len p m ≡ 0 → Passed m n node addr len
  unfolding bounds_refusal
  passed is_protected entered e =
      let t : Provenance = record { allocation = n; node = node } in
      let too_much : Bool = exceeds_bounds m (of_node a) || (is_protected && ltb entry_bound (entered + 1)) in
      let r4 : ℕ = never_made when not (was_made m t) in
      let r9 : ℕ = check_ptr a p 0 len in
      let r14 : ℕ = below_start when (eqb len 0 && ltb addr a.address) in
      let r15 : ℕ = size_exceeded when too_much in
      let from9 : (r9 or r14 or r15) ≡ 0 = or_right r4 (r9 or r14 or r15) e in
      let check : r9 ≡ 0 = or_left r9 (r14 or r15) from9 in
      let made : Made m t = was-made m t (not-not-false (was_made m t) (when-none 3 (not (was_made m t)) (or_left r4 (r9 or r14 or r15) e))) in
      record {
        above = λ long. (around long check).above;
        fits =
            record {
              reached =
                  record {
                    made = made.allocation;
                    in_tree = made.node;
                    within =
                        elim (ℕ_discrete len 0) [
                          | yes z ↦ rw (eq-eqb len 0 z) (omega arith)
                          | no z ↦ let i : Around = around z check in rw (ne_eqb len 0 z) (omega (arith, i.above, i.below))
                        ];
                  };
              room = (or-neither (exceeds_bounds m (of_node a)) (is_protected && ltb entry_bound (entered + 1)) (when-none 14 too_much (or_right r14 r15 (or_right r9 (r14 or r15) from9)))).0;
            };
      }

-- ---- of a pointer as the code has it
-- the record that was looked up is the allocation's own
pub own : (p : pointer.ThinPointer) {m : Memory} {A : List ℕ} {n node : ℕ} {a : code.Allocation} {used : Starts} {t : Parts} → Records m A → Located m A (provenance_of p.provenance) n a used t
    → p.provenance ≡ via n node → a ≡ record_at A n
own p r l of = points-read p of (record { records = r; made = l.made }) l.read

-- a provenance that names an allocation and a node that were made, whose record was looked up
module _ {m : Memory} {A : List ℕ} {provenance : std.Option naming.Provenance} {n node : ℕ} (e : provenance ≡ via n node) (h : Points m A (provenance_of provenance)) {r : code.Allocation}
    (t : r ≡ target_in A (provenance_of provenance)) where
  pub named-made : n < length m
  named-made = points-made (record { addr = 0; provenance = provenance }) e h

  pub named-read : r ≡ record_at A n
  named-read = points-read (record { addr = 0; provenance = provenance }) e h t

  pub named-located : {used : Starts} {parts : Parts} → Used m (sum_of size m) used.nodes used.codes → parts ≡ parts_in r → Located m A (provenance_of provenance) n r used parts
  named-located u q = record {
    made = h.made;
    read = t;
    used = u;
    part = subst (λ (x : Parts). PartsOf m n x) (sym q) (parts-read h.records named-made named-read);
  }

-- of a node that was located, where the inside bytes start
pub place-at : (p : pointer.ThinPointer) {m : Memory} {A : List ℕ} {n node : ℕ} {a : code.Allocation} {used : Starts} {t : Parts} → Records m A → Located m A (provenance_of p.provenance) n a used t
    → p.provenance ≡ via n node → n < length m → (len : ℕ) {from : ℕ} → from ≡ place_in a.address p.addr len → from ≡ place_in (allocation_at m n).address p.addr len
place-at p r l of made len q = q ∙ ap (λ (k : ℕ). place_in k p.addr len) (read-address r made (own p r l of))

pub passed-at : (m : Memory) (p : pointer.ThinPointer) {n node : ℕ} → p.provenance ≡ via n node → (is_protected : Bool) (entered len : ℕ)
    → 0 ≡ bounds_refusal is_protected entered len (thin_pointer_of p) m → Passed m n node p.addr len
passed-at m p {n} {node} e is_protected entered len z =
    passed p.addr n node len m is_protected entered (ap (λ (q : ThinPointer). bounds_refusal is_protected entered len q m) (sym (points-at p e)) ∙ sym z)

module _ {m : Memory} {n node addr len from : ℕ} (h : Passed m n node addr len) (e : from ≡ place_in (allocation_at m n).address addr len) where
  pub fits-at : Fits m n node from len
  fits-at = subst (λ (k : ℕ). Fits m n node k len) (sym e) h.fits

-- ---- the parent that is found for the provenance of a pointer
pub of_parent : {A : List ℕ} {q : std.Option naming.Provenance} {t : naming.Provenance} → q ≡ Some t → (parent : Parent)
    → (parent.number ≡ t.allocation) × (parent.node ≡ t.node) × ((m : Memory) → Records m A → Located m A (provenance_of (Some t)) parent.number parent.allocation parent.used parent.parts)
    → (parent.number ≡ t.allocation) × (q ≡ via parent.number parent.node)
    × ((m : Memory) → Records m A → Located m A (provenance_of q) parent.number parent.allocation parent.used parent.parts)
of_parent {A} {q} {t} e parent f = (
  f.0,
  e ∙ (λ i. via (sym f.0 i) (sym f.1 i)),
  λ m r. subst (λ (x : std.Option naming.Provenance). Located m A (provenance_of x) parent.number parent.allocation parent.used parent.parts) (sym e) (f.2 m r),
)
