-- What the records say of a provenance, and of the allocation that a pointer points into; which of them is looked up.
use Prim.Native.Nat.{ℕ, ◌+◌, ◌*◌, ◌^◌, ◌<◌}
use mathlib.Core.Path.{◌≡◌, refl, sym, ap, ◌∙◌}
use mathlib.Core.Bool.{Bool, true, false, not, ◌&&◌}
use mathlib.Core.List.{List}
use mathlib.Core.Option.{Option, some}
use native.Mathlib.Omega.{arith}
use borrow.Author.Tests.{eq-eqb, ne_eqb, le-leb, lt-ltb, ltb-true, ltb-false, not-false}
use lib.Dec.{eqb, leb, ltb}
use lib.ListN.{length, get_or}
use Rattle.definition.specs.Notation.{◌when◌}
use Rattle.definition.specs.Memory.{Provenance, ThinPointer, has_none, is_live, Allocation, size, kind_number, node_count, Memory, allocation_at, was_made, names_never_made, is_outside, check_ptr, target}
use Rattle.definition.proofs.ValidMemory.{was-made}
use Rattle.definition.proofs.Places.{valid-at}
use Rattle.pointer.specs.Pointer.{via, provenance_of, thin_pointer_of}
use Rattle.pointer.specs.declared.ThinPointer as pointer
use Rattle.std.specs.Prelude.{None}
use Rattle.tables.specs.declared.Allocation as code
use Rattle.tables.specs.Held.{Records}
use Rattle.tables.proofs.Lookup.{state-at, live_state, kind_at, address-at, size-at, nodes-at, zero-behind, record_at}
use Rattle.bounds.specs.Bounds.{place_of, target_in, Points}
use Rattle.bounds.proofs.Tests.{leb-ltb}

-- ---- 4: behind the last allocation the records have no nodes
module _ {m : Memory} {A : List ℕ} (h : Records m A) where
  never-test : (a n : ℕ) → leb (get_or A (a * 9 + 5) 0) n ≡ not (was_made m (record { allocation = a; node = n }))
  never-test a n = go (ltb a (length m)) refl
    where
      go : (t : Bool) → ltb a (length m) ≡ t → leb (get_or A (a * 9 + 5) 0) n ≡ not (t && ltb n (node_count (allocation_at m a)))
      go true e = ap (λ (k : ℕ). leb k n) (nodes-at h a (ltb-true a (length m) e)) ∙ leb-ltb (node_count (allocation_at m a)) n
      go false e = ap (λ (k : ℕ). leb k n) (zero-behind h (a * 9 + 5) (omega (arith, ltb-false a (length m) e))) ∙ le-leb 0 n (omega arith)

-- ---- 7 to 9, in checking order
module _ (x : Allocation) (p : ThinPointer) (back ahead : ℕ) where
  pub check-zero : back ≡ 0 → ahead ≡ 0 → check_ptr x p back ahead ≡ 0
  unfolding check_ptr
  check-zero e f = rw (e, f)

  module _ (long : back + ahead ≡ 0 → ⊥) where
    check-missing : has_none p.provenance ≡ true → check_ptr x p back ahead ≡ 7
    unfolding check_ptr
    check-missing e = rw (ne_eqb (back + ahead) 0 long, e)

    check-dead : has_none p.provenance ≡ false → is_live x.state ≡ false → check_ptr x p back ahead ≡ 8
    unfolding check_ptr
    check-dead e d = rw (ne_eqb (back + ahead) 0 long, e, d)

    check-live : has_none p.provenance ≡ false → is_live x.state ≡ true → check_ptr x p back ahead ≡ 9 when is_outside x p back ahead
    unfolding check_ptr
    check-live e d = rw (ne_eqb (back + ahead) 0 long, e, d)

-- ---- what is read of an allocation
read-never : {m : Memory} {A : List ℕ} → Records m A → (a n : ℕ) {r : code.Allocation} → r ≡ record_at A a
    → leb r.nodes n ≡ not (was_made m (record { allocation = a; node = n }))
read-never h a n q = ap (λ (x : code.Allocation). leb x.nodes n) q ∙ never-test h a n

module _ {m : Memory} {A : List ℕ} (h : Records m A) {a : ℕ} (made : a < length m) {r : code.Allocation} (q : r ≡ record_at A a) where
  pub read-state : eqb r.state 1 ≡ is_live (allocation_at m a).state
  read-state = ap (λ (x : code.Allocation). eqb x.state 1) q ∙ ap (λ (k : ℕ). eqb k 1) (state-at h a made) ∙ live_state (allocation_at m a).state

  pub read-kind : r.kind ≡ kind_number (allocation_at m a).kind
  read-kind = ap (λ (x : code.Allocation). x.kind) q ∙ kind_at h a made

  pub read-address : r.address ≡ (allocation_at m a).address
  read-address = ap (λ (x : code.Allocation). x.address) q ∙ address-at h a made

  pub read-size : r.size ≡ size (allocation_at m a)
  read-size = ap (λ (x : code.Allocation). x.size) q ∙ size-at h a made

  pub read_live : r.state ≡ 1 → is_live (allocation_at m a).state ≡ true
  read_live e = sym read-state ∙ eq-eqb r.state 1 e

  pub read-dead : (r.state ≡ 1 → ⊥) → is_live (allocation_at m a).state ≡ false
  read-dead e = sym read-state ∙ ne_eqb r.state 1 e

  pub read-space : r.address + r.size < 2 ^ 64
  read-space = rw (read-address, read-size) (valid-at m a h.valid made).in_space

-- ---- the record that is looked up
-- that of the allocation, where it was made
pub target-record : {m : Memory} {A : List ℕ} → Records m A → (t : Provenance) → t.allocation < length m → target_in A (some t) ≡ record_at A t.allocation
unfolding target_in place_of
target-record {m} h t made = rw (lt-ltb t.allocation 128 (omega (arith, h.valid.bounded.allocations)))

-- and where there is room for it
pub target-never : {m : Memory} {A : List ℕ} → Records m A → (a n : ℕ) → a < 128 → {r : code.Allocation} → r ≡ target_in A (some (record { allocation = a; node = n }))
    → leb r.nodes n ≡ not (was_made m (record { allocation = a; node = n }))
unfolding target_in place_of
target-never {m} {A} h a n l q = read-never h a n (q ∙ rw (lt-ltb a 128 l))

-- whichever it is, no address behind its bytes passes 2^64
space-at : {m : Memory} {A : List ℕ} → Records m A → (k : ℕ) → (record_at A k).address + (record_at A k).size < 2 ^ 64
space-at {m} {A} h k = go (ltb k (length m)) refl
  where
    go : (t : Bool) → ltb k (length m) ≡ t → get_or A (k * 9 + 3) 0 + get_or A (k * 9 + 4) 0 < 2 ^ 64
    go true e = read-space h (ltb-true k (length m) e) {r = record_at A k} refl
    go false e =
        let behind = ltb-false k (length m) e in
        rw (zero-behind h (k * 9 + 3) (omega (arith, behind)), zero-behind h (k * 9 + 4) (omega (arith, behind))) (omega arith)

pub target-space : {m : Memory} {A : List ℕ} → Records m A → (t : Option Provenance) {r : code.Allocation} → r ≡ target_in A t → r.address + r.size < 2 ^ 64
unfolding target_in
target-space h t q = rw q (space-at h (place_of t))

-- ---- a pointer that has provenance
module _ {m : Memory} {A : List ℕ} (p : pointer.ThinPointer) {a n : ℕ} (e : p.provenance ≡ via a n) (h : Points m A (provenance_of p.provenance)) where
  pub points-made : a < length m
  points-made =
      let k : names_never_made m (provenance_of (via a n)) ≡ false = rw e at h.made in
      (was-made m (record { allocation = a; node = n }) (not-false (was_made m (record { allocation = a; node = n })) k)).allocation

  pub points-read : {r : code.Allocation} → r ≡ target_in A (provenance_of p.provenance) → r ≡ record_at A a
  points-read q = q ∙ rw e (target-record h.records (record { allocation = a; node = n }) points-made)

  module _ (back ahead : ℕ) (long : back + ahead ≡ 0 → ⊥) {r : code.Allocation} (q : r ≡ record_at A a) where
    pub points-dead : (r.state ≡ 1 → ⊥) → 8 ≡ check_ptr (target m (thin_pointer_of p)) (thin_pointer_of p) back ahead
    points-dead s = rw e (sym (check-dead _ _ back ahead long refl (read-dead h.records points-made q s)))

    pub points-live : r.state ≡ 1 → {t : Bool} → t ≡ not (leb (r.address + back) p.addr && leb (p.addr + ahead) (r.address + r.size))
        → check_ptr (target m (thin_pointer_of p)) (thin_pointer_of p) back ahead ≡ 9 when t
    points-live s o =
        rw (e, o, read-address h.records points-made q, read-size h.records points-made q)
        (check-live _ _ back ahead long refl (read_live h.records points-made q s))

pub points_none : (m : Memory) (p : pointer.ThinPointer) (back ahead : ℕ) → p.provenance ≡ None → (back + ahead ≡ 0 → ⊥)
    → 7 ≡ check_ptr (target m (thin_pointer_of p)) (thin_pointer_of p) back ahead
points_none m p back ahead e long = rw e (sym (check-missing _ _ back ahead long refl))
