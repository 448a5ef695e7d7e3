-- Two accesses, each a load or a store, that are independent: both loads, or their ranges lie apart, or one has no length. For any memory.
--     refused-same      the second is refused, under the same number, or accepted, as it would be without the first
--     answer-same       and gives the same words
--     memory-same       the same memory is left in either order
--     again             a load that is accepted, made again directly after, changes nothing more
use Rattle.std.specs.Prelude.{if◌then◌else◌}
use Prim.Native.Nat.{ℕ, zero, suc, ◌+◌, ◌≤◌, ◌<◌}
use mathlib.Core.Path.{◌≡◌, refl, sym, ap, ap₂, subst, ◌∙◌}
use mathlib.Core.Bool.{Bool, true, false, not, ◌&&◌}
use mathlib.Core.Option.{Option, none, some}
use mathlib.Core.List.{List, []}
use native.Mathlib.Decide.{ℕ_discrete}
use native.Mathlib.Omega.{arith}
use lib.Dec.{eqb, leb, ltb}
use borrow.Author.Tests.{eq-eqb, ne_eqb, leb-true, ltb-true, not-false}
use lib.ListN.{length, get_or, take, drop}
use Rattle.definition.specs.Notation.{◌when◌, ◌or◌, mutate_at, write_at, in_range}
use Rattle.definition.specs.Refusal.{never_made, misaligned, missing_provenance, dead_allocation, out_of_bounds}
use Rattle.definition.specs.Permission.{AccessKind}
use Rattle.definition.specs.Permission.AccessKind.{Read, Write}
use Rattle.definition.specs.Tree.{Node, visit_refusal}
use Rattle.definition.specs.Memory.{Memory, Allocation, no_allocation, size, Provenance, ThinPointer, Answer, gives_words, unless_refused, was_made, names_never_made, has_none, is_live, is_misaligned, allocation_of, target, offset, is_outside, check_ptr, MemoryAccess, visit_of, access_refusal_in, access_refusal, after_access_in, after_access, loaded_words, accept_access, perform_access}
use Rattle.definition.proofs.Booleans.{and_left, and_right, or_later, or_left, or_right, when-none}
use Rattle.definition.proofs.Permissions.{Calm}
use Rattle.definition.proofs.Lists.{mutate-length, mutate-kept, mutate-commute, mutate-again}
use Rattle.definition.proofs.Writes.{write-none, write-length, write-commute, part-before, part-behind}
use Rattle.definition.proofs.Visits.{visited-length, visit-refused, visited-commute, visited-again}

-- ---- independent accesses
abbrev pub from : MemoryAccess → ℕ
from t = t.pointer.address

abbrev pub Empty : MemoryAccess → Type 0
Empty t = t.len ≡ 0

pub data Aside (t u : MemoryAccess) : Type 0 where
  reads : t.kind ≡ Read → u.kind ≡ Read → t.bytes ≡ [] → u.bytes ≡ [] → Aside t u
  before : from t + t.len ≤ from u → Aside t u
  behind : from u + u.len ≤ from t → Aside t u

pub turned : (t u : MemoryAccess) → Aside t u → Aside u t
turned t u (reads a b c d) = reads b a d c
turned t u (before h) = behind h
turned t u (behind h) = before h

-- a store's bytes are as many as its length says
abbrev pub Fits : MemoryAccess → Type 0
Fits t = length t.bytes ≤ t.len

-- what an access comes to under a refusal
abbrev outcome : ℕ → MemoryAccess → Memory → Answer × Memory
outcome r x m = unless_refused r m (accept_access x m)

-- some bytes that pass the bounds test lie inside a live allocation
pub record InBounds (a : Allocation) (p : ThinPointer) (n : ℕ) : Type 0 where
  pub live : is_live a.state ≡ true
  pub start : a.address ≤ p.address
  pub end : p.address + n ≤ a.address + size a

pub in_bounds_lem : (a : Allocation) (p : ThinPointer) (n : ℕ) → (n ≡ 0 → ⊥) → check_ptr a p 0 n ≡ 0 → InBounds a p n
unfolding check_ptr
in_bounds_lem a p n z e =
    let r7 : ℕ = missing_provenance when has_none p.provenance in
    let r8 : ℕ = dead_allocation when not (is_live a.state) in
    let r9 : ℕ = out_of_bounds when is_outside a p 0 n in
    let h : (r7 or r8 or r9) ≡ 0 = rw (ne_eqb (0 + n) 0 (λ q. z (omega arith))) at e in
    let h8 : (r8 or r9) ≡ 0 = or_right r7 (r8 or r9) h in
    let start : Bool = leb (a.address + 0) p.address in
    let end : Bool = leb (p.address + n) (a.address + size a) in
    let o : start && end ≡ true = not-false (start && end) (when-none 8 (is_outside a p 0 n) (or_right r8 r9 h8)) in
    let l : a.address + 0 ≤ p.address = leb-true (a.address + 0) p.address (and_left start end o) in
    record {
      live = not-false (is_live a.state) (when-none 7 (not (is_live a.state)) (or_left r8 r9 h8));
      start = omega arith;
      end = leb-true (p.address + n) (a.address + size a) (and_right start end o);
    }

-- ---- one byte
in_range-true : (f n b : ℕ) → in_range f n b ≡ true → (f ≤ b) × (b < f + n)
in_range-true f n b e = (leb-true f b (and_left (leb f b) (ltb b (f + n)) e), ltb-true b (f + n) (and_right (leb f b) (ltb b (f + n)) e))

abbrev at-if : Bool → AccessKind → Option AccessKind
at-if p x = if p then some x else none

calm-reads : (p q : Bool) → Calm (at-if p Read) (at-if q Read)
calm-reads true true = tt
calm-reads true false = tt
calm-reads false q = tt

calm-apart : (p q : Bool) (x y : AccessKind) → (p ≡ true → q ≡ true → ⊥) → Calm (at-if p x) (at-if q y)
calm-apart true true x y h = absurd (h refl refl)
calm-apart true false x y h = tt
calm-apart false q x y h = tt

module _ (t u : MemoryAccess) (a : Allocation) (it : a.address ≤ from t) (iu : a.address ≤ from u) where
  pub calm-visits : Aside t u → (b : ℕ) → Calm (at-if (in_range (offset a t.pointer) t.len b) t.kind) (at-if (in_range (offset a u.pointer) u.len b) u.kind)
  calm-visits (reads x y _ _) b = rw (x, y) (calm-reads (in_range (offset a t.pointer) t.len b) (in_range (offset a u.pointer) u.len b))
  calm-visits (before h) b =
      calm-apart (in_range (offset a t.pointer) t.len b) (in_range (offset a u.pointer) u.len b) t.kind u.kind
      (λ p q.
      let c = in_range-true (offset a t.pointer) t.len b p in
      let d = in_range-true (offset a u.pointer) u.len b q in
      omega arith)
  calm-visits (behind h) b =
      calm-apart (in_range (offset a t.pointer) t.len b) (in_range (offset a u.pointer) u.len b) t.kind u.kind
      (λ p q.
      let c = in_range-true (offset a t.pointer) t.len b p in
      let d = in_range-true (offset a u.pointer) u.len b q in
      omega arith)

  -- the words: of a load after a store, and of two stores
  words-kept : Fits t → Aside t u
      → take u.len (drop (offset a u.pointer) (write_at (offset a t.pointer) t.bytes a.words)) ≡ take u.len (drop (offset a u.pointer) a.words)
  words-kept f (reads _ _ x _) = rw (x, write-none)
  words-kept f (before h) = part-behind (offset a u.pointer) u.len (offset a t.pointer) t.bytes a.words (omega arith)
  words-kept f (behind h) = part-before (offset a u.pointer) u.len (offset a t.pointer) t.bytes a.words (omega arith)

  words-commute : Fits t → Fits u → Aside t u
      → write_at (offset a u.pointer) u.bytes (write_at (offset a t.pointer) t.bytes a.words) ≡ write_at (offset a t.pointer) t.bytes (write_at (offset a u.pointer) u.bytes a.words)
  words-commute f g (reads _ _ x y) = rw (x, y) (simp write-none)
  words-commute f g (before h) = write-commute (offset a t.pointer) t.bytes (offset a u.pointer) u.bytes a.words (omega arith)
  words-commute f g (behind h) = sym (write-commute (offset a u.pointer) u.bytes (offset a t.pointer) t.bytes a.words (omega arith))

-- ---- one allocation
module _ (t u : MemoryAccess) (a : Allocation) where
  bounds-kept : check_ptr (after_access_in t a) u.pointer 0 u.len ≡ check_ptr a u.pointer 0 u.len
  unfolding check_ptr after_access_in
  bounds-kept = rw (write-length (offset a t.pointer) t.bytes a.words)

  -- the refusals of the tree
  abbrev in_tree : Allocation → ℕ
  in_tree x = if eqb u.len 0 then 0 else visit_refusal (visit_of u x) x.nodes

  tree-kept : a.address ≤ from t → ((Empty u → ⊥) → Aside t u) → check_ptr a u.pointer 0 u.len ≡ 0 → in_tree (after_access_in t a) ≡ in_tree a
  unfolding after_access_in
  tree-kept it ind e =
      elim (ℕ_discrete u.len 0) [
        | yes z ↦ rw (eq-eqb u.len 0 z)
        | no z ↦
            rw (ne_eqb u.len 0 z)
            (visit-refused (visit_of t a) (visit_of u a)
            (calm-visits t u a it (in_bounds_lem a u.pointer u.len z e).start (ind z)) a.nodes)
      ]

  pub refusal-kept : a.address ≤ from t → ((Empty u → ⊥) → Aside t u) → access_refusal_in u (after_access_in t a) ≡ access_refusal_in u a
  unfolding access_refusal_in
  refusal-kept it ind =
      rw bounds-kept
      (ap (λ (n : ℕ). misaligned when is_misaligned (from u) u.exponent or n)
      (or_later (check_ptr a u.pointer 0 u.len) (in_tree (after_access_in t a)) (in_tree a) (tree-kept it ind)))

  abbrev from_words : List ℕ → List ℕ
  from_words l = elim u.kind [ Read ↦ l | Write ↦ [] ]

  loaded-inside : a.address ≤ from t → a.address ≤ from u → Fits t → Aside t u → loaded_words u (after_access_in t a) ≡ loaded_words u a
  unfolding loaded_words after_access_in
  loaded-inside it iu f ind = ap from_words (words-kept t u a it iu f ind)

  loaded-none : Empty u → loaded_words u (after_access_in t a) ≡ loaded_words u a
  unfolding loaded_words
  loaded-none z = rw z

  allocation-commute : a.address ≤ from t → a.address ≤ from u → Fits t → Fits u → Aside t u → after_access_in u (after_access_in t a) ≡ after_access_in t (after_access_in u a)
  unfolding after_access_in
  allocation-commute it iu f g ind =
      ap₂ {C = Allocation} (λ (ws : List ℕ) (ns : List Node). record { state = a.state; kind = a.kind; exponent = a.exponent; address = a.address; words = ws; nodes = ns })
      (words-commute t u a it iu f g ind)
      (visited-commute (visit_of t a) (visit_of u a) (calm-visits t u a it iu ind) a.nodes)

allocation-again : (t : MemoryAccess) (a : Allocation) → a.address ≤ from t → t.kind ≡ Read → t.bytes ≡ [] → after_access_in t (after_access_in t a) ≡ after_access_in t a
unfolding after_access_in
allocation-again t a it x y =
    ap₂ {C = Allocation} (λ (ws : List ℕ) (ns : List Node). record { state = a.state; kind = a.kind; exponent = a.exponent; address = a.address; words = ws; nodes = ns })
    (rw y (write-none (offset a t.pointer) (write_at (offset a t.pointer) [] a.words)))
    (visited-again (visit_of t a) (calm-visits t t a it it (reads x x y y)) a.nodes)

-- ---- the memory
allocation-nodes : (t : MemoryAccess) (a : Allocation) → length (after_access_in t a).nodes ≡ length a.nodes
unfolding after_access_in
allocation-nodes t a = visited-length (visit_of t a) a.nodes

was_made-kept : (t : MemoryAccess) (n : ℕ) (m : Memory) (x : Provenance) → was_made (mutate_at n (after_access_in t) m) x ≡ was_made m x
was_made-kept t n m x =
    ap₂ (λ (k l : ℕ). ltb x.allocation k && ltb x.node l) (mutate-length n (after_access_in t) m)
    (mutate-kept (λ (a : Allocation). length a.nodes) (after_access_in t) no_allocation m n x.allocation (λ e. allocation-nodes t (get_or m n no_allocation)))

names_never_made-kept : (t : MemoryAccess) (n : ℕ) (m : Memory) (x : Option Provenance) → names_never_made (mutate_at n (after_access_in t) m) x ≡ names_never_made m x
names_never_made-kept t n m none = refl
names_never_made-kept t n m (some x) = ap not (was_made-kept t n m x)

module _ (t : MemoryAccess) (m : Memory) where
  -- an accepted access of some length starts inside its allocation
  starts : access_refusal t m ≡ 0 → (Empty t → ⊥) → (target m t.pointer).address ≤ from t
  unfolding access_refusal access_refusal_in
  starts e z =
      let a = target m t.pointer in
      let p = check_ptr a t.pointer 0 t.len in
      let rest = if eqb t.len 0 then 0 else visit_refusal (visit_of t a) a.nodes in
      (in_bounds_lem a t.pointer t.len z
      (or_left p rest
      (or_right (misaligned when is_misaligned (from t) t.exponent) (p or rest)
      (or_right (never_made when names_never_made m t.pointer.provenance) (misaligned when is_misaligned (from t) t.exponent or p or rest) e)))).start

  -- an accepted access leaves the memory, or changes one allocation
  pub after_none : Empty t → after_access t m ≡ m
  unfolding after_access
  after_none z = rw (eq-eqb t.len 0 z)

  pub after_one : (Empty t → ⊥) → after_access t m ≡ mutate_at (allocation_of t.pointer.provenance) (after_access_in t) m
  unfolding after_access
  after_one z = rw (ne_eqb t.len 0 z)

module _ (t u : MemoryAccess) (ind : (Empty t → ⊥) → (Empty u → ⊥) → Aside t u) (ft : Fits t) (fu : Fits u) (m : Memory) where
  -- ---- the first is accepted
  accepted-refused : access_refusal t m ≡ 0 → access_refusal u (after_access t m) ≡ access_refusal u m
  unfolding access_refusal
  accepted-refused e =
      elim (ℕ_discrete t.len 0) [
        | yes z ↦ rw (after_none t m z)
        | no z ↦
            rw (after_one t m z)
            (ap₂ (λ (b : Bool) (n : ℕ). never_made when b or n) (names_never_made-kept t (allocation_of t.pointer.provenance) m u.pointer.provenance)
            (mutate-kept (access_refusal_in u) (after_access_in t) no_allocation m (allocation_of t.pointer.provenance) (allocation_of u.pointer.provenance)
            (λ q. refusal-kept t u (target m t.pointer) (starts t m e z) (ind z))))
      ]

  accepted-loaded : access_refusal t m ≡ 0 → access_refusal u m ≡ 0 → loaded_words u (target (after_access t m) u.pointer) ≡ loaded_words u (target m u.pointer)
  accepted-loaded e e' =
      elim (ℕ_discrete t.len 0) [
        | yes z ↦ rw (after_none t m z)
        | no z ↦
            rw (after_one t m z)
            (mutate-kept (loaded_words u) (after_access_in t) no_allocation m (allocation_of t.pointer.provenance) (allocation_of u.pointer.provenance)
            (λ q.
            elim (ℕ_discrete u.len 0) [
              | yes y ↦ loaded-none t u (target m t.pointer) y
              | no y ↦
                  loaded-inside t u (target m t.pointer) (starts t m e z)
                  (subst (λ (k : ℕ). (get_or m k no_allocation).address ≤ from u) (sym q) (starts u m e' y)) ft (ind z y)
            ]))
      ]

  accepted-both : access_refusal t m ≡ 0 → access_refusal u m ≡ 0 → after_access u (after_access t m) ≡ after_access t (after_access u m)
  accepted-both e e' =
      elim (ℕ_discrete t.len 0) [
        | yes z ↦ ap (after_access u) (after_none t m z) ∙ sym (after_none t (after_access u m) z)
        | no z ↦
            elim (ℕ_discrete u.len 0) [
              | yes y ↦ after_none u (after_access t m) y ∙ sym (ap (after_access t) (after_none u m y))
              | no y ↦
                  after_one u (after_access t m) y ∙ ap (mutate_at (allocation_of u.pointer.provenance) (after_access_in u)) (after_one t m z)
                  ∙ mutate-commute (after_access_in t) (after_access_in u) no_allocation m (allocation_of t.pointer.provenance) (allocation_of u.pointer.provenance)
                  (λ q.
                  allocation-commute t u (target m t.pointer) (starts t m e z)
                  (subst (λ (k : ℕ). (get_or m k no_allocation).address ≤ from u) (sym q) (starts u m e' y)) ft fu (ind z y))
                  ∙ sym (after_one t (after_access u m) z ∙ ap (mutate_at (allocation_of t.pointer.provenance) (after_access_in t)) (after_one u m y))
            ]
      ]

  -- ---- whether accepted or not
  by-refused : (r : ℕ) → access_refusal t m ≡ r → access_refusal u (outcome r t m).1 ≡ access_refusal u m
  unfolding accept_access
  by-refused zero e = accepted-refused e
  by-refused (suc r) e = refl

  by-loaded : (r : ℕ) → access_refusal t m ≡ r → access_refusal u m ≡ 0
      → loaded_words u (target (outcome r t m).1 u.pointer) ≡ loaded_words u (target m u.pointer)
  unfolding accept_access
  by-loaded zero e e' = accepted-loaded e e'
  by-loaded (suc r) e e' = refl

  pub refused-same : access_refusal u (perform_access t m).1 ≡ access_refusal u m
  unfolding perform_access
  refused-same = by-refused (access_refusal t m) refl

  loaded-same : access_refusal u m ≡ 0 → loaded_words u (target (perform_access t m).1 u.pointer) ≡ loaded_words u (target m u.pointer)
  unfolding perform_access
  loaded-same e = by-loaded (access_refusal t m) refl e

  by_answer : (r : ℕ) → access_refusal u m ≡ r → (outcome r u (perform_access t m).1).0 ≡ (outcome r u m).0
  unfolding accept_access
  by_answer zero e = ap gives_words (loaded-same e)
  by_answer (suc r) e = refl

  pub answer-same : (perform_access u (perform_access t m).1).0 ≡ (perform_access u m).0
  unfolding perform_access
  answer-same =
      ap (λ (r : ℕ). (outcome r u (perform_access t m).1).0) refused-same
      ∙ by_answer (access_refusal u m) refl

by-memory : (t u : MemoryAccess) (ind : (Empty t → ⊥) → (Empty u → ⊥) → Aside t u) (ft : Fits t) (fu : Fits u) (m : Memory) (r s : ℕ)
    → access_refusal t m ≡ r → access_refusal u m ≡ s
    → (outcome s u (outcome r t m).1).1
    ≡ (outcome r t (outcome s u m).1).1
unfolding accept_access
by-memory t u ind ft fu m zero zero e e' = accepted-both t u ind ft fu m e e'
by-memory t u ind ft fu m zero (suc s) e e' = refl
by-memory t u ind ft fu m (suc r) zero e e' = refl
by-memory t u ind ft fu m (suc r) (suc s) e e' = refl

pub memory-same : (t u : MemoryAccess) → ((Empty t → ⊥) → (Empty u → ⊥) → Aside t u) → Fits t → Fits u → (m : Memory)
    → (perform_access u (perform_access t m).1).1 ≡ (perform_access t (perform_access u m).1).1
unfolding perform_access
memory-same t u ind ft fu m =
    ap (λ (r : ℕ). (outcome r u (perform_access t m).1).1) (refused-same t u ind ft fu m)
    ∙ by-memory t u ind ft fu m (access_refusal t m) (access_refusal u m) refl refl
    ∙ sym (ap (λ (r : ℕ). (outcome r t (perform_access u m).1).1) (refused-same u t (λ y z. turned t u (ind z y)) fu ft m))

-- ---- a load was_made again
module _ (t : MemoryAccess) (x : t.kind ≡ Read) (y : t.bytes ≡ []) (f : Fits t) (m : Memory) (e : access_refusal t m ≡ 0) where
  again-one : after_access t (after_access t m) ≡ after_access t m
  again-one =
      elim (ℕ_discrete t.len 0) [
        | yes z ↦ after_none t (after_access t m) z
        | no z ↦
            after_one t (after_access t m) z ∙ ap (mutate_at (allocation_of t.pointer.provenance) (after_access_in t)) (after_one t m z)
            ∙ mutate-again (after_access_in t) no_allocation m (allocation_of t.pointer.provenance) (allocation-again t (target m t.pointer) (starts t m e z) x y)
            ∙ sym (after_one t m z)
      ]

  once : (perform_access t m).1 ≡ after_access t m
  unfolding perform_access accept_access
  once = ap (λ (r : ℕ). (outcome r t m).1) e

  pub again : (perform_access t (perform_access t m).1).1 ≡ (perform_access t m).1
  unfolding perform_access accept_access
  again =
      ap (λ (r : ℕ). (outcome r t (perform_access t m).1).1) (refused-same t t (λ _ _. reads x x y y) f f m ∙ e)
      ∙ ap (after_access t) once ∙ again-one ∙ sym once

  pub again-answer : (perform_access t (perform_access t m).1).0 ≡ (perform_access t m).0
  again-answer = answer-same t t (λ _ _. reads x x y y) f f m
