-- The five buffers after a request: those that it does not touch are as they were, so that all of them hold the memory that the definition leaves.
--     load-holds, store-holds, deallocate-holds     what the next request asks
use Prim.Native.Nat.{ℕ}
use mathlib.Core.Path.{◌≡◌, refl, sym, ◌∙◌}
use mathlib.Core.List.{List, []}
use lib.Dec.{eqb}
use Rattle.definition.specs.Notation.{mutate_at, write_at}
use Rattle.definition.specs.Memory.{ThinPointer, Allocation, AllocationKind, Memory, MemoryAccess, allocation_of, offset, visit_of, access_refusal, after_access_in, after_access, accept_access, perform_access, write_all, after_deallocate_in, accept_deallocate, deallocate}
use Rattle.definition.specs.Memory.Liveness.{Dead}
use Rattle.definition.specs.Valid.{All, ValidByte}
use Rattle.definition.proofs.Alls.{if-holds, outcome-holds}
use Rattle.definition.proofs.Writes.{write-none, write-length}
use Rattle.definition.proofs.Visits.{visited-length}
use Rattle.definition.proofs.ValidMemory.{valid-load-store, valid-deallocate}
use Rattle.definition.specs.Memory as definition
use Rattle.answer.specs.declared.Answer.{Answer}
use Rattle.tables.specs.declared.Starts.{Starts}
use Rattle.tables.specs.Encoding.{record_of, parents_of, protectors_of, words_of, held_records, held, encode}
use Rattle.tables.specs.Held.{buffers, Holds}
use Rattle.tables.proofs.Focus.{held_kept}
use Rattle.tables.proofs.Records.{held-records-kept}
use Rattle.tables.proofs.ReadBack.{holds-allocs, holds-parents, holds-protectors, holds-words, encode-of}
use Rattle.parts.proofs.Trees.{visited-parents_of, visited-protectors_of}
use Rattle.parts.proofs.Lent.{holds-trees}
use Rattle.memory.specs.Buffers.{HoldsWords}
use Rattle.memory.specs.Access.{load_of, store_of, Loaded, Stored}
use Rattle.memory.specs.Deallocate.{Deallocated}

-- ---- all five, and those that a store asks for
pub holds-bytes : {m : Memory} {A P R W C : List ℕ} → Holds m (buffers A P R W C) → HoldsWords m A P W C
holds-bytes h = record { trees = holds-trees h; words = holds-words h }

-- ---- load and store
module _ (x : MemoryAccess) where
  same-record : (p : Starts) (a : Allocation) → record_of p (after_access_in x a) ≡ record_of p a
  unfolding after_access_in
  same-record p a = rw (write-length (offset a x.pointer) x.bytes a.words, visited-length (visit_of x a) a.nodes)

  same-parents : (a : Allocation) → parents_of (after_access_in x a) ≡ parents_of a
  unfolding after_access_in
  same-parents a = visited-parents_of (visit_of x a) a a.state (write_at (offset a x.pointer) x.bytes a.words)

  same-protectors : (a : Allocation) → protectors_of (after_access_in x a) ≡ protectors_of a
  unfolding after_access_in
  same-protectors a = visited-protectors_of (visit_of x a) a a.state (write_at (offset a x.pointer) x.bytes a.words)

  same-words : x.bytes ≡ [] → (a : Allocation) → words_of (after_access_in x a) ≡ words_of a
  unfolding after_access_in
  same-words e a = rw e (write-none (offset a x.pointer) a.words)

  -- a buffer that it leaves in each allocation
  access-kept : (buffer : Memory → List ℕ) → ((n : ℕ) (m : Memory) → buffer (mutate_at n (after_access_in x) m) ≡ buffer m) → (m : Memory)
      → buffer (perform_access x m).1 ≡ buffer m
  unfolding perform_access accept_access after_access
  access-kept buffer e m =
      outcome-holds (λ k. buffer k ≡ buffer m) (access_refusal x m) m (accept_access x m) refl
      (λ z. if-holds (λ k. buffer k ≡ buffer m) (eqb x.len 0) m (mutate_at (allocation_of x.pointer.provenance) (after_access_in x) m) (λ q. refl)
      (λ q. e (allocation_of x.pointer.provenance) m))

  part-kept : (total : ℕ) (f : Allocation → List ℕ) → ((a : Allocation) → f (after_access_in x a) ≡ f a) → (m : Memory)
      → held total f (perform_access x m).1 ≡ held total f m
  part-kept total f e = access-kept (held total f) (held_kept total f (after_access_in x) e)

  records-kept : (m : Memory) → held_records (perform_access x m).1 ≡ held_records m
  records-kept = access-kept held_records (held-records-kept (after_access_in x) same-record)

module _ {m : Memory} {A P R W C : List ℕ} (h : Holds m (buffers A P R W C)) (p : ThinPointer) where
  pub load-encode : (len exponent : ℕ) {answer : Answer} {C' : List ℕ} → Loaded (load_of p len exponent) m answer C'
      → buffers A P R W C' ≡ encode (perform_access (load_of p len exponent) m).1
  load-encode len exponent k =
      let x : MemoryAccess = load_of p len exponent in
      encode-of (perform_access x m).1
      (holds-allocs h ∙ sym (records-kept x m))
      (holds-parents h ∙ sym (part-kept x 1024 parents_of (same-parents x) m))
      (holds-protectors h ∙ sym (part-kept x 1024 protectors_of (same-protectors x) m))
      (holds-words h ∙ sym (part-kept x 4096 words_of (same-words x refl) m))
      k.codes

  pub load-holds : (len exponent : ℕ) {answer : Answer} {C' : List ℕ} → Loaded (load_of p len exponent) m answer C'
      → Holds (perform_access (load_of p len exponent) m).1 (buffers A P R W C')
  load-holds len exponent k = record { valid = valid-load-store (load_of p len exponent) tt m h.valid; equal = load-encode len exponent k }

  pub store-encode : (bytes : List ℕ) (exponent : ℕ) {answer : Answer} {W' C' : List ℕ} → Stored (store_of p bytes exponent) m answer W' C'
      → buffers A P R W' C' ≡ encode (perform_access (store_of p bytes exponent) m).1
  store-encode bytes exponent k =
      let x : MemoryAccess = store_of p bytes exponent in
      encode-of (perform_access x m).1
      (holds-allocs h ∙ sym (records-kept x m))
      (holds-parents h ∙ sym (part-kept x 1024 parents_of (same-parents x) m))
      (holds-protectors h ∙ sym (part-kept x 1024 protectors_of (same-protectors x) m))
      k.words
      k.codes

  -- of bytes that passed 2
  pub store-holds : (bytes : List ℕ) (exponent : ℕ) {answer : Answer} {W' C' : List ℕ} → All ValidByte bytes → Stored (store_of p bytes exponent) m answer W' C'
      → Holds (perform_access (store_of p bytes exponent) m).1 (buffers A P R W' C')
  store-holds bytes exponent b k = record { valid = valid-load-store (store_of p bytes exponent) b m h.valid; equal = store-encode bytes exponent k }

-- ---- deallocate
module _ (p : ThinPointer) (k : AllocationKind) (len exponent : ℕ) (m : Memory) where
  deallocate-kept : (total : ℕ) (f : Allocation → List ℕ) → ((a : Allocation) → f (after_deallocate_in p a) ≡ f a)
      → held total f (deallocate p k len exponent m).1 ≡ held total f m
  unfolding deallocate accept_deallocate
  deallocate-kept total f e =
      outcome-holds (λ l. held total f l ≡ held total f m) (definition.deallocate_refusal m p k len exponent) m (accept_deallocate p m) refl
      (λ z. held_kept total f (after_deallocate_in p) e (allocation_of p.provenance) m)

  module _ {A P R W C A' C' : List ℕ} {answer : Answer} (h : Holds m (buffers A P R W C)) (d : Deallocated p k len exponent m answer A' C') where
    pub deallocate-encode : buffers A' P R W C' ≡ encode (deallocate p k len exponent m).1
    unfolding after_deallocate_in
    deallocate-encode =
        encode-of (deallocate p k len exponent m).1
        d.allocs
        (holds-parents h ∙ sym (deallocate-kept 1024 parents_of (λ a. visited-parents_of (write_all p a) a Dead a.words)))
        (holds-protectors h ∙ sym (deallocate-kept 1024 protectors_of (λ a. visited-protectors_of (write_all p a) a Dead a.words)))
        (holds-words h ∙ sym (deallocate-kept 4096 words_of (λ a. refl)))
        d.codes

    pub deallocate-holds : Holds (deallocate p k len exponent m).1 (buffers A' P R W C')
    deallocate-holds = record { valid = valid-deallocate p k len exponent m h.valid; equal = deallocate-encode }
