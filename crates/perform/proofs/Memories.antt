-- The requests to the memory alone: from what a core leaves, by the values that it was handed, to what the definition's `perform` says of the request.
use Prim.Native.Nat.{ℕ, ◌<◌}
use mathlib.Core.Path.{◌≡◌, refl, sym, ap, subst, subst⁻¹, ◌∙◌}
use mathlib.Core.Logic.{◌⊎◌, inl, inr}
use mathlib.Core.Bool.{false, false≢true}
use mathlib.Core.List.{List}
use native.Mathlib.Omega.{arith}
use lib.IntN.{ℤ}
use Rattle.definition.specs.Width.{Width}
use Rattle.definition.specs.Memory.{Memory, ThinPointer, perform_access, allocate, deallocate, dereferenceable, leak_check}
use Rattle.definition.specs.Memory as definition
use Rattle.definition.specs.Frame.{State, in_memory}
use Rattle.definition.specs.Request.{pointer, allocation_kind, bytes_back, bytes_ahead, is_malformed}
use Rattle.definition.specs.Run.{perform}
use Rattle.answer.specs.Answer.{answer_of}
use Rattle.answer.specs.declared.Answer.{Answer}
use Rattle.pointer.specs.Pointer.{back, ahead}
use Rattle.tables.specs.Encoding.{Buffers, encode}
use Rattle.tables.specs.Held.{buffers}
use Rattle.tables.proofs.ReadBack.{holds-words}
use Rattle.memory.specs.Allocate.{CanAllocate, Allocated}
use Rattle.memory.specs.Access.{load_of, store_of, Loaded, Stored}
use Rattle.memory.specs.Deallocate.{Deallocated}
use Rattle.memory.proofs.Allocated.{can-allocate, allocate-encode}
use Rattle.memory.proofs.Afterwards.{load-encode, store-encode, deallocate-encode}
use Rattle.request.specs.declared.Kind.{Kind}
use Rattle.request.specs.declared.Kind.TheVariants.{Allocate, Deallocate, Load, Store, Retag, NewCall, EndCall, Dereferenceable, SignedDereferenceable, LeakCheck, Empty, Unused}
use Rattle.request.specs.declared.Request.{Request}
use Rattle.request.specs.Fields.{kind_of, request_of}
use Rattle.request.proofs.WellFormed.{allocate-bounds, deallocate-bounds, load-bound, store-parts, kind-number, not-unused}
use Rattle.perform.specs.Performed.{is_in_memory, outcome_of, Asked, LeftMemory}

module _ {s : State} {q : Request} {ws A P R W C : List ℕ} (h : Asked s q ws (buffers A P R W C)) where
  fine : {k : Kind} → q.kind ≡ k → is_malformed (kind_of k) s (request_of q ws) ≡ false
  fine e = subst (λ (k : Kind). is_malformed (kind_of k) s (request_of q ws) ≡ false) e h.formed.fine

  -- from an outcome of the memory
  left : (w : Width) {k : Kind} → q.kind ≡ k → {o : definition.Answer × Memory} → perform w (kind_of k) s (request_of q ws) ≡ in_memory s o → {r : Answer} {b : Buffers}
      → answer_of r b.words ≡ o.0 → b ≡ encode o.1 → LeftMemory (outcome_of w s q ws) r b
  left w {k} e same {r} {b} f g =
      subst⁻¹ (λ (k : Kind). LeftMemory (perform w (kind_of k) s (request_of q ws)) r b) e
      (subst⁻¹ (λ (x : definition.Answer × State). LeftMemory x r b) same (record { answer = f; memory = g }))

  -- ---- 0
  module _ (e : q.kind ≡ Allocate) {kind len exponent : ℕ} (is_kind : kind ≡ q.extra) (is-len : len ≡ q.fourth) (is_exponent : exponent ≡ q.exponent) where
    pub can : CanAllocate s.memory (allocation_kind (request_of q ws)) A C kind exponent
    can =
        let b = allocate-bounds s (request_of q ws) (fine e) in
        can-allocate s.memory (allocation_kind (request_of q ws)) h.holds (is_kind ∙ sym (kind-number q.extra b.1)) (omega (arith, b.0))

    pub allocate-left : (w : Width) {r : Answer} {A' C' : List ℕ} → Allocated (allocate w (allocation_kind (request_of q ws)) len exponent q.address s.memory) r A' C'
        → LeftMemory (outcome_of w s q ws) r (buffers A' P R W C')
    unfolding perform
    allocate-left w a =
        left w e (λ i. in_memory s (allocate w (allocation_kind (request_of q ws)) (sym is-len i) (sym is_exponent i) q.address s.memory)) (a.answer W)
        (allocate-encode w s.memory (allocation_kind (request_of q ws)) len exponent q.address h.holds a)

  -- ---- 1
  module _ (e : q.kind ≡ Deallocate) {p : ThinPointer} {kind len exponent : ℕ} (is_pointer : p ≡ pointer (request_of q ws)) (is_kind : kind ≡ q.extra) (is-len : len ≡ q.fourth) (is_exponent : exponent ≡ q.exponent) where
    pub deallocate-kind : kind ≡ definition.kind_number (allocation_kind (request_of q ws))
    deallocate-kind = is_kind ∙ sym (kind-number q.extra (deallocate-bounds s (request_of q ws) (fine e)).1)

    pub deallocate-left : (w : Width) {r : Answer} {A' C' : List ℕ} → Deallocated p (allocation_kind (request_of q ws)) len exponent s.memory r A' C'
        → LeftMemory (outcome_of w s q ws) r (buffers A' P R W C')
    unfolding perform
    deallocate-left w a =
        left w e (λ i. in_memory s (deallocate (sym is_pointer i) (allocation_kind (request_of q ws)) (sym is-len i) (sym is_exponent i) s.memory)) (a.answers W)
        (deallocate-encode p (allocation_kind (request_of q ws)) len exponent s.memory h.holds a)

  -- ---- 2 and 3
  pub load-exponent : q.kind ≡ Load → {exponent : ℕ} → exponent ≡ q.exponent → exponent < 64
  load-exponent e x = omega (arith, x, load-bound s (request_of q ws) (fine e))

  pub store-exponent : q.kind ≡ Store → {exponent : ℕ} → exponent ≡ q.exponent → exponent < 64
  store-exponent e x = omega (arith, x, load-bound s (request_of q ws) (store-parts s (request_of q ws) (fine e)).0)

  module _ {p : ThinPointer} {exponent : ℕ} (is_pointer : p ≡ pointer (request_of q ws)) (is_exponent : exponent ≡ q.exponent) where
    pub load-left : (w : Width) → q.kind ≡ Load → {len : ℕ} → len ≡ q.fourth → {r : Answer} {C' : List ℕ} → Loaded (load_of p len exponent) s.memory r C'
        → LeftMemory (outcome_of w s q ws) r (buffers A P R W C')
    unfolding perform
    load-left w e {len} is-len {r} a =
        left w e (λ i. in_memory s (perform_access (load_of (sym is_pointer i) (sym is-len i) (sym is_exponent i)) s.memory))
        (ap (λ (words : List ℕ). answer_of r words) (holds-words h.holds) ∙ a.answers) (load-encode h.holds p len exponent a)

    pub store-left : (w : Width) → q.kind ≡ Store → {r : Answer} {W' C' : List ℕ} → Stored (store_of p ws exponent) s.memory r W' C'
        → LeftMemory (outcome_of w s q ws) r (buffers A P R W' C')
    unfolding perform
    store-left w e {r} {W'} a =
        left w e (λ i. in_memory s (perform_access (store_of (sym is_pointer i) ws (sym is_exponent i)) s.memory)) (a.answers W')
        (store-encode h.holds p ws exponent a)

  -- ---- 7, 8 and 9
  module _ {p : ThinPointer} (is_pointer : p ≡ pointer (request_of q ws)) where
    pub dereferenceable-left : (w : Width) → q.kind ≡ Dereferenceable → {len : ℕ} → len ≡ q.fourth → {r : Answer} → answer_of r W ≡ (dereferenceable p 0 len s.memory).0
        → LeftMemory (outcome_of w s q ws) r (buffers A P R W C)
    unfolding perform dereferenceable
    dereferenceable-left w e is-len f = left w e (λ i. in_memory s (dereferenceable (sym is_pointer i) 0 (sym is-len i) s.memory)) f h.holds.equal

    pub signed-left : (w : Width) → q.kind ≡ SignedDereferenceable → (len : ℤ) → (back len ≡ bytes_back q.fourth) × (ahead len ≡ bytes_ahead q.fourth) → {r : Answer}
        → answer_of r W ≡ (dereferenceable p (back len) (ahead len) s.memory).0 → LeftMemory (outcome_of w s q ws) r (buffers A P R W C)
    unfolding perform dereferenceable
    signed-left w e len is-len f =
        left w e (λ i. in_memory s (dereferenceable (sym is_pointer i) (sym is-len.0 i) (sym is-len.1 i) s.memory)) f h.holds.equal

  pub leak-left : (w : Width) → q.kind ≡ LeakCheck → {r : Answer} → answer_of r W ≡ (leak_check s.memory).0 → LeftMemory (outcome_of w s q ws) r (buffers A P R W C)
  unfolding perform leak_check
  leak-left w e f = left w e refl f h.holds.equal

  -- ---- those that are not asked
  not-alone : {k : Kind} → q.kind ≡ k → is_in_memory k ≡ false → ⊥
  not-alone e f = false≢true (sym f ∙ ap is_in_memory (sym e) ∙ h.alone)

  not-a-kind : q.kind ≡ Unused → ⊥
  not-a-kind e = not-unused s (request_of q ws) (fine e)

  pub not-asked : (q.kind ≡ Retag) ⊎ (q.kind ≡ NewCall) ⊎ (q.kind ≡ EndCall) ⊎ (q.kind ≡ Empty) ⊎ (q.kind ≡ Unused) → ⊥
  not-asked (inl e) = not-alone e refl
  not-asked (inr (inl e)) = not-alone e refl
  not-asked (inr (inr (inl e))) = not-alone e refl
  not-asked (inr (inr (inr (inl e)))) = not-alone e refl
  not-asked (inr (inr (inr (inr e)))) = not-a-kind e
