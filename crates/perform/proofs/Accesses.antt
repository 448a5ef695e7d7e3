-- Loads and stores, which are asked for by one name.
use Prim.Native.Nat.{ℕ, ◌<◌}
use mathlib.Core.Path.{◌≡◌, sym, subst}
use mathlib.Core.List.{List}
use mathlib.Core.Logic.{◌⊎◌, ⊎_elim}
use Rattle.definition.specs.Width.{Width}
use Rattle.definition.specs.Memory.{Memory, ThinPointer}
use Rattle.definition.specs.Frame.{State}
use Rattle.definition.specs.Request.{pointer}
use Rattle.answer.specs.declared.Answer.{Answer}
use Rattle.permission.specs.declared.AccessKind.{AccessKind}
use Rattle.permission.specs.declared.AccessKind.TheVariants.{Read, Write}
use Rattle.tables.specs.Held.{buffers}
use Rattle.memory.specs.Access.{load_of, store_of, Loaded, Stored}
use Rattle.memory.specs.Buffers.{HoldsWords}
use Rattle.memory.proofs.Afterwards.{holds-bytes}
use Rattle.request.specs.declared.Kind.TheVariants.{Load, Store}
use Rattle.request.specs.declared.Request.{Request}
use Rattle.request.specs.Fields.{request_of}
use Rattle.perform.specs.Performed.{outcome_of, Asked, LeftMemory}
use Rattle.perform.proofs.Memories.{load-exponent, store-exponent, load-left, store-left}

-- ---- from what the core leaves to what the definition says
module _ {s : State} {q : Request} {ws A P R W C : List ℕ} (h : Asked s q ws (buffers A P R W C)) (kind : (q.kind ≡ Load) ⊎ (q.kind ≡ Store)) where
  pub access-exponent : {exponent : ℕ} → exponent ≡ q.exponent → exponent < 64
  access-exponent x = ⊎_elim (λ e. load-exponent h e x) (λ e. store-exponent h e x) kind

  pub access-left : (w : Width) {p : ThinPointer} {len exponent : ℕ} → p ≡ pointer (request_of q ws) → len ≡ q.fourth → exponent ≡ q.exponent
      → {access : AccessKind} → (q.kind ≡ Load → access ≡ Read) × (q.kind ≡ Store → access ≡ Write) → {r : Answer} {W' C' : List ℕ}
      → ((m : Memory) → access ≡ Read → HoldsWords m A P W C → Loaded (load_of p len exponent) m r C' × (W' ≡ W))
      → ((m : Memory) → access ≡ Write → HoldsWords m A P W C → Stored (store_of p ws exponent) m r W' C')
      → LeftMemory (outcome_of w s q ws) r (buffers A P R W' C')
  access-left w is_pointer is-len is_exponent is_kind {r} {W'} {C'} loads stores =
      ⊎_elim
      (λ e. let (loaded, kept) = loads s.memory (is_kind.0 e) (holds-bytes h.holds) in
      subst (λ (W : List ℕ). LeftMemory (outcome_of w s q ws) r (buffers A P R W C')) (sym kept) (load-left h is_pointer is_exponent w e is-len loaded))
      (λ e. store-left h is_pointer is_exponent w e (stores s.memory (is_kind.1 e) (holds-bytes h.holds)))
      kind
