-- A request of every kind, on the buffers of a run: what its part asks, and from what the part leaves to all six buffers.
use Prim.Native.Nat.{ℕ}
use mathlib.Core.Path.{◌≡◌, refl, sym, ap, subst, subst⁻¹, ◌∙◌}
use mathlib.Core.Bool.{true, false, false≢true}
use mathlib.Core.Option.{Option, none, some}
use mathlib.Core.List.{List}
use native.Mathlib.Omega.{arith}
use Rattle.definition.specs.Width.{Width}
use Rattle.definition.specs.Layout.{FreezeMask, freeze_mask}
use Rattle.definition.specs.Memory.{Memory}
use Rattle.definition.specs.Memory as definition
use Rattle.definition.specs.Frame.{State, empty, frame_at, entries, is_open, new_call, end_call}
use Rattle.definition.specs.Retag.{retag_without_node}
use Rattle.definition.specs.Request.{Request, adds_no_node, pointer, frame_number, settings_of, is_malformed}
use Rattle.definition.specs.Run.{retag_with_mask, perform_retag, perform}
use Rattle.definition.proofs.Alls.{if-holds}
use Rattle.answer.specs.declared.Answer.{Answer}
use Rattle.answer.specs.declared.Answer.TheVariants.{Accepted}
use Rattle.tables.specs.Encoding.{Buffers, words_of, held, encode}
use Rattle.tables.specs.Held.{buffers, Holds}
use Rattle.tables.proofs.ReadBack.{encode-of, holds-words}
use Rattle.frames.specs.Buffer.{HoldsFrames, frames_held}
use Rattle.frames.proofs.FromValid.{valid-holds}
use Rattle.end_call.specs.Release.{after_end_call, HoldsNodes}
use Rattle.end_call.proofs.EndCall.{end-call-encode, end-call-memory}
use Rattle.retag.proofs.Requests.{words-kept, without-node-same}
use Rattle.request.specs.declared.Kind.{Kind}
use Rattle.request.specs.declared.Kind.TheVariants.{Allocate, Deallocate, Load, Store, Retag, NewCall, EndCall, Dereferenceable, SignedDereferenceable, LeakCheck, Empty, Unused}
use Rattle.request.specs.declared.Request as code
use Rattle.request.specs.Fields.{kind_of, request_of, frame_by, frame_used, open_in}
use Rattle.request.proofs.WellFormed.{new-call-frame, end-call-frame}
use Rattle.perform.specs.Performed.{Formed, outcome_of, is_in_memory, Asked, LeftMemory, Left, LeftTrees, LeftFrames}
use Rattle.state.specs.State.{HoldsState, HoldsTreesAndFrames}
use Rattle.state.specs.Lengths.{have_lengths}
use Rattle.state.proofs.States.{trees-of}
use Rattle.state.proofs.Held.{state-lengths}
use Rattle.state.proofs.Lengths.{have-lengths}

-- ---- the kinds that need no frame
pub is-alone : (k : Kind) → (k ≡ Retag → ⊥) → (k ≡ NewCall → ⊥) → (k ≡ EndCall → ⊥) → (k ≡ Empty → ⊥) → is_in_memory k ≡ true
is-alone Allocate r n e m = refl
is-alone Deallocate r n e m = refl
is-alone Load r n e m = refl
is-alone Store r n e m = refl
is-alone Retag r n e m = absurd (r refl)
is-alone NewCall r n e m = absurd (n refl)
is-alone EndCall r n e m = absurd (e refl)
is-alone Dereferenceable r n e m = refl
is-alone SignedDereferenceable r n e m = refl
is-alone LeakCheck r n e m = refl
is-alone Empty r n e m = absurd (m refl)
is-alone Unused r n e m = refl

frames-stay : (w : Width) (k : Kind) → is_in_memory k ≡ true → (s : State) (q : Request) → (perform w (kind_of k) s q).1.frames ≡ s.frames
unfolding perform
frames-stay w Allocate e s q = refl
frames-stay w Deallocate e s q = refl
frames-stay w Load e s q = refl
frames-stay w Store e s q = refl
frames-stay w Retag e s q = absurd (false≢true e)
frames-stay w NewCall e s q = absurd (false≢true e)
frames-stay w EndCall e s q = absurd (false≢true e)
frames-stay w Dereferenceable e s q = refl
frames-stay w SignedDereferenceable e s q = refl
frames-stay w LeakCheck e s q = refl
frames-stay w Empty e s q = absurd (false≢true e)
frames-stay w Unused e s q = refl

-- ---- the words that a retag leaves
masked-words : (s : State) (q : Request) (mask : Option FreezeMask) → held 4096 words_of (retag_with_mask mask s q).1.memory ≡ held 4096 words_of s.memory
unfolding retag_with_mask
masked-words s q none = refl
masked-words s q (some mask) = words-kept (settings_of q mask) (frame_number q) (pointer q) s

retag-words : (s : State) (q : Request) → held 4096 words_of (perform_retag s q).1.memory ≡ held 4096 words_of s.memory
unfolding perform_retag
retag-words s q =
    if-holds (λ (o : definition.Answer × State). held 4096 words_of o.1.memory ≡ held 4096 words_of s.memory) (adds_no_node q) (retag_without_node (pointer q) s)
    (retag_with_mask (freeze_mask q.following) s q) (λ e. ap (λ (x : State). held 4096 words_of x.memory) (without-node-same (pointer q) s))
    (λ e. masked-words s q (freeze_mask q.following))

-- ---- the parts
module _ {s : State} {A P R W C F : List ℕ} (h : HoldsState s (buffers A P R W C) F) where
  memory-held : Holds s.memory (buffers A P R W C)
  memory-held = record { valid = h.valid.memory; equal = h.memory }

  pub trees : HoldsTreesAndFrames s A P R C F
  trees = record { valid = h.valid; trees = trees-of s.memory h.memory; frames = h.frames }

  pub frames : HoldsFrames s.frames F
  frames = valid-holds s F h.valid h.frames

  left-trees : {o : definition.Answer × State} {r : Answer} {A' P' R' C' F' : List ℕ} → LeftTrees o r A' P' R' C' F' → held 4096 words_of o.1.memory ≡ held 4096 words_of s.memory
      → Left o r (buffers A' P' R' W C') F'
  left-trees {o} k e = record {
    answer = k.answers W;
    memory = encode-of o.1.memory k.trees.allocs k.trees.parents k.trees.protectors (holds-words memory-held ∙ sym e) k.trees.codes;
    frames = k.frames;
  }

  module _ {q : code.Request} {ws : List ℕ} (formed : Formed s q ws) where
    as-kind : (w : Width) {k : Kind} → q.kind ≡ k → {r : Answer} {b : Buffers} {F' : List ℕ} → Left (perform w (kind_of k) s (request_of q ws)) r b F' → Left (outcome_of w s q ws) r b F'
    as-kind w e {r} {b} {F'} l = subst⁻¹ (λ (k : Kind). Left (perform w (kind_of k) s (request_of q ws)) r b F') e l

    fine : {k : Kind} → q.kind ≡ k → is_malformed (kind_of k) s (request_of q ws) ≡ false
    fine e = subst (λ (k : Kind). is_malformed (kind_of k) s (request_of q ws) ≡ false) e formed.fine

    pub asked : is_in_memory q.kind ≡ true → Asked s q ws (buffers A P R W C)
    asked e = record { holds = memory-held; formed = formed; alone = e }

    pub left-memory : (w : Width) → is_in_memory q.kind ≡ true → {r : Answer} {b : Buffers} → LeftMemory (outcome_of w s q ws) r b → Left (outcome_of w s q ws) r b F
    left-memory w e k = record {
      answer = k.answer;
      memory = k.memory;
      frames = h.frames ∙ ap frames_held (sym (frames-stay w q.kind e s (request_of q ws)));
    }

    pub left-retag : (w : Width) → q.kind ≡ Retag → {r : Answer} {A' P' R' C' F' : List ℕ} → LeftTrees (perform_retag s (request_of q ws)) r A' P' R' C' F' → Left (outcome_of w s q ws) r (buffers A' P' R' W C') F'
    unfolding perform
    left-retag w e k = as-kind w e (left-trees k (retag-words s (request_of q ws)))

    pub left-empty : (w : Width) → q.kind ≡ Empty → {r : Answer} {b : Buffers} {F' : List ℕ} → Left (definition.accepted, empty) r b F' → Left (outcome_of w s q ws) r b F'
    unfolding perform
    left-empty w e k = as-kind w e k

    -- ---- calls: the frame is the fourth word
    module _ {f : ℕ} (used : f ≡ frame_used q) where
      module _ (e : q.kind ≡ NewCall) where
        new-frame : f ≡ q.fourth
        new-frame = let u : f ≡ frame_by NewCall q = used ∙ ap (λ (k : Kind). frame_by k q) e in omega (arith, u, (new-call-frame s (request_of q ws) (fine e)).0)

        pub new-closed : is_open (frame_at s f) ≡ false
        new-closed = subst⁻¹ (λ (n : ℕ). open_in s n ≡ false) new-frame (new-call-frame s (request_of q ws) (fine e)).1

        pub left-new-call : (w : Width) {r : Answer} {F' : List ℕ} → LeftFrames (new_call f s) r F' → Left (outcome_of w s q ws) r (buffers A P R W C) F'
        unfolding perform new_call
        left-new-call w {r} {F'} k =
            as-kind w e
            (subst (λ (n : ℕ). Left (new_call n s) r (buffers A P R W C) F') new-frame (record { answer = k.answers W; memory = h.memory; frames = k.frames }))

      module _ (e : q.kind ≡ EndCall) where
        end_frame : f ≡ q.fourth
        end_frame = let u : f ≡ frame_by EndCall q = used ∙ ap (λ (k : Kind). frame_by k q) e in omega (arith, u, (end-call-frame s (request_of q ws) (fine e)).0)

        pub left-end-call : (w : Width) {r : Answer} {R' C' F' : List ℕ} → LeftTrees (end_call f s) r A P R' C' F' → Left (outcome_of w s q ws) r (buffers A P R' W C') F'
        unfolding perform
        left-end-call w {r} {R'} {C'} {F'} k =
            let m : Memory = after_end_call s.memory (entries (frame_at s f)) in
            let nodes : HoldsNodes m R' C' = subst (λ (m : Memory). HoldsNodes m R' C') (end-call-memory f s) (record { protectors = k.trees.protectors; codes = k.trees.codes }) in
            as-kind w e
            (subst (λ (n : ℕ). Left (end_call n s) r (buffers A P R' W C') F') end_frame
            (record {
              answer = k.answers W;
              memory = end-call-encode memory-held (entries (frame_at s f)) nodes ∙ ap encode (sym (end-call-memory f s));
              frames = k.frames;
            }))

-- ---- an emptying
module _ {s : State} {A P R W C F : List ℕ} (h : HoldsState s (buffers A P R W C) F) where
  pub long-enough : have_lengths (buffers A P R W C) F ≡ true
  long-enough = let l = state-lengths h in have-lengths A P R W C F l.allocs l.parents l.protectors l.words l.codes l.frames

pub emptied : {b : Buffers} {F : List ℕ} → HoldsState empty b F → Left (definition.accepted, empty) Accepted b F
emptied h = record { answer = refl; memory = h.memory; frames = h.frames }
