-- An end call in a run: the frame's entries were made, and what is left in each case.
use Prim.Native.Nat.{ℕ}
use mathlib.Core.Path.{◌≡◌, sym, ap, subst, subst⁻¹, ◌∙◌}
use mathlib.Core.List.{List, []}
use native.Mathlib.Omega.{arith}
use lib.ListN.{set}
use Rattle.definition.specs.Memory.{Memory, Provenance}
use Rattle.definition.specs.Memory as definition
use Rattle.definition.specs.Frame.{State, frame_at, entries, end_call_refusal, end_call}
use Rattle.definition.specs.Frame.Frame.{Closed}
use Rattle.definition.specs.Valid.{ValidFrame}
use Rattle.definition.proofs.Alls.{all_get_d}
use Rattle.answer.specs.Answer.{answer_of}
use Rattle.answer.specs.declared.Answer.{Answer}
use Rattle.tables.specs.Held.{Trees}
use Rattle.frames.specs.Buffer.{HoldsFrames, entries_in, entries_at}
use Rattle.end_call.specs.Release.{AllMade, after_end_call, Ended}
use Rattle.end_call.proofs.EndCall.{end-call-encode, ended-answers, end-call-answer, end-call-memory, accepted-frames, refused-frames}
use Rattle.perform.specs.Performed.{LeftTrees}
use Rattle.state.specs.State.{HoldsTreesAndFrames}
use Rattle.state.proofs.States.{frames-held, all_held, trees-of}

module _ {s : State} {A P R C F : List ℕ} (h : HoldsTreesAndFrames s A P R C F) (f : ℕ) (words : List ℕ) (is : entries_in words ≡ entries_at s.frames f) where
  -- every entry of a frame was made
  pub numbers-made : AllMade s.memory (entries_in words)
  numbers-made = subst⁻¹ (AllMade s.memory) is (all_get_d (ValidFrame s.memory) s.frames f Closed h.valid.frames (record { room = omega arith; made = tt })).made

  module _ {r : Answer} {R' C' : List ℕ} (k : Ended s.memory (entries_in words) r R' C') where
    ended : Ended s.memory (entries (frame_at s f)) r R' C'
    ended = subst (λ (es : List Provenance). Ended s.memory es r R' C') is k

    refusal : (answer_of r []).refusal ≡ end_call_refusal s.memory (entries (frame_at s f))
    refusal = ap (λ (a : definition.Answer). a.refusal) (ended-answers ended [])

    left : {F' : List ℕ} → HoldsFrames (end_call f s).1.frames F' → LeftTrees (end_call f s) r A P R' C' F'
    left g = record {
      answers = λ words. ended-answers ended words ∙ sym (end-call-answer f s);
      trees = subst (λ (m : Memory). Trees m A P R' C') (sym (end-call-memory f s)) (trees-of (after_end_call s.memory (entries (frame_at s f))) (end-call-encode (all_held h) (entries (frame_at s f)) ended.nodes));
      frames = g.held;
    }

    pub left-accepted : (answer_of r []).refusal ≡ 0 → {F' : List ℕ} → HoldsFrames (set s.frames f Closed) F' → LeftTrees (end_call f s) r A P R' C' F'
    left-accepted e g = left (accepted-frames f s (sym refusal ∙ e) g)

    pub left-refused : ((answer_of r []).refusal ≡ 0 → ⊥) → LeftTrees (end_call f s) r A P R' C' F
    left-refused e = left (refused-frames f s (λ z. e (refusal ∙ z)) (frames-held h))
