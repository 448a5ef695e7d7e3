-- An end call: 4 for all entries, then the releases; and the five buffers, the answer and the frames afterwards.
use Rattle.std.specs.Prelude.{if◌then◌else◌}
use Prim.Native.Nat.{ℕ, zero, suc, ◌+◌, ◌<◌}
use mathlib.Core.Path.{◌≡◌, refl, sym, ap, subst, ◌∙◌}
use mathlib.Core.Bool.{Bool, true, false, not}
use mathlib.Core.List.{List, [], ◌∷◌}
use native.Mathlib.Omega.{arith}
use borrow.Author.Tests.{ne_eqb}
use lib.Dec.{eqb}
use lib.ListN.{length, get_or, drop, set}
use Rattle.definition.specs.Notation.{◌when◌, ◌or◌, any, mutate_at}
use Rattle.definition.specs.Refusal.{never_made}
use Rattle.definition.specs.Memory as definition
use Rattle.definition.specs.Memory.{Memory, Provenance, refused_with, was_made}
use Rattle.definition.specs.Frame.{Frame, State, frame_at, entries, after_release_in, release_all_refusal, after_release_all, end_call_refusal, accept_end_call, end_call}
use Rattle.definition.specs.Frame.Frame.{Closed}
use Rattle.definition.specs.Valid.{All, Valid}
use Rattle.definition.proofs.Alls.{if-holds, all-imp, none_pass}
use Rattle.definition.proofs.Booleans.{not-not-false}
use Rattle.definition.proofs.ValidMemory.{valid-release-all}
use Rattle.answer.specs.Answer.{answer_of}
use Rattle.answer.specs.declared.Answer.{Answer}
use Rattle.answer.proofs.Replies.{plain-answers}
use Rattle.tables.specs.Encoding.{parents_of, words_of, held_records, held, encode}
use Rattle.tables.specs.Held.{buffers, Holds}
use Rattle.tables.proofs.ReadBack.{holds-allocs, holds-parents, holds-words, encode-of}
use Rattle.frames.specs.Buffer.{FitsEntry, HoldsFrames}
use Rattle.frames.proofs.FromValid.{made-fits}
use Rattle.parts.specs.Trees.{HoldsMarked}
use Rattle.end_call.specs.Release.{HoldsNodes, AllMade, unless_refused, ReleasedAll, after_end_call, Checked, Ended}
use Rattle.end_call.proofs.Releases.{all-kept, same-records, same-parents, same-words, rest_at}

-- ---- 4
abbrev pub is_unmade : Memory → Provenance → Bool
is_unmade m e = not (was_made m e)

-- the entries from place i on
module _ (m : Memory) (es : List Provenance) (i : ℕ) (e d : Provenance) (l : i < length es) (q : e ≡ get_or es i d) where
  pub unmade-next : is_unmade m e ≡ false → any (is_unmade m) (drop i es) ≡ any (is_unmade m) (drop (i + 1) es)
  unfolding any
  unmade-next n = ap (any (is_unmade m)) (rest_at es i e d l q) ∙ ap (λ (b : Bool). if b then true else any (is_unmade m) (drop (i + 1) es)) n

  pub unmade-found : is_unmade m e ≡ true → any (is_unmade m) (drop i es) ≡ true
  unfolding any
  unmade-found n = ap (any (is_unmade m)) (rest_at es i e d l q) ∙ ap (λ (b : Bool). if b then true else any (is_unmade m) (drop (i + 1) es)) n

pub all_made : (m : Memory) (es : List Provenance) → any (is_unmade m) es ≡ false → AllMade m es
all_made m es n = all-imp (λ e. is_unmade m e ≡ false) (λ e. was_made m e ≡ true) (λ e. not-not-false (was_made m e)) es (none_pass (is_unmade m) es n)

-- entries that were made have numbers
pub all_fit : {m : Memory} (es : List Provenance) {A P R C : List ℕ} → HoldsMarked m A P R C → AllMade m es → All FitsEntry es
all_fit {m} es h made = all-imp (λ e. was_made m e ≡ true) FitsEntry (λ e w. made-fits m e h.valid w) es made

none-unmade : (m : Memory) (es : List Provenance) → AllMade m es → any (is_unmade m) es ≡ false
unfolding any
none-unmade m [] made = refl
none-unmade m (e ∷ es) made = rw made.0 (none-unmade m es made.1)

module _ {m : Memory} {es : List Provenance} {R C : List ℕ} where
  pub refused-unmade : any (is_unmade m) es ≡ true → {A P : List ℕ} → HoldsMarked m A P R C → Checked m es 4 R C
  unfolding end_call_refusal
  refused-unmade n h =
      let e : end_call_refusal m es ≡ 4 = ap (λ (b : Bool). never_made when b or release_all_refusal m es) n in
      record {
        refusal = sym e;
        nodes = subst (λ (k : ℕ). HoldsNodes (unless_refused k m (after_release_all m es)) R C) (sym e) (record { protectors = h.trees.protectors; codes = h.trees.codes });
      }

  pub made-released : any (is_unmade m) es ≡ false → {answer : ℕ} → ReleasedAll m es answer R C → Checked m es answer R C
  unfolding end_call_refusal
  made-released n k =
      let e : end_call_refusal m es ≡ release_all_refusal m es = ap (λ (b : Bool). never_made when b or release_all_refusal m es) n in
      record {
        refusal = k.refusal ∙ sym e;
        nodes = subst (λ (j : ℕ). HoldsNodes (unless_refused j m (after_release_all m es)) R C) (sym e) k.nodes;
      }

pub all-released : {m : Memory} {es : List Provenance} {answer : ℕ} {R C : List ℕ} → ReleasedAll m es answer R C → AllMade m es → Checked m es answer R C
all-released {m} {es} k made = made-released (none-unmade m es made) k

-- ---- the five buffers
module _ {m : Memory} {A P R W C : List ℕ} (h : Holds m (buffers A P R W C)) where
  module _ (es : List Provenance) where
    end_kept : (buffer : Memory → List ℕ) → ((node n : ℕ) (m : Memory) → buffer (mutate_at n (after_release_in node) m) ≡ buffer m) → buffer m ≡ buffer (after_end_call m es)
    end_kept buffer same =
        if-holds (λ l. buffer m ≡ buffer l) (eqb (end_call_refusal m es) 0) (after_release_all m es) m (λ t. sym (all-kept buffer same es m)) (λ t. refl)

    pub end-call-encode : {R' C' : List ℕ} → HoldsNodes (after_end_call m es) R' C' → buffers A P R' W C' ≡ encode (after_end_call m es)
    end-call-encode k =
        encode-of (after_end_call m es) (holds-allocs h ∙ end_kept held_records same-records) (holds-parents h ∙ end_kept (held 1024 parents_of) same-parents) k.protectors
        (holds-words h ∙ end_kept (held 4096 words_of) same-words) k.codes

    pub end-call-holds : {R' C' : List ℕ} → HoldsNodes (after_end_call m es) R' C' → Holds (after_end_call m es) (buffers A P R' W C')
    end-call-holds k = record {
      valid = if-holds Valid (eqb (end_call_refusal m es) 0) (after_release_all m es) m (λ t. valid-release-all es m h.valid) (λ t. h.valid);
      equal = end-call-encode k;
    }

-- ---- the answer stands for the definition's, whatever the data are
pub ended-answers : {m : Memory} {es : List Provenance} {answer : Answer} {R C : List ℕ} → Ended m es answer R C → (words : List ℕ)
    → answer_of answer words ≡ refused_with (end_call_refusal m es)
ended-answers {m} {es} k words = ap (λ (a : Answer). answer_of a words) k.reply ∙ plain-answers (end_call_refusal m es) words

-- ---- the definition's end call of frame f
nonzero : (n : ℕ) → eqb (suc n) 0 ≡ false
nonzero n = ne_eqb (suc n) 0 (λ e. omega (arith, e))

module _ (f : ℕ) (s : State) where
  abbrev list : List Provenance
  list = entries (frame_at s f)

  pub end-call-answer : (end_call f s).0 ≡ refused_with (end_call_refusal s.memory list)
  unfolding end_call accept_end_call
  end-call-answer = go (end_call_refusal s.memory list)
    where
      go : (n : ℕ) → (definition.unless_refused n s (accept_end_call f s)).0 ≡ refused_with n
      go zero = refl
      go (suc n) = refl

  pub end-call-memory : (end_call f s).1.memory ≡ after_end_call s.memory list
  unfolding end_call accept_end_call
  end-call-memory = go (end_call_refusal s.memory list)
    where
      go : (n : ℕ) → (definition.unless_refused n s (accept_end_call f s)).1.memory ≡ unless_refused n s.memory (after_release_all s.memory list)
      go zero = refl
      go (suc n) = ap (λ (b : Bool). if b then after_release_all s.memory list else s.memory) (sym (nonzero n))

  pub end-call-frames : (end_call f s).1.frames ≡ (if eqb (end_call_refusal s.memory list) 0 then set s.frames f Closed else s.frames)
  unfolding end_call accept_end_call
  end-call-frames = go (end_call_refusal s.memory list)
    where
      go : (n : ℕ) → (definition.unless_refused n s (accept_end_call f s)).1.frames ≡ (if eqb n 0 then set s.frames f Closed else s.frames)
      go zero = refl
      go (suc n) = ap (λ (b : Bool). if b then set s.frames f Closed else s.frames) (sym (nonzero n))

-- ---- the frames' buffer: an accepted end call closes its frame, a refused one leaves all
module _ (f : ℕ) (s : State) {buffer : List ℕ} where
  pub accepted-frames : end_call_refusal s.memory (entries (frame_at s f)) ≡ 0 → HoldsFrames (set s.frames f Closed) buffer
      → HoldsFrames (end_call f s).1.frames buffer
  accepted-frames e h =
      subst (λ (fs : List Frame). HoldsFrames fs buffer)
      (sym (end-call-frames f s ∙ ap (λ (n : ℕ). if eqb n 0 then set s.frames f Closed else s.frames) e)) h

  pub refused-frames : (end_call_refusal s.memory (entries (frame_at s f)) ≡ 0 → ⊥) → HoldsFrames s.frames buffer → HoldsFrames (end_call f s).1.frames buffer
  refused-frames z h =
      subst (λ (fs : List Frame). HoldsFrames fs buffer)
      (sym (end-call-frames f s ∙ ap (λ (b : Bool). if b then set s.frames f Closed else s.frames) (ne_eqb (end_call_refusal s.memory (entries (frame_at s f))) 0 z))) h
