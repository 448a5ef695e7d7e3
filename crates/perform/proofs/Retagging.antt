-- A retag in a run: its settings, the frame's room for the entry of an accepted one, its mask, and what is left in each case.
use Rattle.std.specs.Prelude.{if◌then◌else◌}
use Prim.Native.Nat.{ℕ, ◌<◌}
use mathlib.Core.Path.{◌≡◌, refl, sym, ap, subst, ◌∙◌}
use mathlib.Core.Bool.{Bool, true, false}
use mathlib.Core.Option.{Option, none, some}
use mathlib.Core.List.{List, [], ◌∷◌, ◌++◌}
use native.Mathlib.Omega.{arith}
use lib.ListN.{length, get_or, take, set, length-append}
use lib.Seq.{get_or-set_same}
use Rattle.definition.specs.Permission.{Protected, is_yes}
use Rattle.definition.specs.Layout.{FreezeMask, freeze_mask}
use Rattle.definition.specs.Memory.{Provenance, ThinPointer, named_pointer, was_made}
use Rattle.definition.specs.Memory as definition
use Rattle.definition.specs.Frame.{Frame, State}
use Rattle.definition.specs.Frame.Frame.{Closed, Open}
use Rattle.definition.specs.Retag.{ReborrowSettings, retag_without_node, retag}
use Rattle.definition.specs.Request.{Request, adds_no_node, pointer, frame_number}
use Rattle.definition.specs.Request as requests
use Rattle.definition.specs.Run.{retag_with_mask, perform_retag}
use Rattle.definition.specs.Valid.{ValidFrame, ValidState}
use Rattle.definition.proofs.ValidTrees.{settings-agree}
use Rattle.definition.proofs.ValidFrames.{valid-after, retag-kept, closed-valid}
use Rattle.definition.proofs.Alls.{all_get_d, all-last}
use Rattle.permission.specs.Codes.{protector, safe_pointer}
use Rattle.answer.specs.Answer.{answer_of}
use Rattle.answer.specs.declared.Answer.{Answer}
use Rattle.answer.specs.declared.Answer.TheVariants.{Refused}
use Rattle.tables.specs.Held.{Trees}
use Rattle.layout.specs.Filled.{mask_byte, mask_bytes}
use Rattle.layout.proofs.Answers.{HasMask}
use Rattle.frames.specs.Buffer.{entries_at, frames_held, FitsEntry}
use Rattle.frames.proofs.FromValid.{made-fits}
use Rattle.retag.specs.Settings.{mask_of, settings_of}
use Rattle.retag.specs.declared.ReborrowSettings as code
use Rattle.retag.specs.Retag.{entered, Retagged}
use Rattle.retag.proofs.Requests.{retag-frames, without-node-same, mask-back}
use Rattle.perform.specs.Performed.{LeftTrees}
use Rattle.state.specs.State.{HoldsTreesAndFrames}
use Rattle.perform.specs.Entered.{CanEnter}
use Rattle.state.proofs.States.{frames-held}

-- ---- a frame's entry
module _ (protected : Protected) (f : ℕ) (fs : List Frame) where
  pub is-entered : is_yes protected ≡ true → (child : Provenance) → entered protected f (some child) fs ≡ set fs f (Open (entries_at fs f ++ (child ∷ [])))
  is-entered e child = ap (λ (b : Bool). if b then set fs f (Open (entries_at fs f ++ (child ∷ []))) else fs) e

-- ---- a retag that has a mask
module _ {s : State} {A P R C F : List ℕ} (h : HoldsTreesAndFrames s A P R C F) (settings : code.ReborrowSettings) (mask : FreezeMask) (f : ℕ) (inside : f < 32) (p : ThinPointer) where
  abbrev w : ReborrowSettings
  w = settings_of settings mask

  after-valid : ValidState (retag w f p s).1
  after-valid =
      valid-after s (retag w f p s).1
      (retag-kept w (settings-agree (safe_pointer settings.pointer) (protector settings.protected) mask settings.freeze) f p s h.valid.memory) h.valid

  frames-after : (retag w f p s).1.frames ≡ entered w.protected f (named_pointer (retag w f p s).0.names) s.frames
  frames-after = retag-frames w f p s

  module _ {r : Answer} {A' P' R' C' : List ℕ} (k : Retagged w f p s r A' P' R' C') where
    given : named_pointer (answer_of r []).names ≡ named_pointer (retag w f p s).0.names
    given = ap (λ (a : definition.Answer). named_pointer a.names) (k.answers [])

    -- an accepted one's frame afterwards
    module _ (yes : is_yes w.protected ≡ true) (child : Provenance) (e : named_pointer (answer_of r []).names ≡ some child) where
      frame-after : get_or (retag w f p s).1.frames f Closed ≡ Open (entries_at s.frames f ++ (child ∷ []))
      frame-after =
          ap (λ (fs : List Frame). get_or fs f Closed)
          (frames-after ∙ ap (λ (o : Option Provenance). entered w.protected f o s.frames) (sym given ∙ e) ∙ is-entered w.protected f s.frames yes child)
          ∙ get_or-set_same s.frames f (Open (entries_at s.frames f ++ (child ∷ []))) Closed (omega (arith, h.valid.count))

      valid-frame : ValidFrame (retag w f p s).1.memory (Open (entries_at s.frames f ++ (child ∷ [])))
      valid-frame =
          subst (λ (x : Frame). ValidFrame (retag w f p s).1.memory x) frame-after
          (all_get_d (ValidFrame (retag w f p s).1.memory) (retag w f p s).1.frames f Closed after-valid.frames (closed-valid (retag w f p s).1.memory))

      has_room : length (entries_at s.frames f) < 64
      has_room = omega (arith, valid-frame.room, length-append (entries_at s.frames f) (child ∷ []))

      fits : FitsEntry child
      fits =
          made-fits (retag w f p s).1.memory child after-valid.memory
          (all-last (λ e. was_made (retag w f p s).1.memory e ≡ true) (entries_at s.frames f) child valid-frame.made)

    pub can-enter : CanEnter (protector settings.protected) f (named_pointer (answer_of r []).names) s.frames F
    can-enter = record { holds = frames-held h; room = has_room; small = fits }

    pub left-entered : {F' : List ℕ} → F' ≡ frames_held (entered (protector settings.protected) f (named_pointer (answer_of r []).names) s.frames) → LeftTrees (retag w f p s) r A' P' R' C' F'
    left-entered e = record {
      answers = k.answers;
      trees = k.trees;
      frames = e ∙ ap frames_held (ap (λ (o : Option Provenance). entered w.protected f o s.frames) given ∙ sym frames-after);
    }

-- ---- the mask
pub mask-read : {ws before after : List ℕ} {n : ℕ} (has : HasMask ws before after n) → mask_of (take n after) ≡ has.mask
unfolding mask_bytes
mask-read has = ap mask_of has.front ∙ mask-back mask_byte refl (λ e. omega (arith, e)) has.mask

-- ---- the cases
module _ {s : State} {A P R C F : List ℕ} (h : HoldsTreesAndFrames s A P R C F) where
  -- nothing changes
  pub left-same : {o : definition.Answer × State} {r : Answer} → ((words : List ℕ) → answer_of r words ≡ o.0) → o.1 ≡ s → LeftTrees o r A P R C F
  left-same {o} {r} f e = record {
    answers = f;
    trees = subst (λ (x : State). Trees x.memory A P R C) (sym e) h.trees;
    frames = h.frames ∙ ap (λ (x : State). frames_held x.frames) (sym e);
  }

  module _ (q : Request) where
    pub left-without-mask : freeze_mask q.following ≡ none → LeftTrees (retag_with_mask (freeze_mask q.following) s q) (Refused 3) A P R C F
    unfolding retag_with_mask
    left-without-mask e = rw e (left-same (λ words. refl) refl)

    pub left-without-node : adds_no_node q ≡ true → {r : Answer} → ((words : List ℕ) → answer_of r words ≡ (retag_without_node (pointer q) s).0) → LeftTrees (perform_retag s q) r A P R C F
    unfolding perform_retag
    left-without-node e f = rw e (left-same f (without-node-same (pointer q) s))

pub left-with-node : (s : State) (q : Request) → adds_no_node q ≡ false → {r : Answer} {A P R C F : List ℕ} → LeftTrees (retag_with_mask (freeze_mask q.following) s q) r A P R C F
    → LeftTrees (perform_retag s q) r A P R C F
unfolding perform_retag
left-with-node s q e k = rw e k

pub left-with-mask : (s : State) (q : Request) (mask m : FreezeMask) → freeze_mask q.following ≡ some mask → m ≡ mask → {r : Answer} {A P R C F : List ℕ}
    → LeftTrees (retag (requests.settings_of q m) (frame_number q) (pointer q) s) r A P R C F → LeftTrees (retag_with_mask (freeze_mask q.following) s q) r A P R C F
unfolding retag_with_mask
left-with-mask s q mask m e same {r} {A} {P} {R} {C} {F} k =
    rw e (subst (λ (x : FreezeMask). LeftTrees (retag (requests.settings_of q x) (frame_number q) (pointer q) s) r A P R C F) same k)
