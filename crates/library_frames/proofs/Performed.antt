-- `perform_retag` of the settings' request by its cases, and what it leaves: the words, and the frames with the node that is entered.
use Rattle.std.specs.Prelude.{if◌then◌else◌}
use Prim.Native.Nat.{ℕ}
use mathlib.Core.Path.{◌≡◌, refl, sym, ap, ap₂, subst, ◌∙◌}
use mathlib.Core.Bool.{Bool, true, false, not, ◌&&◌}
use mathlib.Core.Option.{Option, none, some}
use mathlib.Core.List.{List, [], ◌∷◌, ◌++◌}
use lib.ListN.{set}
use Rattle.definition.specs.Permission.{is_yes}
use Rattle.definition.specs.Layout.{FreezeMask, freeze_mask}
use Rattle.definition.specs.Memory.{Provenance, ThinPointer, Answer, named_pointer, refused_with}
use Rattle.definition.specs.Frame.{Frame, entries, State, frame_at}
use Rattle.definition.specs.Frame.Frame.{Open}
use Rattle.definition.specs.Retag.{ReborrowSettings, retag_without_node, retag}
use Rattle.definition.specs.Request.{Request, function_entry, adds_no_node, settings_of}
use Rattle.definition.specs.Run.{retag_with_mask, perform_retag}
use Rattle.tables.specs.Encoding.{words_of, held}
use Rattle.retag.specs.Retag.{entered}
use Rattle.retag.proofs.Requests.{retag-frames, words-kept, without-node-same}
use Rattle.library_frames.specs.declared.retags.RetagSettings.{RetagSettings}
use Rattle.library_frames.specs.Settings.{request_of, retag_of, fields_of, protects}
use Rattle.library_frames.specs.Outcome.{entered_node}
use Rattle.library_frames.proofs.Fields.{frame-zero, pointer_back, protects-entry}
use Rattle.library_frames.proofs.Entering.{nothing-entered}

-- the frames with one more entry in frame 0
abbrev pub frames_entered : Option Provenance → State → List Frame
frames_entered none s = s.frames
frames_entered (some child) s = set s.frames 0 (Open (entries (frame_at s 0) ++ (child ∷ [])))

frames-with : (w : ReborrowSettings) (is_protected : Bool) → is_yes w.protected ≡ is_protected → (o : Option Provenance) (s : State)
    → entered w.protected 0 o s.frames ≡ frames_entered (entered_node is_protected o) s
frames-with w true e none s = refl
frames-with w false e none s = refl
frames-with w true e (some child) s = ap (λ (t : Bool). if t then set s.frames 0 (Open (entries (frame_at s 0) ++ (child ∷ []))) else s.frames) e
frames-with w false e (some child) s = ap (λ (t : Bool). if t then set s.frames 0 (Open (entries (frame_at s 0) ++ (child ∷ []))) else s.frames) e

module _ (settings : RetagSettings) (p : ThinPointer) (layout : List ℕ) (s : State) where
  abbrev q : Request
  q = request_of settings p layout

  -- ---- the cases
  pub masked : (mask : FreezeMask) → freeze_mask layout ≡ some mask → retag_with_mask (freeze_mask layout) s q ≡ retag (settings_of (fields_of settings) mask) 0 p s
  unfolding retag_with_mask
  masked mask e =
      ap (λ (o : Option FreezeMask). retag_with_mask o s q) e
      ∙ ap₂ (λ (frame : ℕ) (t : ThinPointer). retag (settings_of (fields_of settings) mask) frame t s) (frame-zero settings) (pointer_back settings p layout)

  pub unmasked : freeze_mask layout ≡ none → retag_with_mask (freeze_mask layout) s q ≡ (refused_with 3, s)
  unfolding retag_with_mask
  unmasked e = ap (λ (o : Option FreezeMask). retag_with_mask o s q) e

  pub without-node : adds_no_node (fields_of settings) ≡ true → retag_of settings p layout s ≡ retag_without_node p s
  unfolding perform_retag
  without-node e = rw e (ap (λ (t : ThinPointer). retag_without_node t s) (pointer_back settings p layout))

  pub with-mask : adds_no_node (fields_of settings) ≡ false → retag_of settings p layout s ≡ retag_with_mask (freeze_mask layout) s q
  unfolding perform_retag
  with-mask e = rw e

  -- ---- what holds of each outcome
  module _ (Of : Answer × State → Type 0) (same : adds_no_node (fields_of settings) ≡ true → Of (retag_without_node p s)) (refused : Of (refused_with 3, s))
      (retagged : adds_no_node (fields_of settings) ≡ false → (mask : FreezeMask) → Of (retag (settings_of (fields_of settings) mask) 0 p s)) where
    pub by_cases : Of (retag_of settings p layout s)
    by_cases = by-node (adds_no_node (fields_of settings)) refl
      where
        by_mask : adds_no_node (fields_of settings) ≡ false → (o : Option FreezeMask) → freeze_mask layout ≡ o → Of (retag_with_mask (freeze_mask layout) s q)
        by_mask n none e = subst Of (sym (unmasked e)) refused
        by_mask n (some mask) e = subst Of (sym (masked mask e)) (retagged n mask)

        by-node : (none-added : Bool) → adds_no_node (fields_of settings) ≡ none-added → Of (retag_of settings p layout s)
        by-node true e = subst Of (sym (without-node e)) (same e)
        by-node false e = subst Of (sym (with-mask e)) (by_mask e (freeze_mask layout) refl)

  -- ---- what it leaves
  pub perform-words : held 4096 words_of (retag_of settings p layout s).1.memory ≡ held 4096 words_of s.memory
  perform-words =
      by_cases (λ (o : Answer × State). held 4096 words_of o.1.memory ≡ held 4096 words_of s.memory)
      (λ e. ap (λ (x : State). held 4096 words_of x.memory) (without-node-same p s)) refl
      (λ e mask. words-kept (settings_of (fields_of settings) mask) 0 p s)

  pub perform-frames : (retag_of settings p layout s).1.frames ≡ frames_entered (entered_node (protects settings) (named_pointer (retag_of settings p layout s).0.names)) s
  perform-frames =
      by_cases (λ (o : Answer × State). o.1.frames ≡ frames_entered (entered_node (protects settings) (named_pointer o.0.names)) s)
      (λ e.
      ap (λ (x : State). x.frames) (without-node-same p s)
      ∙ ap (λ (t : Bool). frames_entered (entered_node (not t && function_entry (fields_of settings)) (named_pointer (retag_without_node p s).0.names)) s) (sym e))
      (ap (λ (o : Option Provenance). frames_entered o s) (sym (nothing-entered (protects settings))))
      (λ e mask.
      let w : ReborrowSettings = settings_of (fields_of settings) mask in
      let given : Option Provenance = named_pointer (retag w 0 p s).0.names in
      retag-frames w 0 p s ∙ frames-with w (function_entry (fields_of settings)) (protects-entry settings) given s
      ∙ ap (λ (t : Bool). frames_entered (entered_node (not t && function_entry (fields_of settings)) given) s) (sym e))
