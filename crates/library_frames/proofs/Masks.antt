-- From what the callees leave to an outcome of `perform_retag`: the mask that was filled is the definition's.
use Prim.Native.Nat.{ℕ}
use mathlib.Core.Path.{◌≡◌, refl, sym, ap, subst, ◌∙◌}
use mathlib.Core.Bool.{true, false}
use mathlib.Core.Option.{none}
use mathlib.Core.List.{List}
use native.Mathlib.Omega.{arith}
use lib.ListN.{length, take, replicate, length-replicate}
use Rattle.definition.specs.Layout.{FreezeMask, freeze_mask}
use Rattle.definition.specs.Memory.{ThinPointer}
use Rattle.definition.specs.Memory as definition
use Rattle.definition.specs.Frame.{State}
use Rattle.definition.specs.Retag.{ReborrowSettings, retag_without_node, retag}
use Rattle.definition.specs.Request as request
use Rattle.definition.specs.Request.{adds_no_node}
use Rattle.definition.specs.Run.{retag_with_mask}
use Rattle.answer.specs.Answer.{reply_to}
use Rattle.answer.specs.Answer.Gives.{ThePointer}
use Rattle.answer.specs.declared.Answer.{Answer}
use Rattle.answer.specs.declared.Answer.TheVariants.{Refused}
use Rattle.tables.specs.Held.{Trees}
use Rattle.layout.specs.Filled.{mask_byte, mask_bytes, afterwards}
use Rattle.layout.proofs.Answers.{HasMask}
use Rattle.retag.specs.declared.ReborrowSettings as code
use Rattle.retag.specs.Settings.{mask_of, settings_of}
use Rattle.retag.specs.Retag.{Retagged}
use Rattle.retag.proofs.Requests.{without-node-same, without-node-answers, mask-back}
use Rattle.library_frames.specs.declared.retags.RetagSettings.{RetagSettings}
use Rattle.library_frames.specs.Settings.{request_of, retag_of, fields_of}
use Rattle.library_frames.specs.Outcome.{Performed}
use Rattle.library_frames.proofs.Performed.{masked, unmasked, without-node, with-mask}

-- the buffer before it is filled
abbrev pub blank : List ℕ
blank = replicate 4096 0

pub blank-length : length blank ≡ 4096
blank-length = length-replicate {A = ℕ} 4096 0

-- the front of the buffer is read as the mask
mask-read : {ws before after : List ℕ} {n : ℕ} (h : HasMask ws before after n) → mask_of (take n after) ≡ h.mask
unfolding mask_bytes
mask-read h = ap mask_of h.front ∙ mask-back mask_byte refl (λ z. omega arith) h.mask

module _ (settings : RetagSettings) (p : ThinPointer) (layout : List ℕ) (s : State) {A P R C : List ℕ} where
  -- ---- with a mask, and without
  pub performed-mask : {r : Answer} (w : code.ReborrowSettings) → ((mask : FreezeMask) → settings_of w mask ≡ request.settings_of (fields_of settings) mask)
      → (buffer : List ℕ) (n : ℕ) → HasMask layout buffer (afterwards layout buffer) n → (filled : List ℕ) → filled ≡ afterwards layout buffer
      → Retagged (settings_of w (mask_of (take n filled))) 0 p s r A P R C → Performed (retag_with_mask (freeze_mask layout) s (request_of settings p layout)) r A P R C
  performed-mask {r} w same buffer n h filled f k =
      let e : settings_of w (mask_of (take n filled)) ≡ request.settings_of (fields_of settings) h.mask =
      ap (λ (l : List ℕ). settings_of w (mask_of (take n l))) f ∙ ap (settings_of w) (mask-read h) ∙ same h.mask in
      subst (λ (o : definition.Answer × State). Performed o r A P R C) (ap (λ (x : ReborrowSettings). retag x 0 p s) e ∙ sym (masked settings p layout s h.mask h.defined))
      (record { reply = k.reply; answers = k.answers; trees = k.trees })

  pub performed-none : freeze_mask layout ≡ none → Trees s.memory A P R C → Performed (retag_with_mask (freeze_mask layout) s (request_of settings p layout)) (Refused 3) A P R C
  performed-none e t =
      subst (λ (o : definition.Answer × State). Performed o (Refused 3) A P R C) (sym (unmasked settings p layout s e)) (record { reply = refl; answers = λ words. refl; trees = t })

  -- ---- without a node, and with
  pub performed-same : {r : Answer} → adds_no_node (fields_of settings) ≡ true → r ≡ reply_to ThePointer (retag_without_node p s).0 → Trees s.memory A P R C
      → Performed (retag_of settings p layout s) r A P R C
  performed-same {r} e f t =
      subst (λ (o : definition.Answer × State). Performed o r A P R C) (sym (without-node settings p layout s e))
      (record { reply = f; answers = λ words. without-node-answers p s words f; trees = subst (λ (x : State). Trees x.memory A P R C) (sym (without-node-same p s)) t })

  pub performed-node : {r : Answer} → adds_no_node (fields_of settings) ≡ false → Performed (retag_with_mask (freeze_mask layout) s (request_of settings p layout)) r A P R C
      → Performed (retag_of settings p layout s) r A P R C
  performed-node {r} e k = subst (λ (o : definition.Answer × State). Performed o r A P R C) (sym (with-mask settings p layout s e)) k
