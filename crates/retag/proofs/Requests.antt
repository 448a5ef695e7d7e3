-- A retag by its cases, and what is left to its caller: the frames, and that five buffers hold the memory afterwards.
use Rattle.std.specs.Prelude.{if◌then◌else◌}
use Prim.Native.Nat.{ℕ, zero, suc}
use mathlib.Core.Path.{◌≡◌, refl, sym, ap, ap₂, subst, ◌∙◌}
use mathlib.Core.Bool.{Bool, true, false, not, ◌&&◌, false≢true}
use mathlib.Core.Option.{Option, none, some}
use mathlib.Core.List.{List, [], ◌∷◌, map}
use native.Mathlib.Nat.{zero-add}
use borrow.Author.Tests.{eq-eqb, ne_eqb}
use lib.Dec.{eqb}
use lib.ListN.{length}
use Rattle.definition.specs.Notation.{◌when◌, mutate_at}
use Rattle.definition.specs.Refusal.{never_made}
use Rattle.definition.specs.Layout.{FreezeMask}
use Rattle.definition.specs.Memory.{Provenance, ThinPointer, has_none, allocation_of, Allocation, allocation_at, Answer, named_pointer, refused_with, gives_pointer, unless_refused, names_never_made, check_ptr}
use Rattle.definition.specs.Frame.{State}
use Rattle.definition.specs.Retag.{ReborrowSettings, reborrow_refusal, after_reborrow_in, accept_reborrow, reborrow, retag_without_node, retag}
use Rattle.definition.proofs.Alls.{if-holds, outcome-holds}
use Rattle.definition.proofs.ValidTrees.{settings-agree}
use Rattle.definition.proofs.ValidFrames.{valid-retag}
use Rattle.permission.specs.Codes.{protector, safe_pointer}
use Rattle.pointer.specs.Pointer.{via, provenance_of, thin_pointer_of}
use Rattle.pointer.specs.declared.ThinPointer as pointer
use Rattle.answer.specs.Answer.{answer_of, reply_to}
use Rattle.answer.specs.Answer.Gives.{ThePointer}
use Rattle.answer.specs.declared.Answer as code
use Rattle.answer.specs.declared.Answer.TheVariants.{Refused, Pointer}
use Rattle.answer.proofs.Replies.{refused-reply}
use Rattle.tables.specs.Encoding.{words_of, held}
use Rattle.tables.specs.Held.{buffers, Holds, Trees}
use Rattle.tables.proofs.ReadBack.{encode-of, holds-words}
use Rattle.tables.proofs.Focus.{held_kept}
use Rattle.retag.specs.declared.ReborrowSettings as settings_code
use Rattle.retag.specs.Settings.{mask_of, settings_of}
use Rattle.retag.specs.Retag.{Added, Retagged, entered}

module _ (w : ReborrowSettings) (frame : ℕ) (p : ThinPointer) (s : State) where
  -- ---- the cases
  pub nowhere : p.provenance ≡ none → length w.inside ≡ 0 → retag w frame p s ≡ (gives_pointer none, s)
  unfolding retag retag_without_node
  nowhere e z = rw (e, eq-eqb (length w.inside) 0 z)

  pub nowhere-refused : p.provenance ≡ none → (length w.inside ≡ 0 → ⊥) → retag w frame p s ≡ (refused_with 7, s)
  unfolding retag reborrow reborrow_refusal check_ptr
  nowhere-refused e z = rw (e, zero-add (length w.inside), ne_eqb (length w.inside) 0 z)

  module _ (somewhere : has_none p.provenance ≡ false) where
    is-reborrow : retag w frame p s ≡ reborrow w frame p s
    unfolding retag
    is-reborrow = rw somewhere

    pub refused : (r : ℕ) → r ≡ reborrow_refusal w frame p s → (r ≡ 0 → ⊥) → retag w frame p s ≡ (refused_with r, s)
    unfolding reborrow
    refused zero e z = absurd (z refl)
    refused (suc r) e z = is-reborrow ∙ ap (λ (n : ℕ). unless_refused n s (accept_reborrow w frame p s)) (sym e)

    pub accepted : reborrow_refusal w frame p s ≡ 0 → retag w frame p s ≡ accept_reborrow w frame p s
    unfolding reborrow
    accepted e = is-reborrow ∙ ap (λ (n : ℕ). unless_refused n s (accept_reborrow w frame p s)) e

  pub retagged : (o : Answer × State) → retag w frame p s ≡ o → (r : code.Answer) {A P R C : List ℕ} → r ≡ reply_to ThePointer o.0 → ((words : List ℕ) → answer_of r words ≡ o.0)
      → Trees o.1.memory A P R C → Retagged w frame p s r A P R C
  retagged o e r {A} {P} {R} {C} exact f t =
      record {
        reply = exact ∙ ap (λ (x : Answer × State). reply_to ThePointer x.0) (sym e);
        answers = λ words. f words ∙ ap (λ (x : Answer × State). x.0) (sym e);
        trees = subst (λ (x : Answer × State). Trees x.1.memory A P R C) (sym e) t;
      }

  -- ---- the words
  kept_in : (x : Allocation) → words_of (after_reborrow_in w p x) ≡ words_of x
  unfolding after_reborrow_in
  kept_in x = refl

  accepted-words : held 4096 words_of (accept_reborrow w frame p s).1.memory ≡ held 4096 words_of s.memory
  unfolding accept_reborrow
  accepted-words = held_kept 4096 words_of (after_reborrow_in w p) kept_in (allocation_of p.provenance) s.memory

  pub words-kept : held 4096 words_of (retag w frame p s).1.memory ≡ held 4096 words_of s.memory
  unfolding retag retag_without_node reborrow
  words-kept =
      let Same : State → Type 0 = λ x. held 4096 words_of x.memory ≡ held 4096 words_of s.memory in
      if-holds (λ (o : Answer × State). Same o.1) (has_none p.provenance && eqb (length w.inside) 0)
      (unless_refused (never_made when names_never_made s.memory p.provenance) s (gives_pointer p.provenance, s)) (unless_refused (reborrow_refusal w frame p s) s (accept_reborrow w frame p s))
      (λ t. outcome-holds Same (never_made when names_never_made s.memory p.provenance) s (gives_pointer p.provenance, s) refl (λ z. refl))
      (λ t. outcome-holds Same (reborrow_refusal w frame p s) s (accept_reborrow w frame p s) refl (λ z. accepted-words))

  -- ---- the frames: what is given is entered, if it has provenance
  unchanged : (o : Option Provenance) (r : ℕ) → has_none o ≡ true
      → (unless_refused r s (gives_pointer o, s)).1.frames ≡ entered w.protected frame (named_pointer (unless_refused r s (gives_pointer o, s)).0.names) s.frames
  unchanged none zero e = refl
  unchanged none (suc r) e = refl
  unchanged (some t) r e = absurd (false≢true e)

  is-entered : (r : ℕ) → (unless_refused r s (accept_reborrow w frame p s)).1.frames ≡ entered w.protected frame (named_pointer (unless_refused r s (accept_reborrow w frame p s)).0.names) s.frames
  unfolding accept_reborrow
  is-entered zero = refl
  is-entered (suc r) = refl

  abbrev outcome : Bool → Answer × State
  outcome t =
      if t then unless_refused (never_made when names_never_made s.memory p.provenance) s (gives_pointer p.provenance, s)
      else unless_refused (reborrow_refusal w frame p s) s (accept_reborrow w frame p s)

  by-outcome : (is_none is_zero : Bool) → has_none p.provenance ≡ is_none → (outcome (is_none && is_zero)).1.frames ≡ entered w.protected frame (named_pointer (outcome (is_none && is_zero)).0.names) s.frames
  by-outcome true true e = unchanged p.provenance (never_made when names_never_made s.memory p.provenance) e
  by-outcome true false e = is-entered (reborrow_refusal w frame p s)
  by-outcome false is_zero e = is-entered (reborrow_refusal w frame p s)

  pub retag-frames : (retag w frame p s).1.frames ≡ entered w.protected frame (named_pointer (retag w frame p s).0.names) s.frames
  unfolding retag retag_without_node reborrow
  retag-frames = by-outcome (has_none p.provenance) (eqb (length w.inside) 0) refl

-- ---- a pointer as the code has it
module _ (w : ReborrowSettings) (frame : ℕ) (p : pointer.ThinPointer) {n node : ℕ} (e : p.provenance ≡ via n node) (s : State) where
  pub retagged-refused : (r : ℕ) → r ≡ reborrow_refusal w frame (thin_pointer_of p) s → (r ≡ 0 → ⊥) → {A P R C : List ℕ} → Trees s.memory A P R C
      → Retagged w frame (thin_pointer_of p) s (Refused r) A P R C
  retagged-refused r q z t =
      retagged w frame (thin_pointer_of p) s (refused_with r, s) (refused w frame (thin_pointer_of p) s (ap (λ x. has_none (provenance_of x)) e) r q z) (Refused r) (sym (refused-reply ThePointer r z)) (λ words. refl) t

  pub retagged-child : reborrow_refusal w frame (thin_pointer_of p) s ≡ 0 → {child : ℕ} {A P R C : List ℕ} → Added w (thin_pointer_of p) s.memory n child A P R C
      → Retagged w frame (thin_pointer_of p) s (Pointer (via n child)) A P R C
  unfolding accept_reborrow
  retagged-child z {child} {A} {P} {R} {C} added =
      retagged w frame (thin_pointer_of p) s (accept_reborrow w frame (thin_pointer_of p) s) (accepted w frame (thin_pointer_of p) s (ap (λ x. has_none (provenance_of x)) e) z)
      (Pointer (via n child)) (ap (λ (a : Answer). reply_to ThePointer a) given) (λ words. given)
      (subst (λ (k : ℕ). Trees (mutate_at k (after_reborrow_in w (thin_pointer_of p)) s.memory) A P R C) (sym (ap (λ x. allocation_of (provenance_of x)) e)) added.trees)
    where
      given : gives_pointer (some (record { allocation = n; node = child }))
          ≡ gives_pointer (some (record { allocation = allocation_of (provenance_of p.provenance); node = length (allocation_at s.memory (allocation_of (provenance_of p.provenance))).nodes }))
      given =
          ap (λ (k : ℕ). gives_pointer (some (record { allocation = n; node = k }))) added.number
          ∙ sym (ap (λ x. let q = provenance_of x in gives_pointer (some (record { allocation = allocation_of q; node = length (allocation_at s.memory (allocation_of q)).nodes }))) e)

-- ---- the five buffers afterwards: the words stay as they are
pub retagged-holds : (settings : settings_code.ReborrowSettings) (mask : FreezeMask) (frame : ℕ) (p : ThinPointer) (s : State) (r : code.Answer) {A P R W C A' P' R' C' : List ℕ}
    → Holds s.memory (buffers A P R W C) → Retagged (settings_of settings mask) frame p s r A' P' R' C'
    → Holds (retag (settings_of settings mask) frame p s).1.memory (buffers A' P' R' W C')
retagged-holds settings mask frame p s r {A} {P} {R} {W} {C} h t =
    let w : ReborrowSettings = settings_of settings mask in
    record {
      valid = valid-retag w (settings-agree (safe_pointer settings.pointer) (protector settings.protected) mask settings.freeze) frame p s h.valid;
      equal = encode-of (retag w frame p s).1.memory t.trees.allocs t.trees.parents t.trees.protectors (holds-words h ∙ sym (words-kept w frame p s)) t.trees.codes;
    }

-- without a node nothing changes
pub without-node-same : (p : ThinPointer) (s : State) → (retag_without_node p s).1 ≡ s
unfolding retag_without_node
without-node-same p s = by (never_made when names_never_made s.memory p.provenance)
  where
    by : (r : ℕ) → (unless_refused r s (gives_pointer p.provenance, s)).1 ≡ s
    by zero = refl
    by (suc r) = refl

-- ---- a mask in a buffer, by a number for each byte: what is read there is the mask
module _ (byte : Bool → ℕ) (cell : byte false ≡ 0) (freeze : byte true ≡ 0 → ⊥) where
  pub mask-back : (mask : FreezeMask) → mask_of (map byte mask) ≡ mask
  mask-back [] = refl
  mask-back (true ∷ mask) = ap₂ ◌∷◌ (ap not (ne_eqb (byte true) 0 freeze)) (mask-back mask)
  mask-back (false ∷ mask) = ap₂ ◌∷◌ (ap not (eq-eqb (byte false) 0 cell)) (mask-back mask)

-- and the answer stands for the definition's, whatever the data are
pub without-node-answers : (p : ThinPointer) (s : State) (words : List ℕ) {r : code.Answer} → r ≡ reply_to ThePointer (retag_without_node p s).0
    → answer_of r words ≡ (retag_without_node p s).0
unfolding retag_without_node
without-node-answers p s words e = ap (λ (r : code.Answer). answer_of r words) e ∙ by (never_made when names_never_made s.memory p.provenance) p.provenance
  where
    by : (n : ℕ) (o : Option Provenance) → let a = (unless_refused n s (gives_pointer o, s)).0 in answer_of (reply_to ThePointer a) words ≡ a
    by zero none = refl
    by zero (some t) = refl
    by (suc n) o = refl
