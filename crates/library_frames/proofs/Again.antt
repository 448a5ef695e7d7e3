-- What passes 1 does so after the entry: what it leaves can be lent to the next one.
use Prim.Native.Nat.{ℕ, ◌+◌, ◌≤◌}
use mathlib.Core.Path.{◌≡◌, refl, sym, ap, subst⁻¹, ◌∙◌}
use mathlib.Core.Bool.{Bool, true, false, ◌&&◌, ◌||◌}
use mathlib.Core.List.{List, [], ◌∷◌, ◌++◌, map}
use native.Mathlib.Omega.{arith}
use borrow.Author.Tests.{ltb-false, eq-eqb, le-leb}
use lib.Dec.{eqb, ltb}
use lib.ListN.{length, length-append}
use Rattle.definition.specs.Notation.{◌when◌, ◌or◌}
use Rattle.definition.specs.Refusal.{never_made, below_start, size_exceeded}
use Rattle.definition.specs.Permission.{is_yes}
use Rattle.definition.specs.Memory.{Provenance, ThinPointer, has_none, allocation_of, Allocation, Memory, target, offset, Answer, unless_refused, names_never_made, check_ptr, exceeds_bounds}
use Rattle.definition.specs.Frame.{entries, State, frame_at}
use Rattle.definition.specs.Frame.Frame.{Open}
use Rattle.definition.specs.Retag.{ReborrowSettings, with_child, init_refusal, is_below_start, of_node, entry_bound, exceeds_entries, reborrow_refusal, accept_reborrow, reborrow, retag_without_node, retag}
use Rattle.definition.specs.Request.{Request, settings_of, safe_pointer, protector_of, freeze}
use Rattle.definition.specs.Valid.{Valid, Narrow}
use Rattle.definition.proofs.Booleans.{or-neither, or_left, or_right, when-none}
use Rattle.definition.proofs.Alls.{if-holds, outcome-holds}
use Rattle.definition.proofs.Writes.{write-length}
use Rattle.definition.proofs.ValidTrees.{settings-agree}
use Rattle.definition.proofs.ValidFrames.{valid-retag}
use Rattle.definition.proofs.NarrowRuns.{reborrow-narrow}
use Rattle.pointer.specs.Width.{width_at}
use Rattle.tables.specs.Encoding.{encode}
use Rattle.tables.specs.Decoding.{view}
use Rattle.wellformed.specs.AtWidth.{HoldsAt}
use Rattle.wellformed.proofs.AtWidth.{holds_at, complete-at}
use Rattle.frames.specs.List.{entry_of, first_of}
use Rattle.retag.proofs.Requests.{without-node-same}
use Rattle.library_frames.specs.declared.retags.RetagSettings.{RetagSettings}
use Rattle.library_frames.specs.Settings.{retag_of, fields_of, bad_fields}
use Rattle.library_frames.specs.Retag.{Lent, is_lent, state_of, left, served}
use Rattle.library_frames.proofs.Performed.{by_cases}
use Rattle.library_frames.proofs.Lent.{lent-places, lent-count, lent-formed, first-length, served-bad, served-good}

-- not refused with 1
abbrev pub Passes : ℕ → Lent → Type 0
Passes width l = is_lent width (length l.places) l.count l.memory ≡ true

-- the frame has 64 entries at most
abbrev Few : State → Type 0
Few x = length (entries (frame_at x 0)) ≤ 64

-- ---- the frame has room: 15 tests it
module _ (w : ReborrowSettings) (p : ThinPointer) (m : Memory) (es : List Provenance) where
  abbrev s : State
  s = record { memory = m; frames = Open es ∷ [] }

  entry-fits : reborrow_refusal w 0 p s ≡ 0 → exceeds_entries w 0 s ≡ false
  unfolding reborrow_refusal
  entry-fits e =
      let a : Allocation = target m p in
      let too_much : Bool = exceeds_bounds m (of_node a) || exceeds_entries w 0 s in
      let r4 : ℕ = never_made when names_never_made m p.provenance in
      let r9 : ℕ = check_ptr a p 0 (length w.inside) in
      let r14 : ℕ = below_start when is_below_start w p a in
      let r15 : ℕ = size_exceeded when too_much in
      let r17 : ℕ = init_refusal (length a.nodes) (offset a p) w.inside (with_child w p a) in
      let from15 : (r15 or r17) ≡ 0 = or_right r14 (r15 or r17) (or_right r9 (r14 or r15 or r17) (or_right r4 (r9 or r14 or r15 or r17) e)) in
      (or-neither (exceeds_bounds m (of_node a)) (exceeds_entries w 0 s) (when-none 14 too_much (or_left r15 r17 from15))).1

  module _ (few : length es ≤ 64) where
    accepted-few : reborrow_refusal w 0 p s ≡ 0 → Few (accept_reborrow w 0 p s).1
    unfolding accept_reborrow
    accepted-few e =
        let child : Provenance = record { allocation = allocation_of p.provenance; node = length (target m p).nodes } in
        if-holds (λ fs. Few (record { memory = m; frames = fs })) (is_yes w.protected) (Open (es ++ (child ∷ [])) ∷ []) (Open es ∷ [])
        (λ y.
        let fits : ltb entry_bound (length es + 1) ≡ false = ap (λ (b : Bool). b && ltb entry_bound (length es + 1)) (sym y) ∙ entry-fits e in
        omega (arith, ltb-false entry_bound (length es + 1) fits, length-append es (child ∷ [])))
        (λ n. few)

    pub retag-few : Few (retag w 0 p s).1
    unfolding retag reborrow
    retag-few =
        if-holds (λ (o : Answer × State). Few o.1) (has_none p.provenance && eqb (length w.inside) 0) (retag_without_node p s)
        (unless_refused (reborrow_refusal w 0 p s) s (accept_reborrow w 0 p s))
        (λ z. subst⁻¹ Few (without-node-same p s) few)
        (λ z. outcome-holds Few (reborrow_refusal w 0 p s) s (accept_reborrow w 0 p s) few accepted-few)

-- ---- the entry
module _ (width : ℕ) (settings : RetagSettings) (p : ThinPointer) (layout : List ℕ) (l : Lent) (passes : Passes width l) where
  abbrev outcome : Answer × State
  outcome = retag_of settings p layout (state_of l)

  held : HoldsAt width (view l.memory) l.memory
  held = holds_at width l.memory (lent-formed width (length l.places) l.count l.memory passes)

  left-valid : Valid outcome.1.memory
  left-valid =
      by_cases settings p layout (state_of l) (λ (o : Answer × State). Valid o.1.memory) (λ e. subst⁻¹ (λ (x : State). Valid x.memory) (without-node-same p (state_of l)) held.holds.valid)
      held.holds.valid
      (λ e mask.
      let q : Request = fields_of settings in
      valid-retag (settings_of q mask) (settings-agree (safe_pointer q) (protector_of q) mask (freeze q)) 0 p (state_of l) held.holds.valid)

  -- in the addresses and positions of the width
  abbrev Near : State → Type 0
  Near x = Narrow (width_at width) x.memory

  retag-near : (w : ReborrowSettings) → Near (retag w 0 p (state_of l)).1
  unfolding retag
  retag-near w =
      if-holds (λ (o : Answer × State). Near o.1) (has_none p.provenance && eqb (length w.inside) 0) (retag_without_node p (state_of l)) (reborrow w 0 p (state_of l))
      (λ z. subst⁻¹ Near (without-node-same p (state_of l)) held.narrow) (λ z. reborrow-narrow (width_at width) w 0 p (state_of l) held.narrow)

  left-narrow : Near outcome.1
  left-narrow =
      by_cases settings p layout (state_of l) (λ (o : Answer × State). Near o.1) (λ e. subst⁻¹ Near (without-node-same p (state_of l)) held.narrow) held.narrow
      (λ e mask. retag-near (settings_of (fields_of settings) mask))

  left-few : Few outcome.1
  left-few =
      let places = lent-places width (length l.places) l.count l.memory passes in
      let taken = lent-count width (length l.places) l.count l.memory passes in
      let few : length (first_of l.count l.places) ≤ 64 = omega (arith, first-length l.count l.places (omega arith)) in
      by_cases settings p layout (state_of l) (λ (o : Answer × State). Few o.1) (λ e. subst⁻¹ Few (without-node-same p (state_of l)) few) few
      (λ e mask. retag-few (settings_of (fields_of settings) mask) p (view l.memory) (first_of l.count l.places) few)

  left-passes : Passes width (left l outcome.1)
  left-passes =
      let m : Memory = outcome.1.memory in
      rw (
        eq-eqb _ 64 (write-length 0 (map entry_of (entries (frame_at outcome.1 0))) l.places ∙ lent-places width (length l.places) l.count l.memory passes),
        le-leb _ 64 left-few,
      )
      (complete-at width (encode m) m (record { numbered = held.numbered; holds = record { valid = left-valid; equal = refl }; narrow = left-narrow }))

  pub passes-again : Passes width (served width (bad_fields width settings p.address layout) (retag_of settings p layout) l).1
  passes-again = by (bad_fields width settings p.address layout) refl
    where
      by : (bad : Bool) → bad_fields width settings p.address layout ≡ bad → Passes width (served width (bad_fields width settings p.address layout) (retag_of settings p layout) l).1
      by true e = subst⁻¹ (λ (o : Answer × Lent). Passes width o.1) (served-bad width (bad_fields width settings p.address layout) (retag_of settings p layout) l passes e) passes
      by false e = subst⁻¹ (λ (o : Answer × Lent). Passes width o.1) (served-good width (bad_fields width settings p.address layout) (retag_of settings p layout) l passes e) left-passes
