-- What `served` is, case by case, and a law for each way the entry returns.
use Rattle.std.specs.Prelude as std
use Rattle.std.specs.Prelude.{if◌then◌else◌}
use Prim.Native.Nat.{ℕ, zero, suc, ◌≤◌}
use mathlib.Core.Path.{◌≡◌, refl, sym, ap, subst⁻¹, ◌∙◌}
use mathlib.Core.Bool.{Bool, true, false, ◌&&◌}
use mathlib.Core.Option.{Option}
use mathlib.Core.List.{List, [], ◌∷◌, ◌++◌, map}
use native.Mathlib.Omega.{arith}
use borrow.Author.Tests.{eqb-true, leb-true, eq-eqb, le-leb}
use lib.Dec.{eqb, leb}
use lib.ListN.{length, get_or, take, set, length-map, length-append}
use lib.Seq.{length-take-le}
use Rattle.definition.specs.Notation.{write_at}
use Rattle.definition.specs.Memory.{Memory, named_pointer}
use Rattle.definition.specs.Memory as definition
use Rattle.definition.specs.Frame.{State, Frame, entries, frame_at}
use Rattle.definition.specs.Frame.Frame.{Closed, Open}
use Rattle.definition.proofs.Booleans.{and_left, and_right}
use Rattle.definition.proofs.Writes.{write-none}
use Rattle.pointer.specs.Pointer.{provenance_of}
use Rattle.pointer.specs.declared.Provenance.{Provenance}
use Rattle.std.specs.Prelude.{None, Some}
use Rattle.answer.specs.Answer.{answer_of, replied}
use Rattle.answer.specs.Answer.Gives.{ThePointer}
use Rattle.answer.specs.declared.Answer.{Answer}
use Rattle.answer.specs.declared.Answer.TheVariants.{Refused}
use Rattle.answer.proofs.Replies.{refused-reply}
use Rattle.tables.specs.Encoding.{Buffers, encode}
use Rattle.tables.specs.Decoding.{view}
use Rattle.tables.specs.Held.{buffers}
use Rattle.tables.proofs.ReadBack.{view-held, encode-of, holds-words}
use Rattle.wellformed.specs.AtWidth.{well_formed_at, HoldsAt}
use Rattle.wellformed.proofs.AtWidth.{sound-at, complete-at}
use Rattle.frames.specs.List as list
use Rattle.frames.specs.List.{entry_of, first_of, no_entry}
use Rattle.frames.specs.declared.Entry.{Entry}
use Rattle.parts.specs.Trees.{HoldsMarked}
use Rattle.parts.proofs.Lent.{holds-marked}
use Rattle.library_frames.specs.declared.retags.RetagSettings.{RetagSettings}
use Rattle.library_frames.specs.declared.retags.RetagOutcome.{RetagOutcome}
use Rattle.library_frames.specs.Settings.{retag_of, bad_fields, protects}
use Rattle.library_frames.specs.Retag.{Lent, lent, is_lent, state_of, left, served, Served}
use Rattle.library_frames.specs.Outcome.{Performed, entered_node, outcome_of, malformed_outcome}
use Rattle.library_frames.proofs.Performed.{frames_entered, perform-words, perform-frames}

-- ---- the places
-- past the last one nothing is put
set_past : (xs : List Entry) (i : ℕ) (e : Entry) → length xs ≤ i → set xs i e ≡ xs
set_past [] i e l = refl
set_past (x ∷ xs) zero e l = absurd (omega arith)
set_past (x ∷ xs) (suc i) e l = ap {B = List Entry} (λ r. x ∷ r) (set_past xs i e (omega arith))

-- the entries written where they stand, and with one behind them
write_same : (count : ℕ) (xs : List Entry) → write_at 0 (map entry_of (first_of count xs)) xs ≡ xs
unfolding write_at
write_same zero xs = write-none 0 xs
write_same (suc count) [] = refl
write_same (suc count) (x ∷ xs) = ap {B = List Entry} (λ r. x ∷ r) (write_same count xs)

write-more : (count : ℕ) (xs : List Entry) (e : Entry) → write_at 0 (map entry_of (first_of count xs ++ (list.provenance_of e ∷ []))) xs ≡ set xs count e
unfolding write_at
write-more count [] e = refl
write-more zero (x ∷ xs) e = ap {B = List Entry} (λ r. e ∷ r) (write-none 0 xs)
write-more (suc count) (x ∷ xs) e = ap {B = List Entry} (λ r. x ∷ r) (write-more count xs e)

pub first-length : (count : ℕ) (xs : List Entry) → count ≤ length xs → length (first_of count xs) ≡ count
first-length count xs l = length-map (take count xs) _ ∙ length-take-le count xs l

-- ---- what passes 1
module _ (width len count : ℕ) (b : Buffers) (fine : is_lent width len count b ≡ true) where
  pub lent-places : len ≡ 64
  lent-places = eqb-true len 64 (and_left (eqb len 64) (leb count 64 && well_formed_at width b) fine)

  counted : leb count 64 && well_formed_at width b ≡ true
  counted = and_right (eqb len 64) (leb count 64 && well_formed_at width b) fine

  pub lent-count : count ≤ 64
  lent-count = leb-true count 64 (and_left (leb count 64) (well_formed_at width b) counted)

  pub lent-formed : well_formed_at width b ≡ true
  lent-formed = and_right (leb count 64) (well_formed_at width b) counted

  pub lent-nodes : HoldsMarked (view b) b.allocs b.parents b.protectors b.codes
  lent-nodes = holds-marked (sound-at width b lent-formed)

-- ---- what `served` is
module _ (width : ℕ) (bad : Bool) (request : State → definition.Answer × State) (l : Lent) where
  -- other than 64 places, more than 64 entries, or buffers that no valid memory at the width encodes to
  pub served-none : is_lent width (length l.places) l.count l.memory ≡ false → served width bad request l ≡ (definition.refused_with 1, l)
  unfolding served
  served-none e = rw e

  module _ (fine : is_lent width (length l.places) l.count l.memory ≡ true) where
    pub served-bad : bad ≡ true → served width bad request l ≡ (definition.refused_with 2, l)
    unfolding served
    served-bad e = rw (fine, e)

    pub served-good : bad ≡ false → served width bad request l ≡ ((request (state_of l)).0, left l (request (state_of l)).1)
    unfolding served
    served-good e = rw (fine, e)

-- the request of a memory that they hold
pub served-held : (width : ℕ) (request : State → definition.Answer × State) (l : Lent) (m : Memory) → HoldsAt width m l.memory → length l.places ≡ 64 → l.count ≤ 64
    → served width false request l
    ≡ (let outcome = request (record { memory = m; frames = Open (first_of l.count l.places) ∷ [] }) in (outcome.0, left l outcome.1))
served-held width request l m h places few =
    let fine : is_lent width (length l.places) l.count l.memory ≡ true = rw (eq-eqb _ 64 places, le-leb _ 64 few) (complete-at width l.memory m h) in
    served-good width false request l fine refl
    ∙ ap (λ (x : Memory). let outcome = request (record { memory = x; frames = Open (first_of l.count l.places) ∷ [] }) in (outcome.0, left l outcome.1))
    (view-held m l.memory h.holds)

-- ---- refused with 1 or 2, for whatever stands in the places
module _ (width len count : ℕ) (b : Buffers) where
  -- nothing is put in
  refused-same : (n : ℕ) → (n ≡ 0 → ⊥) → (places : List Entry) → length places ≡ len
      → ◌≡◌ {A = Answer × Lent} (Refused n, lent (set places len no_entry) count b) (replied ThePointer (definition.refused_with n, lent places count b))
  unfolding replied
  refused-same n z places whole =
      let same = set_past places len no_entry (omega arith) in
      let exact = sym (refused-reply ThePointer n z) in
      λ i. (exact i, lent (same i) count b)

  module _ (places : List Entry) (whole : length places ≡ len) where
    passes : {t : Bool} → is_lent width len count b ≡ t → is_lent width (length places) count b ≡ t
    passes e = ap (λ (n : ℕ). is_lent width n count b) whole ∙ e

  module _ (bad : Bool) (request : State → definition.Answer × State) (places : List Entry) (whole : length places ≡ len) where
    refused-one : is_lent width len count b ≡ false → ◌≡◌ {A = Answer × Lent} (Refused 1, lent (set places len no_entry) count b) (replied ThePointer (served width bad request (lent places count b)))
    refused-one e = refused-same 1 (λ z. omega arith) places whole ∙ ap (replied ThePointer) (sym (served-none width bad request (lent places count b) (passes places whole e)))

    refused-two : is_lent width len count b ≡ true → bad ≡ true → ◌≡◌ {A = Answer × Lent} (Refused 2, lent (set places len no_entry) count b) (replied ThePointer (served width bad request (lent places count b)))
    refused-two e f = refused-same 2 (λ z. omega arith) places whole ∙ ap (replied ThePointer) (sym (served-bad width bad request (lent places count b) (passes places whole e) f))

  -- where a field falls under 2
  pub malformed-served : (request : State → definition.Answer × State) (places : List Entry) → length places ≡ len
      → let r = malformed_outcome width len count b in
      ◌≡◌ {A = Answer × Lent} (r.answer.answer, lent (set places r.at r.entry) r.answer.count b) (replied ThePointer (served width true request (lent places count b)))
  malformed-served request places whole = by (is_lent width len count b) refl
    where
      by : (t : Bool) → is_lent width len count b ≡ t
          → ◌≡◌ {A = Answer × Lent} ((if t then Refused 2 else Refused 1), lent (set places len no_entry) count b) (replied ThePointer (served width true request (lent places count b)))
      by true e = refused-two true request places whole e refl
      by false e = refused-one true request places whole e

-- ---- a return each, for whatever stands in the places
module _ (width : ℕ) (settings : RetagSettings) (p : definition.ThinPointer) (layout : List ℕ) (len count : ℕ) (b : Buffers) where
  -- the entry's promise of an outcome of the code, which leaves b'
  abbrev Promised : RetagOutcome → Buffers → Type 0
  Promised r b' = (places : List Entry) → length places ≡ len → Served width settings p layout (lent places count b) r.answer (set places r.at r.entry) b'

  pub not-lent : is_lent width len count b ≡ false → {r : RetagOutcome} → r ≡ outcome_of (Refused 1) None count len → Promised r b
  not-lent e is =
      subst⁻¹ (λ (r : RetagOutcome). Promised r b) is
      (λ places whole. refused-one width len count b (bad_fields width settings p.address layout) (retag_of settings p layout) places whole e)

  module _ (fine : is_lent width len count b ≡ true) where
    pub bad-field : bad_fields width settings p.address layout ≡ true → {r : RetagOutcome} → r ≡ outcome_of (Refused 2) None count len → Promised r b
    bad-field e is =
        subst⁻¹ (λ (r : RetagOutcome). Promised r b) is
        (λ places whole. refused-two width len count b (bad_fields width settings p.address layout) (retag_of settings p layout) places whole fine e)

    -- ---- the retag
    module _ (good : bad_fields width settings p.address layout ≡ false) (places : List Entry) (whole : length places ≡ len) where
      abbrev s : State
      s = state_of (lent places count b)

      abbrev outcome : definition.Answer × State
      outcome = retag_of settings p layout s

      -- the entries, with the node that is entered
      abbrev entries_with : std.Option Provenance → List definition.Provenance
      entries_with node = entries (get_or (frames_entered (provenance_of node) s) 0 Closed)

      all_first : length (first_of count places) ≡ count
      all_first = first-length count places (omega (arith, lent-places width len count b fine, lent-count width len count b fine))

      left-answer : (answer : Answer) (node : std.Option Provenance) → (outcome_of answer node count len).answer.answer ≡ answer
      left-answer answer None = refl
      left-answer answer (Some t) = refl

      left-places : (answer : Answer) (node : std.Option Provenance)
          → set places (outcome_of answer node count len).at (outcome_of answer node count len).entry ≡ write_at 0 (map entry_of (entries_with node)) places
      left-places answer None = set_past places len no_entry (omega arith) ∙ sym (write_same count places)
      left-places answer (Some t) = sym (write-more count places (record { allocation = t.allocation; node = t.node }))

      left-count : (answer : Answer) (node : std.Option Provenance) → (outcome_of answer node count len).answer.count ≡ length (entries_with node)
      left-count answer None = sym all_first
      left-count answer (Some t) =
          omega (arith, all_first, length-append (first_of count places) (record { allocation = t.allocation; node = t.node } ∷ []))

      module _ {answer : Answer} {A P R C : List ℕ} (k : Performed outcome answer A P R C) (node : std.Option Provenance)
          (entering : (words : List ℕ) → provenance_of node ≡ entered_node (protects settings) (named_pointer (answer_of answer words).names)) where
        left-frames : frames_entered (provenance_of node) s ≡ outcome.1.frames
        left-frames =
            ap (λ (o : Option definition.Provenance). frames_entered o s) (entering [])
            ∙ ap (λ (a : definition.Answer). frames_entered (entered_node (protects settings) (named_pointer a.names)) s) (k.answers [])
            ∙ sym (perform-frames settings p layout s)

        left-memory : buffers A P R b.words C ≡ encode outcome.1.memory
        left-memory =
            encode-of outcome.1.memory k.trees.allocs k.trees.parents k.trees.protectors
            (holds-words (sound-at width b (lent-formed width len count b fine)) ∙ sym (perform-words settings p layout s)) k.trees.codes

        all_left : lent (set places (outcome_of answer node count len).at (outcome_of answer node count len).entry) (outcome_of answer node count len).answer.count (buffers A P R b.words C)
            ≡ left (lent places count b) outcome.1
        all_left =
            let placed = left-places answer node ∙ ap (λ (fs : List Frame). write_at 0 (map entry_of (entries (get_or fs 0 Closed))) places) left-frames in
            let counted = left-count answer node ∙ ap (λ (fs : List Frame). length (entries (get_or fs 0 Closed))) left-frames in
            λ i. record { places = placed i; count = counted i; memory = left-memory i }

        pub performed : Served width settings p layout (lent places count b) (outcome_of answer node count len).answer
            (set places (outcome_of answer node count len).at (outcome_of answer node count len).entry) (buffers A P R b.words C)
        unfolding replied
        performed =
            let answered = left-answer answer node ∙ k.reply in
            (λ i. (answered i, all_left i))
            ∙ ap (replied ThePointer) (sym (served-good width (bad_fields width settings p.address layout) (retag_of settings p layout) (lent places count b) (passes width len count b places whole fine) good))

    pub retagged : bad_fields width settings p.address layout ≡ false → {answer : Answer} {A P R C : List ℕ}
        → ((s : State) → HoldsMarked s.memory b.allocs b.parents b.protectors b.codes → count ≡ length (entries (frame_at s 0))
        → Performed (retag_of settings p layout s) answer A P R C)
        → (node : std.Option Provenance) → ((words : List ℕ) → provenance_of node ≡ entered_node (protects settings) (named_pointer (answer_of answer words).names))
        → {r : RetagOutcome} → r ≡ outcome_of answer node count len → Promised r (buffers A P R b.words C)
    retagged good {answer} {A} {P} {R} {C} f node entering {r} is =
        subst⁻¹ (λ (r : RetagOutcome). Promised r (buffers A P R b.words C)) is
        (λ places whole.
        performed good places whole (f (state_of (lent places count b)) (lent-nodes width len count b fine) (sym (all_first good places whole))) node entering)
