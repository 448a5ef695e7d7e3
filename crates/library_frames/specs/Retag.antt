-- What the entry of a retag comes to, for whatever reaches it: 1, then 2, then the definition's `perform_retag` on the memory that the lent buffers
-- hold, with the lent frame as its only one. The width is a number of bits.
use Rattle.std.specs.Prelude.{ℕ, ◌≡◌, Bool, not, ◌&&◌, List, [], ◌∷◌, map, eqb, leb, length}
use Rattle.definition.specs.Notation.{◌when◌, ◌or◌, write_at}
use Rattle.definition.specs.Refusal.{not_well_formed, malformed}
use Rattle.definition.specs.Memory.{ThinPointer, unless_refused}
use Rattle.definition.specs.Memory as definition
use Rattle.definition.specs.Frame.{State, entries, frame_at}
use Rattle.definition.specs.Frame.Frame.{Open}
use Rattle.definition.specs.Retag.{entry_bound}
use Rattle.answer.specs.Answer.{replied}
use Rattle.answer.specs.Answer.Gives.{ThePointer}
use Rattle.answer.specs.declared.Answer.{Answer}
use Rattle.tables.specs.Encoding.{Buffers, encode}
use Rattle.tables.specs.Decoding.{view}
use Rattle.wellformed.specs.AtWidth.{well_formed_at}
use Rattle.frames.specs.List.{entry_of, first_of}
use Rattle.frames.specs.declared.Entry.{Entry}
use Rattle.library_frames.specs.declared.retags.RetagSettings.{RetagSettings}
use Rattle.library_frames.specs.declared.retags.RetagAnswer.{RetagAnswer}
use Rattle.library_frames.specs.Settings.{retag_of, bad_fields}

-- what is lent: places for the frame's entries, of which so many are taken, and the five buffers
pub record Lent : Type 0 where
  pub places : List Entry
  pub count : ℕ
  pub memory : Buffers

abbrev pub lent : List Entry → ℕ → Buffers → Lent
lent places count memory = record { places = places; count = count; memory = memory }

-- not refused with 1: 64 places, as many entries at most, and buffers that hold a memory at the width
abbrev pub is_lent : (width places count : ℕ) → Buffers → Bool
is_lent width places count b = eqb places entry_bound && (leb count entry_bound && well_formed_at width b)

-- the state that is lent: the memory, and one open frame
abbrev pub state_of : Lent → State
state_of l = record { memory = view l.memory; frames = Open (first_of l.count l.places) ∷ [] }

-- a state that is left: its frame's entries at the front of the places, which are as before behind them, and its memory as the buffers hold it
abbrev pub left : Lent → State → Lent
left l s =
    record {
      places = write_at 0 (map entry_of (entries (frame_at s 0))) l.places;
      count = length (entries (frame_at s 0));
      memory = encode s.memory;
    }

-- the answer, and what is lent afterwards; `bad` says that a field falls under 2
unfoldable pub served : ℕ → Bool → (State → definition.Answer × State) → Lent → definition.Answer × Lent
served width bad request l =
    let outcome = request (state_of l) in
    unless_refused (not_well_formed when not (is_lent width (length l.places) l.count l.memory) or malformed when bad) l
    (outcome.0, left l outcome.1)

-- the entry's promise: it answers r, with the number of entries, and leaves these places and buffers
abbrev pub Served : ℕ → RetagSettings → ThinPointer → List ℕ → Lent → RetagAnswer → List Entry → Buffers → Type 0
Served width settings p layout l r places b =
    ◌≡◌ {A = Answer × Lent} (r.answer, lent places r.count b) (replied ThePointer (served width (bad_fields width settings p.address layout) (retag_of settings p layout) l))
