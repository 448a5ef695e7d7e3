-- A recorded sample: runs, each with the text that the Rust printed of it.
use Rattle.std.specs.Prelude.{ℕ, suc, ◌+◌, ◌-◌, ◌<◌, ◌≡◌, Bool, true, false, List, leb, length, get_or, take, drop, if◌then◌else◌, Option, Some, None}
use Rattle.definition.specs.Run.{words_of}
use Rattle.definition.specs.Output.{output, IsOutput}
use Rattle.judge.specs.Whole.{memory_room}
use Rattle.vectors.specs.declared.Record.{Record}

-- the word whose bytes start at a place
abbrev pub word_at : List ℕ → ℕ → ℕ
word_at file at = get_or (words_of (drop at file)) 0 0

-- "length of the run, length of the output, the run, the output": the record at a place is there if the file has all of it
abbrev pub is_there : List ℕ → ℕ → Bool
is_there file at = leb (at + 8 + word_at file at + word_at file (at + 4)) (length file)

unfoldable pub record_at : List ℕ → ℕ → Option Record
record_at file at =
    if is_there file at
    then Some (record { run = at + 8; text = at + 8 + word_at file at; end = at + 8 + word_at file at + word_at file (at + 4) })
    else None

abbrev pub run_of : List ℕ → Record → List ℕ
run_of file r = take (r.text - r.run) (drop r.run file)

abbrev pub text_of : List ℕ → Record → List ℕ
text_of file r = take (r.end - r.text) (drop r.text file)

-- whether the text is what the program prints of the run. Only a text that has no room in a buffer of this length is told to be another
pub record Agrees (run text : List ℕ) (room : ℕ) (r : Bool) : Type 0 where
  pub same : r ≡ true → IsOutput run text
  pub other : r ≡ false → IsOutput run text → room < length (output run) + memory_room

abbrev pub one : Bool → ℕ
one b = if b then 1 else 0

-- how many of so many records, from a place on, are there and agree: those behind one that is not there are none
pub data Counted (file : List ℕ) (room : ℕ) : ℕ → ℕ → ℕ → Type 0 where
  over : {at : ℕ} → Counted file room 0 at 0
  gone : {left at : ℕ} → record_at file at ≡ None → Counted file room (suc left) at 0
  next : {left at n : ℕ} (r : Record) (b : Bool) → record_at file at ≡ Some r → Agrees (run_of file r) (text_of file r) room b
      → Counted file room left r.end n → Counted file room (suc left) at (one b + n)
