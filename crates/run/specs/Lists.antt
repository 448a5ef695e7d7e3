-- A list of requests on lent buffers, and demand 3: what `run_list` promises. Document 01: "Lists whose order may change".
use Rattle.std.specs.Prelude.{ℕ, ◌-◌, min, ◌≡◌, List, [], ◌∷◌, leb, length, take, drop, if◌then◌else◌, Result, Ok, Err}
use Rattle.definition.specs.Notation.{write_at}
use Rattle.definition.specs.Run.{start, answers, final}
use Rattle.definition.specs.Exchange.{OrderIsFree}
use Rattle.tables.specs.Encoding.{Buffers, encode}
use Rattle.state.specs.Lengths.{have_lengths}
use Rattle.frames.specs.Buffer.{frames_held}
use Rattle.transcript.specs.Transcript.{transcript}
use Rattle.pointer.specs.Width.{declared_width}
use Rattle.refusal.specs.declared.Refusal.{Refusal}
use Rattle.refusal.specs.declared.Refusal.TheVariants.{NotWellFormed}
use Rattle.run.specs.declared.Answered.{Answered}

-- ---- the requests, by their words and by where each ends. Ends that do not ascend, or lie behind the words, cut a request short: it is then refused with 2
unfoldable pub requests_from : ℕ → List ℕ → List ℕ → List (List ℕ)
requests_from from [] words = []
requests_from from (end ∷ ends) words = take (end - from) (drop from words) ∷ requests_from end ends words

abbrev pub requests_in : List ℕ → List ℕ → List (List ℕ)
requests_in words ends = requests_from 0 ends words

-- ---- what is lent, and what is left of it: the five buffers of the memory, the frames, and the buffer for the answers
pub record Lent : Type 0 where
  pub memory : Buffers
  pub frames : List ℕ
  pub answers : List ℕ

abbrev pub lent : Buffers → List ℕ → List ℕ → Lent
lent b F out = record { memory = b; frames = F; answers = out }

-- ---- what the list l comes to on emptied buffers, with `before` in the one for the answers. Answers, memory, frames and width are the definition's; of the
-- answers as much as there is room for, with where they end and whether that is all
unfoldable pub ran : List (List ℕ) → List ℕ → Answered × Lent
ran l before =
    let text = transcript (answers start l) in (
      record { written = record { at = min (length text) (length before); whole = leb (length text) (length before) }; width = declared_width (final start l).width },
      lent (encode (final start l).state.memory) (frames_held (final start l).state.frames) (write_at 0 text before),
    )

abbrev pub answered : Answered × Lent → Result Answered Refusal × Lent
answered o = (Ok o.0, o.1)

-- ---- for whatever is lent: 1, and nothing of it changes, where a buffer has another length
unfoldable pub list_run : List (List ℕ) → Lent → Result Answered Refusal × Lent
list_run l given = if have_lengths given.memory given.frames then answered (ran l given.answers) else (Err NotWellFormed, given)

-- ---- the claim about the list l, where r is replied and `left` is what is left of the buffers
pub record ListRan (l : List (List ℕ)) (given : Lent) (r : Result Answered Refusal) (left : Lent) : Type 0 where
  pub outcome : ◌≡◌ {A = Result Answered Refusal × Lent} (r, left) (list_run l given)
  -- demand 3: every list made from l by exchanges has the same answers, each in its new place, and the same end, and so has the list with an
  -- accepted load made again. `list_run` is made of the answers and the end, so all that holds memory and frames is equal too (proofs/Exchanged)
  pub order : OrderIsFree start l
