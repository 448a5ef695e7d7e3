-- How far the program came, said of the bytes that were read and the text that was written. No contract can say what a call of C's reads and writes:
-- `bytes` stands for all that `read` gave so far, one behind the other, and `written` for all that `write` was given. Where a read or a write
-- fails, nothing is said of what it leaves.
use Rattle.std.specs.Prelude.{ℕ, ◌+◌, ◌≤◌, ◌<◌, ◌^◌, ◌≡◌, Bool, true, false, List, [], ◌++◌, eqb, length}
use Rattle.definition.specs.Run.{start}
use Rattle.definition.specs.Output.{IsOutput}
use Rattle.state.specs.Run.{Holds}
use Rattle.state.specs.declared.RunState.{RunState}
use Rattle.judge.specs.declared.Advance.{Advance}
use Rattle.judge.specs.Whole.{Performing}
use Rattle.verdict.specs.declared.Progress.{Progress}
use Rattle.verdict.specs.Progress.{lacks, goes_on, at_hand, text_at_hand, most_text, Ready, with_text_to}

-- what may follow the bytes that were read: nothing, where the input has ended
abbrev pub MayFollow : Progress → List ℕ → Type 0
MayFollow p rest = p.ended ≡ true → rest ≡ []

-- how far the run is in all bytes: behind those that are done; the lines are said apart
abbrev pub advance_in : List ℕ → Progress → Advance
advance_in done p = record { from = length done; at = 0; index = p.advance.index; refused = p.advance.refused }

-- the bytes are those done and those at hand. The lines that were written and those at hand, with the buffers, are the definition's `program` so far, up to
-- the first refusal and not beyond it (`Performing`), whatever follows
pub record Came (bytes written : List ℕ) (p : Progress) (input out : List ℕ) (run : RunState) : Type 0 where
  pub ready : Ready p input
  pub done : List ℕ
  pub parts : bytes ≡ done ++ at_hand p input
  pub performing : (rest : List ℕ) → MayFollow p rest → Performing (bytes ++ rest) (advance_in done p) (written ++ text_at_hand p out) run

-- ---- a turn
-- it reads: all text at hand is written before
pub record Reads (p : Progress) (out : List ℕ) (r : Progress) (new said : List ℕ) : Type 0 where
  pub index : r.advance.index ≡ p.advance.index
  pub told : r.ended ≡ eqb (length new) 0
  pub handed : said ≡ text_at_hand p out

-- it performs a request, and reads nothing; only a long text is written
pub record Performs (p r : Progress) (new said : List ℕ) : Type 0 where
  pub index : r.advance.index ≡ p.advance.index + 1
  pub told : r.ended ≡ p.ended
  pub none : new ≡ []
  pub long : length said ≤ most_text → said ≡ []

abbrev pub ByTurn : Bool → Progress → List ℕ → Progress → List ℕ → List ℕ → Type 0
ByTurn true p out r new said = Reads p out r new said
ByTurn false p out r new said = Performs p r new said

-- `new` was read, and `said` was written
pub record Made (bytes written : List ℕ) (p : Progress) (input out : List ℕ) (r : Progress) (input' out' : List ℕ) (run : RunState) : Type 0 where
  pub new : List ℕ
  pub said : List ℕ
  pub came : Came (bytes ++ new) (written ++ said) r input' out' run
  pub turn : ByTurn (lacks (at_hand p input) p.ended) p out r new said

-- ---- all turns
abbrev pub start_at : Progress
start_at = record { advance = record { from = 0; at = 0; index = 0; refused = false }; end = 0; ended = false }

-- from the start by turns alone: `bytes` is what these read, and `written` what they wrote
pub data Reached : Progress → (input out : List ℕ) → RunState → (bytes written : List ℕ) → Type 0 where
  at_start : {input out : List ℕ} {run : RunState} → Holds start run → Reached start_at input out run [] []
  after_turn : {p : Progress} {input out : List ℕ} {run : RunState} {bytes written : List ℕ} {r : Progress} {input' out' : List ℕ} {run' : RunState}
      → Reached p input out run bytes written → goes_on p ≡ true → (m : Made bytes written p input out r input' out' run')
      → Reached r input' out' run' (bytes ++ m.new) (written ++ m.said)

-- the program stops where it does not go on. A proved loop has to end: it is left, too, when there were 2^64 − 2 turns, for which so many bytes were read
pub record AllMade (r : Progress) (input out : List ℕ) (run : RunState) : Type 0 where
  pub bytes : List ℕ
  pub written : List ℕ
  pub reached : Reached r input out run bytes written
  pub came : Came bytes written r input out run
  pub over : goes_on r ≡ true → 2 ^ 63 ≤ length bytes + 1

-- ---- the whole
-- what the turns wrote, and the text at hand, is what the definition says that the program prints of what they read and of whatever follows
pub record IsPrinted (r : Progress) (out : List ℕ) : Type 0 where
  pub last : Progress
  pub input : List ℕ
  pub before : List ℕ
  pub run : RunState
  pub bytes : List ℕ
  pub written : List ℕ
  pub reached : Reached last input before run bytes written
  pub same : r ≡ with_text_to r.advance.at last
  pub fits : r.advance.at ≤ length out
  pub output : length bytes + 1 < 2 ^ 63 → (rest : List ℕ) → MayFollow r rest → IsOutput (bytes ++ rest) (written ++ text_at_hand r out)
