-- One turn of a list: a request and its answer, and what holds between two turns.
use Rattle.std.specs.Prelude.{ℕ, ◌≡◌, List, ◌++◌, drop}
use Rattle.definition.specs.Run.{RunState, start, turn, answers, final}
use Rattle.state.specs.Run.{Holds}
use Rattle.state.specs.declared.RunState as code
use Rattle.transcript.specs.Transcript.{answer_words, transcript, WrittenTo}
use Rattle.transcript.specs.declared.Written.{Written}
use Rattle.run.specs.Lists.{requests_from, requests_in}

-- the buffers hold the next state, and the answer stands behind the others
pub record Turned (r : RunState) (ws : List ℕ) (w : Written) (out : List ℕ) (w' : Written) (run : code.RunState) (out' : List ℕ) : Type 0 where
  pub holds : Holds (turn r ws).1 run
  pub written : (text before : List ℕ) → WrittenTo text before out w → WrittenTo (text ++ answer_words (turn r ws).0) before out' w'

-- i requests are done, and the next one starts at `from`: what is left, done from the state that is held, ends as the whole list does from the empty one
pub record Going (words ends before : List ℕ) (i from : ℕ) (w : Written) (run : code.RunState) (out : List ℕ) : Type 0 where
  pub state : RunState
  pub text : List ℕ
  pub holds : Holds state run
  pub written : WrittenTo text before out w
  pub to_end : final state (requests_from from (drop i ends) words) ≡ final start (requests_in words ends)
  pub told : text ++ transcript (answers state (requests_from from (drop i ends) words)) ≡ transcript (answers start (requests_in words ends))
