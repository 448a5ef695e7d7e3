-- One request on the buffers of a run, said of each state that they hold.
use Rattle.std.specs.Prelude.{ℕ, ◌+◌, ◌≡◌, List, length, drop}
use Rattle.definition.specs.Width.{Width}
use Rattle.definition.specs.Frame.{State}
use Rattle.definition.specs.Request.{request}
use Rattle.definition.specs.Run.{IsWord, step, RunState, turn}
use Rattle.definition.specs.Valid.{All}
use Rattle.request.specs.declared.Request.{Request}
use Rattle.request.specs.Fields.{request_of}
use Rattle.answer.specs.Answer.{answer_of}
use Rattle.answer.specs.declared.Answer.{Answer}
use Rattle.tables.specs.Encoding.{Buffers}
use Rattle.state.specs.State.{HoldsState}
use Rattle.state.specs.Run.{Holds}
use Rattle.state.specs.declared.RunState as code

-- q has the fields of the request ws, and `following` are the words behind them
pub record Decoded (q : Request) (following ws : List ℕ) : Type 0 where
  pub fields : request_of q (drop 4 ws) ≡ request ws
  pub rest : following ≡ drop 4 ws
  pub count : length ws ≡ 4 + length following
  pub words : All IsWord ws

-- the definition's answer, and the buffers hold the state that it leaves
pub record Stepped (w : Width) (s : State) (ws : List ℕ) (r : Answer) (b : Buffers) (F : List ℕ) : Type 0 where
  pub answer : answer_of r b.words ≡ (step w s ws).0
  pub holds : HoldsState (step w s ws).1 b F

-- so in a run, with the width that it leaves
pub record Turned (r : RunState) (ws : List ℕ) (a : Answer) (run : code.RunState) : Type 0 where
  pub answer : answer_of a run.words.now ≡ (turn r ws).0
  pub holds : Holds (turn r ws).1 run
