-- One request of a run, and the line of its answer.
use Rattle.std.specs.Prelude.{ℕ, ◌+◌, ◌-◌, min, ◌≡◌, Bool, not, List, eqb, length, drop}
use Rattle.definition.specs.Memory.{Answer}
use Rattle.definition.specs.Run.{RunState, turn}
use Rattle.definition.specs.Output.{answer_line}
use Rattle.state.specs.Run.{Holds}
use Rattle.state.specs.declared.RunState as code
use Rattle.report.specs.Written.{WrittenInside}
use Rattle.stream.specs.Stream.{request_size, next_request}
use Rattle.judge.specs.declared.Advance.{Advance}

-- no line of an answer is longer: 4,096 words of nine characters, and some numbers
abbrev pub line_room : ℕ
line_room = 36992

-- the line of the answer a, written at `at`
pub record LineWritten (index : ℕ) (a : Answer) (before : List ℕ) (at : ℕ) (after : List ℕ) (end : ℕ) (refused : Bool) : Type 0 where
  pub written : WrittenInside before at (answer_line index a) after end
  pub told : refused ≡ not (eqb a.refusal 0)

-- the request ws from the run r
pub record Turned (r : RunState) (ws : List ℕ) (index : ℕ) (before : List ℕ) (at : ℕ) (after : List ℕ) (end : ℕ) (refused : Bool) (run : code.RunState) : Type 0 where
  pub holds : Holds (turn r ws).1 run
  pub line : LineWritten index (turn r ws).0 before at after end refused

-- where the request that starts at `from` ends
abbrev pub request_end : List ℕ → ℕ → ℕ
request_end bytes from = from + min (request_size (drop from bytes)) (length bytes - from)

-- the next request of a run, from p to r
pub record Taken (state : RunState) (bytes : List ℕ) (p : Advance) (before : List ℕ) (r : Advance) (after : List ℕ) (run : code.RunState) : Type 0 where
  pub turned : Turned state (next_request (drop p.from bytes)) p.index before p.at after r.at r.refused run
  pub from : r.from ≡ request_end bytes p.from
  pub index : r.index ≡ p.index + 1
