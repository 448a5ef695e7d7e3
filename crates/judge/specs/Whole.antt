-- A whole run, and the text of its verdict.
use Rattle.std.specs.Prelude.{ℕ, ◌+◌, ◌≤◌, ◌<◌, ◌≡◌, Bool, not, ◌&&◌, List, [], ◌++◌, ltb, leb, length, take, drop, if◌then◌else◌, Result, MatchResult}
use Rattle.definition.specs.Memory.{Answer}
use Rattle.definition.specs.Run.{RunState, program}
use Rattle.definition.specs.Output.{answer_lines, output, IsOutput}
use Rattle.state.specs.Run.{Holds}
use Rattle.state.specs.declared.RunState as code
use Rattle.stream.specs.Stream.{program_from}
use Rattle.judge.specs.declared.Advance.{Advance}
use Rattle.judge.specs.declared.TooLong.{TooLong}
use Rattle.judge.specs.Turn.{line_room}

abbrev pub goes_on : Advance → ℕ → ℕ → Bool
goes_on p bytes room = (not p.refused && ltb p.from bytes) && leb (p.at + line_room) room

-- what is left of the run at p, in the run's state s: no request behind the one that is refused
abbrev pub left_at : RunState → List ℕ → Advance → List Answer × RunState
left_at s bytes p = if p.refused then ([], s) else program_from s (drop p.from bytes)

-- the run came to p: the lines so far, and those of what is left, are the definition's
pub record Performing (bytes : List ℕ) (p : Advance) (lines : List ℕ) (run : code.RunState) : Type 0 where
  pub state : RunState
  pub holds : Holds state run
  pub text : lines ++ answer_lines p.index (left_at state bytes p).0 ≡ answer_lines 0 (program bytes).0
  pub final : (left_at state bytes p).1 ≡ (program bytes).1
  pub within : p.from ≤ length bytes
  pub counted : p.index ≤ p.from

-- so it is, and the lines are those in front of the buffer
pub record PerformingIn (bytes : List ℕ) (p : Advance) (out : List ℕ) (run : code.RunState) : Type 0 where
  pub performing : Performing bytes p (take p.at out) run
  pub fits : p.at ≤ length out

-- the memory's lines have room in this
abbrev pub memory_room : ℕ
memory_room = 0x28000

-- the first n bytes are what the program prints of the run
pub record TextOf (bytes : List ℕ) (n : ℕ) (after : List ℕ) : Type 0 where
  pub fits : n ≤ length after
  pub text : IsOutput bytes (take n after)

-- the text is there, or the buffer has no room for it and the memory's lines
pub record JudgedAs (bytes before : List ℕ) (r : Result ℕ TooLong) (after : List ℕ) : Type 0 where
  pub judged : MatchResult r (λ n. TextOf bytes n after) (λ _. length before < length (output bytes) + memory_room)
