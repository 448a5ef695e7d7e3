-- What six buffers hold: a state, that is a memory and its frames.
use Rattle.std.specs.Prelude.{ℕ, ◌≡◌, List}
use Rattle.definition.specs.Frame.{State}
use Rattle.definition.specs.Width.{Width}
use Rattle.definition.specs.Run.{RunState}
use Rattle.definition.specs.Valid.{ValidState}
use Rattle.tables.specs.Encoding.{Buffers, encode}
use Rattle.tables.specs.Held.{Trees}
use Rattle.frames.specs.Buffer.{frames_held}

-- five buffers hold the memory of s, and one more its frames
pub record HoldsState (s : State) (b : Buffers) (F : List ℕ) : Type 0 where
  pub valid : ValidState s
  pub memory : b ≡ encode s.memory
  pub frames : F ≡ frames_held s.frames

-- and with a width beside them a run's state
pub record HoldsRun (r : RunState) (b : Buffers) (F : List ℕ) (w : Width) : Type 0 where
  pub state : HoldsState r.state b F
  pub width : w ≡ r.width

-- all of a state but the words
pub record HoldsTreesAndFrames (s : State) (A P R C F : List ℕ) : Type 0 where
  pub valid : ValidState s
  pub trees : Trees s.memory A P R C
  pub frames : F ≡ frames_held s.frames
