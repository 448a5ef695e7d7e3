-- What entering the node that a retag gives asks of the frames.
use Rattle.std.specs.Prelude.{ℕ, ◌<◌, ◌≡◌, true, List, length}
use Rattle.std.proofs.Math.Option.{Option, some}
use Rattle.definition.specs.Permission.{Protected, is_yes}
use Rattle.definition.specs.Memory.{Provenance}
use Rattle.definition.specs.Frame.{Frame}
use Rattle.frames.specs.Buffer.{entries_at, FitsEntry, HoldsFrames}

-- the buffer holds the frames, and there is room for the entry
pub record CanEnter (protected : Protected) (f : ℕ) (o : Option Provenance) (fs : List Frame) (F : List ℕ) : Type 0 where
  pub holds : HoldsFrames fs F
  pub room : is_yes protected ≡ true → (child : Provenance) → o ≡ some child → length (entries_at fs f) < 64
  pub small : is_yes protected ≡ true → (child : Provenance) → o ≡ some child → FitsEntry child
