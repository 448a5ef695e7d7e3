-- The state of a run as one value of the code: the lent buffers with the width.
use Rattle.std.specs.Prelude.{◌≡◌}
use Rattle.definition.specs.Run as definition
use Rattle.pointer.specs.Width.{width_of}
use Rattle.tables.specs.Encoding.{Buffers}
use Rattle.tables.specs.Held.{buffers}
use Rattle.state.specs.State.{HoldsRun}
use Rattle.state.specs.declared.RunState.{RunState}

-- what its memory's buffers contain
abbrev pub memory_of : RunState → Buffers
memory_of r = buffers r.allocs.now r.parents.now r.protectors.now r.words.now r.codes.now

-- it holds a run's state
abbrev pub Holds : definition.RunState → RunState → Type 0
Holds s r = HoldsRun s (memory_of r) r.frames.now (width_of r.width)

-- each buffer is still the one that was lent
pub record SameBuffers (r r' : RunState) : Type 0 where
  pub allocs : r'.allocs.ghost_name ≡ r.allocs.ghost_name
  pub parents : r'.parents.ghost_name ≡ r.parents.ghost_name
  pub protectors : r'.protectors.ghost_name ≡ r.protectors.ghost_name
  pub words : r'.words.ghost_name ≡ r.words.ghost_name
  pub codes : r'.codes.ghost_name ≡ r.codes.ghost_name
  pub frames : r'.frames.ghost_name ≡ r.frames.ghost_name

-- and the width is as it was
pub record Kept (r r' : RunState) : Type 0 where
  pub buffers : SameBuffers r r'
  pub width : r'.width ≡ r.width
