-- The loop has seen none below i.
use Prim.Native.Nat.{ℕ, ◌<◌}
use mathlib.Core.Bool.{false}
use mathlib.Core.Path.{◌≡◌}
use Rattle.definition.specs.Memory.{Memory, allocation_at}
use Rattle.pointer.specs.Width.{width_of}
use Rattle.tables.specs.Held.{Records}
use Rattle.wellformed.specs.AtWidth.{is_beyond}
use Rattle.wellformed.proofs.at_width.any_beyond.Given as goal

abbrev pub invariant-loop-i : goal.invariant-loop-i
invariant-loop-i l = ((m : Memory) → Records m l.allocs → (k : ℕ) → k < l.i → is_beyond (width_of l.width) (allocation_at m k) ≡ false)
