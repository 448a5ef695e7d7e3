-- The loop has seen no overlap below i.
use Prim.Native.Nat.{ℕ, ◌<◌}
use mathlib.Core.Bool.{false}
use mathlib.Core.Path.{◌≡◌}
use Rattle.definition.specs.Memory.{Memory, allocation_at, overlaps}
use Rattle.tables.specs.Held.{Records}
use Rattle.memory.proofs.allocate.overlaps_any.Given as goal

abbrev pub invariant-loop-i : goal.invariant-loop-i
invariant-loop-i l = (m : Memory) → Records m l.allocs → (k : ℕ) → k < l.i → overlaps l.address l.len (allocation_at m k) ≡ false
