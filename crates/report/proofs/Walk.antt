-- The allocations of a memory, one after the other.
use Prim.Native.Nat.{ℕ, ◌+◌, ◌<◌}
use mathlib.Core.List.{[], ◌++◌}
use mathlib.Core.Path.{◌≡◌, ap, ◌∙◌}
use native.Mathlib.Numerals.{add-one}
use lib.ListN.{length, drop}
use lib.Seq.{drop-cons, drop-length}
use Rattle.definition.specs.Memory.{Memory, no_allocation, allocation_at}
use Rattle.definition.specs.Output.{Text, allocation_lines, memory_lines}

abbrev pub lines_from : Memory → ℕ → Text
lines_from m a = memory_lines a (drop a m)

pub lines_next : (m : Memory) (a : ℕ) → a < length m → lines_from m a ≡ allocation_lines a (allocation_at m a) ++ lines_from m (a + 1)
unfolding memory_lines
lines_next m a h = rw (add-one, drop-cons m a no_allocation)

pub lines_end : (m : Memory) (a : ℕ) → a ≡ length m → lines_from m a ≡ []
unfolding memory_lines
lines_end m a e = ap (lines_from m) e ∙ ap (memory_lines (length m)) (drop-length m)
