-- The lines from allocation a on are left, in every memory that the buffers hold.
use mathlib.Core.Path.{◌≡◌}
use Rattle.definition.specs.Memory.{Memory}
use Rattle.definition.specs.Output.{memory_lines}
use Rattle.tables.specs.Held.{buffers, Holds}
use Rattle.report.proofs.Walk.{lines_from}
use Rattle.report.proofs.Writes.{Left}
use Rattle.report.proofs.allocations.memory_lines.Given as goal

abbrev pub invariant-loop-a : goal.invariant-loop-a
invariant-loop-a l = record {
  same : l.page.out.ghost_name ≡ l.initial.page.out.ghost_name;
  lines : (m : Memory) → Holds m (buffers l.allocs l.parents l.protectors l.words l.codes) → Left l.initial.page (memory_lines 0 m) l.page (lines_from m l.a);
}
