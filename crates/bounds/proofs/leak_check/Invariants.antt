-- The loop has seen no live heap allocation below i.
use Rattle.definition.specs.Memory.{Memory}
use Rattle.tables.specs.Held.{Records}
use Rattle.definition.proofs.Leaks.{NoneBelow}
use Rattle.bounds.proofs.leak_check.Given as goal

abbrev pub invariant-loop-i : goal.invariant-loop-i
invariant-loop-i l = (m : Memory) → Records m l.allocs → NoneBelow m l.i
