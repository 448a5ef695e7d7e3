-- While no entry was found, the answer is that of the entries from the place on.
use mathlib.Core.Path.{◌≡◌}
use lib.ListN.{drop}
use Rattle.definition.specs.Memory.{Memory}
use Rattle.definition.specs.Notation.{any}
use Rattle.tables.specs.Held.{Records}
use Rattle.frames.specs.List.{entries_of}
use Rattle.end_call.proofs.EndCall.{is_unmade}
use Rattle.end_call.proofs.any_never_made.Given as goal

abbrev pub invariant-loop-e : goal.invariant-loop-e
invariant-loop-e l = (m : Memory) → Records m l.allocs → any (is_unmade m) (entries_of l.fn.list) ≡ any (is_unmade m) (drop l.e-index (entries_of l.fn.list))
