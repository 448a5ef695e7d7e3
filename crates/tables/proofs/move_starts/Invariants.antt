-- At i the starts of the records before it are moved (Moving).
use Prim.Native.Nat.{ℕ}
use mathlib.Core.List.{List}
use Rattle.definition.specs.Memory.{Memory}
use Rattle.tables.specs.declared.Starts.{Starts}
use Rattle.tables.specs.Held.{RecordsBehind}
use Rattle.tables.proofs.Moving.{Moving}
use Rattle.tables.proofs.move_starts.Given as goal

abbrev pub invariant-loop-i : goal.invariant-loop-i
invariant-loop-i s = (l : List ℕ) (p : Starts) (m : Memory) (z : ℕ) → RecordsBehind s.k l p m z s.width s.initial.allocs → Moving s.i l p m z s.width s.allocs
