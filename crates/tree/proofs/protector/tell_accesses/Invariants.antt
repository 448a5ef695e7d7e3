-- The accesses of the bytes gone over are told.
use mathlib.Core.Path.{◌≡◌}
use Prim.Native.Nat.{◌≤◌}
use lib.ListN.{length}
use Rattle.tree.specs.Requests.{end_number}
use Rattle.visit.proofs.Loops.{written_to}
use Rattle.tree.proofs.protector.tell_accesses.Given as goal

abbrev pub invariant-loop-k : goal.invariant-loop-k
invariant-loop-k l = (fits : length l.row ≤ length l.initial.told) → l.told ≡ written_to end_number l.row l.initial.told fits l.k
