-- The invariant: whether the codes so far stay.
use lib.ListN.{length}
use Rattle.permission.specs.Codes.{node_relation}
use Rattle.visit.specs.Walk.{accesses_at}
use Rattle.visit.proofs.Rows.{StayAt}
use Rattle.visit.proofs.staying.told.Given as goal

abbrev pub invariant-loop-k : goal.invariant-loop-k
invariant-loop-k l = StayAt (node_relation l.relation) (accesses_at l.what (length l.row) l.lent) l.row l.k l.all
