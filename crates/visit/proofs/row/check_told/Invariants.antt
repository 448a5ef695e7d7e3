-- The invariant: what the check of the codes so far told.
use lib.ListN.{length}
use Rattle.permission.specs.Codes.{node_relation}
use Rattle.visit.specs.Walk.{accesses_at}
use Rattle.visit.proofs.Rows.{BytesAt}
use Rattle.visit.proofs.row.check_told.Given as goal

abbrev pub invariant-loop-k : goal.invariant-loop-k
invariant-loop-k l = BytesAt (node_relation l.relation) (accesses_at l.what (length l.row) l.lent) l.row l.k l.effect
