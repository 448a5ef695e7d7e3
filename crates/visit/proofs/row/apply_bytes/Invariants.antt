-- The codes before k are changed.
use mathlib.Core.Path.{◌≡◌}
use lib.ListN.{length}
use Rattle.permission.specs.Codes.{node_relation}
use Rattle.visit.specs.Walk.{accesses_at, bytes_after}
use Rattle.visit.proofs.Loops.{changed_to}
use Rattle.visit.proofs.Rows.{codes-length}
use Rattle.visit.proofs.row.apply_bytes.Given as goal

abbrev pub invariant-loop-k : goal.invariant-loop-k
invariant-loop-k l = l.row ≡ changed_to l.initial.row (bytes_after l.what l.lent (node_relation l.relation) l.initial.row) (codes-length (node_relation l.relation) (accesses_at l.what (length l.initial.row) l.lent) l.initial.row) l.k
