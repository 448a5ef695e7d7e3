-- The invariant: what the check of the codes so far told.
use mathlib.Core.List.{[]}
use lib.ListN.{length}
use Rattle.permission.specs.Codes.{node_relation}
use Rattle.visit.specs.Walk.{accesses_at}
use Rattle.visit.specs.declared.Accesses.TheVariants.{Each}
use Rattle.visit.proofs.Rows.{BytesAt}
use Rattle.visit.proofs.row.check_each.Given as goal

abbrev pub invariant-loop-code : goal.invariant-loop-code
invariant-loop-code l = BytesAt (node_relation l.relation) (accesses_at (Each l.kind) (length l.row) []) l.row l.code-index l.effect
