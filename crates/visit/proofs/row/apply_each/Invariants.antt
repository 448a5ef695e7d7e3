-- The codes gone over are changed.
use mathlib.Core.Path.{◌≡◌}
use mathlib.Core.Option.{some}
use Rattle.permission.specs.Codes.{access_kind, node_relation, next_code}
use Rattle.visit.proofs.Loops.{mapped_to}
use Rattle.visit.proofs.row.apply_each.Given as goal

abbrev pub invariant-loop-code : goal.invariant-loop-code
invariant-loop-code l = l.row ≡ mapped_to (next_code (some (access_kind l.kind)) (node_relation l.relation)) l.initial.row l.code-index
