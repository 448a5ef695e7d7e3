-- The bytes gone over are unprotected.
use mathlib.Core.Path.{◌≡◌}
use Rattle.permission.specs.Codes.{unprotected_code}
use Rattle.visit.proofs.Loops.{mapped_to}
use Rattle.tree.proofs.protector.unprotect_row.Given as goal

abbrev pub invariant-loop-code : goal.invariant-loop-code
invariant-loop-code l = l.row ≡ mapped_to unprotected_code l.initial.row l.code-index
