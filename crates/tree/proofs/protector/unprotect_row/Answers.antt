-- The bytes gone over are unprotected.
use mathlib.Core.Path.{ap}
use native.Mathlib.Omega.{arith}
use lib.ListN.{set}
use Rattle.permission.specs.Codes.{unprotected_code}
use Rattle.visit.proofs.Loops.{map-turn}
use Rattle.tree.proofs.protector.unprotect_row.Goals as goal

pub loop-code-preserved : goal.loop-code-preserved
loop-code-preserved c = let l = c.loop-code in
    map-turn unprotected_code c.args.row.now l.code-index (omega arith) l.row _ l.invariant (ap (set l.row l.code-index) c.unprotect.ensures)
