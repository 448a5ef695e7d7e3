-- The accesses of the bytes gone over are told.
use mathlib.Core.Path.{ap, ◌∙◌}
use native.Mathlib.Omega.{arith}
use lib.ListN.{set}
use Rattle.tree.specs.Requests.{access_number, end_number}
use Rattle.visit.proofs.Loops.{write-turn}
use Rattle.tree.proofs.protector.tell_accesses.Goals as goal

pub loop-k-preserved : goal.loop-k-preserved
loop-k-preserved c = λ fits. let l = c.loop-k in
    write-turn end_number c.args.row.now c.args.told.now fits l.k (omega arith) l.told _ (l.invariant fits) (ap (set l.told l.k) (c.access_number.ensures ∙ ap access_number c.end_access.ensures))
