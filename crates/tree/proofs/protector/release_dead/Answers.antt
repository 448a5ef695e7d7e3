-- 16, or the row unprotected.
use mathlib.Core.Path.{refl, sym, ◌∙◌}
use Rattle.definition.specs.Memory.Liveness.{Dead}
use Rattle.tree.proofs.Held.{marks-count, marked-fits}
use Rattle.tree.proofs.Releases.{unprotected-table, dead-marks, release-16, release-visits, release-accepted, release-refused}
use native.Mathlib.Omega.{arith}
use Rattle.tree.proofs.protector.release_dead.Goals as goal

pub returns-then-lacks_protector : goal.returns-then-lacks_protector
returns-then-lacks_protector c = λ nodes held.
    release-refused Dead nodes c.args.node 16 c.args.protectors.now _
    (release-16 Dead nodes c.args.node (sym (c.lacks_protector.ensures nodes held) ∙ c.if-lacks_protector.true)) (λ q. absurd (omega arith)) held.marked held.table.rows

pub unprotect_node-requires : goal.unprotect_node-requires
unprotect_node-requires c = marked-fits c.requires.some.1 c.args.node c.requires.node_in_bounds

pub returns : goal.returns
returns c = let n = c.args.node in
    λ nodes held.
    release-accepted Dead nodes n 0 c.args.protectors.now _
    (release-visits Dead nodes n (sym (c.lacks_protector.ensures nodes held) ∙ c.if-lacks_protector.false)) refl (held.marked ∙ dead-marks nodes n)
    (c.unprotect_node.ensures ∙ unprotected-table Dead nodes c.args.width c.args.codes.now held.table n (omega (arith, marks-count nodes c.args.protectors.now held.marked)))
