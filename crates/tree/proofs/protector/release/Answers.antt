-- 16, or the end of the node's protector; a node that has one is not the root.
use Prim.Native.Nat.{ℕ}
use mathlib.Core.List.{List}
use mathlib.Core.Path.{refl, sym, ap, subst, ◌∙◌}
use lib.ListN.{set}
use Rattle.definition.specs.Memory.Liveness.{Live}
use Rattle.std.proofs.lemmas.Result.{err_from_is_err_and}
use Rattle.std.specs.Prelude.{Result}
use Rattle.refusal.specs.declared.Refusal.{Refusal}
use Rattle.refusal.specs.Number.{number, refusal_of}
use Rattle.refusal.proofs.Numbers.{number_positive}
use Rattle.tree.specs.Requests.{Ended}
use Rattle.tree.proofs.Held.{node-fits, held-marks}
use Rattle.tree.proofs.Releases.{released-marks, release-16, release-refused}
use Rattle.tree.proofs.Ends.{ended-refused, ended-accepted}
use native.Mathlib.Omega.{arith}
use Rattle.tree.proofs.protector.release.Goals as goal

pub overflow_mul-start : goal.overflow_mul-start
overflow_mul-start c = omega (arith, node-fits c.requires.some.1.holds c.args.node c.requires.node_in_bounds.0)

pub overflow_add-end : goal.overflow_add-end
overflow_add-end c = omega (arith, node-fits c.requires.some.1.holds c.args.node c.requires.node_in_bounds.0)

pub slice_bounds-tell_accesses-end : goal.slice_bounds-tell_accesses-end
slice_bounds-tell_accesses-end c = node-fits c.requires.some.1.holds c.args.node c.requires.node_in_bounds.0

pub returns-then-lacks_protector-clause-each : goal.returns-then-lacks_protector-clause-each
returns-then-lacks_protector-clause-each c = λ nodes held.
    let n = c.args.node in
    release-refused Live nodes n 16 _ _ (release-16 Live nodes n (sym (c.lacks_protector.ensures nodes (held-marks held)) ∙ c.if-lacks_protector.true)) (λ q. absurd (omega arith)) held.marked held.holds.table.rows

pub returns-in_err-end_protector-clause-each : goal.returns-in_err-end_protector-clause-each
returns-in_err-end_protector-clause-each c =
    let e = err_from_is_err_and c.from_residual.result c.from_residual.ensures.1 in
    rw (e.1, e.2) (λ nodes held.
    let r = c.in_err-end_protector.field-0.0 in
    ended-refused nodes c.args.node (number r) _ (subst (λ (o : Result (Unit {0}) Refusal). Ended c.args.node nodes (refusal_of o) c.end_protector.new.codes) c.in_err-end_protector.was (c.end_protector.ensures nodes held.holds))
    (sym (c.lacks_protector.ensures nodes (held-marks held)) ∙ c.if-lacks_protector.false) _ (λ z. absurd (omega (arith, number_positive r, z))) held.marked)

pub returns-clause-each : goal.returns-clause-each
returns-clause-each c = λ nodes held.
    ended-accepted nodes c.args.node 0 _ (subst (λ (o : Result (Unit {0}) Refusal). Ended c.args.node nodes (refusal_of o) c.end_protector.new.codes) c.in_ok-end_protector.was (c.end_protector.ensures nodes held.holds))
    (sym (c.lacks_protector.ensures nodes (held-marks held)) ∙ c.if-lacks_protector.false) _ refl
    (ap (λ (m : List ℕ). set m c.args.node 0) held.marked ∙ released-marks nodes c.args.node)
