-- The check's visit is the definition's of the table as it was, the change's of the one with the node unprotected (Ends).
use mathlib.Core.Path.{◌≡◌, refl, sym, subst, ◌∙◌}
use native.Mathlib.Omega.{arith}
use Rattle.std.proofs.Common.{rules}
use Rattle.std.proofs.lemmas.Result.{err_from_is_err_and}
use Rattle.std.specs.Prelude.{Ok, Err}
use Rattle.refusal.specs.Number.{number}
use Rattle.refusal.proofs.Numbers.{number_positive}
use Rattle.visit.specs.declared.Effect.{Effect}
use Rattle.visit.specs.declared.Effect.TheVariants.{Stays, Changes}
use Rattle.definition.specs.Tree.{visited}
use Rattle.definition.specs.Memory.Liveness.{Live}
use Rattle.definition.specs.Frame.{release_visit, release_visit_refusal}
use Rattle.visit.specs.Walk.{Told}
use Rattle.tree.specs.Table.{rows_of}
use Rattle.visit.proofs.Places.{same-ready, same-spared}
use Rattle.tree.proofs.Held.{node-fits}
use Rattle.tree.proofs.Visits.{held-ready}
use Rattle.tree.proofs.Ends.{end-told, end-ready, end_after, end_stays, end_refused, end-accepted}
use Rattle.tree.proofs.protector.end_protector.Goals as goal

pub check_lent-requires : goal.check_lent-requires
check_lent-requires c = (same-ready _ _ _ _ _ c.settled-v.ensures (held-ready _ c.requires.some.0 _ _ c.requires.some.1 c.requires.node_in_bounds.0 (omega arith)), omega (arith, same-spared _ _ _ c.settled-v.ensures, c.requires.node_in_bounds.1))

pub returns-in_err-effect : goal.returns-in_err-effect
returns-in_err-effect c =
    let e = err_from_is_err_and c.from_residual.result c.from_residual.ensures.1 in
    rw (e.1, e.2) (λ nodes held.
    let a = c.args in
    let r = c.in_err-effect.field-0.0 in
    let t = end-told nodes a.width a.parents.now a.codes.now a.lent.now held a.node c.requires.node_in_bounds.0 c.requires.node_in_bounds.1 c.requires.node_in_bounds.2 c.settled-v.result c.settled-v.ensures (Err r) c.in_err-effect.ensures in
    end_refused nodes a.node (number r) _ t (λ z. absurd (omega (arith, number_positive r, z))) held.table.rows)

pub unprotect_node-requires : goal.unprotect_node-requires
unprotect_node-requires c = node-fits c.requires.some.1 c.args.node c.requires.node_in_bounds.0

pub apply-requires : goal.apply-requires
apply-requires c = let a = c.args in (
  end-ready c.requires.some.0 a.width a.parents.now a.codes.now a.lent.now c.requires.some.1 a.node c.requires.node_in_bounds.0 c.requires.node_in_bounds.1 c.requires.node_in_bounds.2 c.settled-v.result c.settled-v.ensures _ c.unprotect_node.ensures,
  omega (arith, same-spared _ _ _ c.settled-v.ensures, c.requires.node_in_bounds.1),
)

pub returns-then-eq : goal.returns-then-eq
returns-then-eq c = λ nodes held.
    let a = c.args in
    let effect : c.in_ok-effect.effect ≡ Changes = search rules in
    let t = subst (λ (e : Effect). Told (release_visit_refusal Live a.node nodes) (rows_of nodes) (rows_of (visited (release_visit a.node nodes) nodes)) (Ok e)) effect
    (end-told nodes a.width a.parents.now a.codes.now a.lent.now held a.node c.requires.node_in_bounds.0 c.requires.node_in_bounds.1 c.requires.node_in_bounds.2 c.settled-v.result c.settled-v.ensures (Ok c.in_ok-effect.effect) c.in_ok-effect.ensures) in
    end-accepted nodes a.node 0 _ (sym t) refl
    (c.apply.ensures
    ∙ end_after nodes a.width a.parents.now a.codes.now a.lent.now held a.node c.requires.node_in_bounds.0 c.requires.node_in_bounds.1 c.requires.node_in_bounds.2 c.settled-v.result c.settled-v.ensures _ c.unprotect_node.ensures)

pub returns-else-eq : goal.returns-else-eq
returns-else-eq c = λ nodes held.
    let a = c.args in
    let effect : c.in_ok-effect.effect ≡ Stays = search rules in
    let t = subst (λ (e : Effect). Told (release_visit_refusal Live a.node nodes) (rows_of nodes) (rows_of (visited (release_visit a.node nodes) nodes)) (Ok e)) effect
    (end-told nodes a.width a.parents.now a.codes.now a.lent.now held a.node c.requires.node_in_bounds.0 c.requires.node_in_bounds.1 c.requires.node_in_bounds.2 c.settled-v.result c.settled-v.ensures (Ok c.in_ok-effect.effect) c.in_ok-effect.ensures) in
    end-accepted nodes a.node 0 _ (sym t.0) refl
    (end_stays nodes a.width a.parents.now a.codes.now a.lent.now held a.node c.requires.node_in_bounds.0 c.requires.node_in_bounds.1 c.requires.node_in_bounds.2 c.settled-v.result c.settled-v.ensures _ c.unprotect_node.ensures t.1)
