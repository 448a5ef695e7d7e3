-- The invariant: what the check of the codes so far told.
use mathlib.Core.Path.{sym, ap, ◌∙◌}
use mathlib.Core.List.{[]}
use lib.ListN.{length}
use native.Mathlib.Omega.{arith}
use Rattle.std.proofs.lemmas.Result.{err_from_is_err_and}
use Rattle.permission.specs.Codes.{node_relation, numbered}
use Rattle.visit.specs.Walk.{accesses_at}
use Rattle.visit.specs.declared.Accesses.TheVariants.{Each}
use Rattle.visit.proofs.Rows.{each-outcome, byte-stays, byte-becomes, byte-refused, bytes-done}
use Rattle.visit.proofs.row.check_each.Goals as goal
use Rattle.visit.proofs.row.check_each.Goals.{then-is_some, else-is_some}

pub returns-in_err-transition : goal.returns-in_err-transition
returns-in_err-transition c =
    let e = err_from_is_err_and c.from_residual.result c.from_residual.ensures.1 in
    let o = c.transition in
    let r = node_relation c.args.relation in
    let row = c.args.row.now in
    let k = c.loop-code.code-index in
    rw (e.1, e.2) (byte-refused r (accesses_at (Each c.args.kind) (length row) []) row k (omega arith) (numbered o.result) (o.ensures ∙ each-outcome c.args.kind r row k (omega arith))
    c.loop-code.effect c.loop-code.invariant _ (ap numbered c.in_err-transition.was))

pub loop-code-preserved : goal.loop-code-preserved
loop-code-preserved c =
    let o = c.transition in
    let r = node_relation c.args.relation in
    let row = c.args.row.now in
    let xs = accesses_at (Each c.args.kind) (length row) [] in
    let k = c.loop-code.code-index in
    let decided = o.ensures ∙ each-outcome c.args.kind r row k (omega arith) in
    elim c.if-is_some.branch [
      | then-is_some w ↦ byte-becomes r xs row k (omega arith) (numbered o.result) decided c.loop-code.effect c.loop-code.invariant _ _ (ap numbered c.in_ok-transition.was) (sym c.is_some.ensures ∙ w.if-is_some.true) w.effect-is
      | else-is_some w ↦ byte-stays r xs row k (omega arith) (numbered o.result) decided c.loop-code.effect c.loop-code.invariant _ _ (ap numbered c.in_ok-transition.was) (sym c.is_some.ensures ∙ w.if-is_some.false) w.effect-is
    ]

pub returns : goal.returns
returns c = bytes-done (node_relation c.args.relation) (accesses_at (Each c.args.kind) (length c.args.row.now) []) c.args.row.now c.loop-code.code-index c.loop-code.effect (omega arith) c.loop-code.invariant
