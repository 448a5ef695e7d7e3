-- The invariant: what the check of the codes so far told.
use mathlib.Core.Path.{sym, ap, ◌∙◌}
use lib.ListN.{length, get_or}
use native.Mathlib.Omega.{arith}
use Rattle.std.proofs.lemmas.Result.{err_from_is_err_and}
use Rattle.permission.specs.Codes.{node_relation, numbered}
use Rattle.visit.specs.Walk.{accesses_at}
use Rattle.visit.proofs.Rows.{planned-outcome, byte-stays, byte-becomes, byte-refused, bytes-done}
use Rattle.visit.proofs.row.check_told.Goals as goal
use Rattle.visit.proofs.row.check_told.Goals.{then-is_some, else-is_some}

pub returns-in_err-outcome : goal.returns-in_err-outcome
returns-in_err-outcome c =
    let e = err_from_is_err_and c.from_residual.result c.from_residual.ensures.1 in
    let o = c.outcome in
    let r = node_relation c.args.relation in
    let row = c.args.row.now in
    let xs = accesses_at c.args.what (length row) c.args.lent.now in
    let k = c.loop-k.k in
    let decided = planned-outcome c.args.what (length row) c.args.lent.now r k (get_or row k 0) (omega arith) _ (numbered o.result) c.access_at.ensures o.ensures in
    rw (e.1, e.2) (byte-refused r xs row k (omega arith) (numbered o.result) decided c.loop-k.effect c.loop-k.invariant _ (ap numbered c.in_err-outcome.was))

pub loop-k-preserved : goal.loop-k-preserved
loop-k-preserved c =
    let o = c.outcome in
    let r = node_relation c.args.relation in
    let row = c.args.row.now in
    let xs = accesses_at c.args.what (length row) c.args.lent.now in
    let k = c.loop-k.k in
    let decided = planned-outcome c.args.what (length row) c.args.lent.now r k (get_or row k 0) (omega arith) _ (numbered o.result) c.access_at.ensures o.ensures in
    elim c.if-is_some.branch [
      | then-is_some w ↦ byte-becomes r xs row k (omega arith) (numbered o.result) decided c.loop-k.effect c.loop-k.invariant _ _ (ap numbered c.in_ok-outcome.was) (sym c.is_some.ensures ∙ w.if-is_some.true) w.effect-is
      | else-is_some w ↦ byte-stays r xs row k (omega arith) (numbered o.result) decided c.loop-k.effect c.loop-k.invariant _ _ (ap numbered c.in_ok-outcome.was) (sym c.is_some.ensures ∙ w.if-is_some.false) w.effect-is
    ]

pub returns : goal.returns
returns c = bytes-done (node_relation c.args.relation) (accesses_at c.args.what (length c.args.row.now) c.args.lent.now) c.args.row.now c.loop-k.k c.loop-k.effect (omega arith) c.loop-k.invariant
