-- The invariant: whether the codes so far stay.
use mathlib.Core.Path.{sym}
use lib.ListN.{length, get_or}
use native.Mathlib.Omega.{arith}
use Rattle.permission.specs.Codes.{node_relation, numbered}
use Rattle.visit.specs.Walk.{accesses_at}
use Rattle.visit.proofs.Rows.{planned-outcome, stay-done, stay-turn}
use Rattle.visit.proofs.staying.told.Goals as goal

pub loop-k-preserved : goal.loop-k-preserved
loop-k-preserved c = let o = c.outcome in
    let r = node_relation c.args.relation in
    let row = c.args.row.now in
    let xs = accesses_at c.args.what (length row) c.args.lent.now in
    let k = c.loop-k.k in
    let decided = planned-outcome c.args.what (length row) c.args.lent.now r k (get_or row k 0) (omega arith) _ (numbered o.result) c.access_at.ensures o.ensures in
    stay-turn r xs row k (omega arith) c.loop-k.all c.stays-all.result (numbered o.result) decided c.stays-all.ensures c.loop-k.invariant

pub returns : goal.returns
returns c = let row = c.args.row.now in
    sym (stay-done (node_relation c.args.relation) (accesses_at c.args.what (length row) c.args.lent.now) row c.loop-k.k c.loop-k.all (omega arith) c.loop-k.invariant)
