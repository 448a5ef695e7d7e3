-- The lines from `node` on are left; its row starts at `start`, with as many codes behind as the nodes that are left have.
use native.Mathlib.Omega.{arith}
use lib.ListN.{length}
use Rattle.report.proofs.Rows.{nodes-step, nodes-end, rows_next}
use Rattle.report.proofs.Writes.{left_as, less-left, none_left, room_next}
use Rattle.report.proofs.page.Page.node_lines.Goals as goal

pub node_line-requires-clause-room : goal.node_line-requires-clause-room
node_line-requires-clause-room c =
    let a = c.args in
    let l = c.loop-node in
    room_next _ _ (left_as (nodes-step a.a a.size a.parents.now a.protectors.now a.codes.now l.node l.start (omega arith)) l.invariant.lines)

pub loop-node-preserved : goal.loop-node-preserved
loop-node-preserved c =
    let a = c.args in
    let l = c.loop-node in
    record {
      rows = rows_next (length a.parents.now) l.node a.size l.start (length a.codes.now) (omega arith) l.invariant.rows;
      lines = less-left _ _ (left_as (nodes-step a.a a.size a.parents.now a.protectors.now a.codes.now l.node l.start (omega arith)) l.invariant.lines) c.node_line.ensures;
    }

pub returns : goal.returns
returns c =
    let a = c.args in
    let l = c.loop-node in
    none_left (left_as (nodes-end a.a a.size a.parents.now a.protectors.now a.codes.now l.node l.start (omega arith)) l.invariant.lines)
