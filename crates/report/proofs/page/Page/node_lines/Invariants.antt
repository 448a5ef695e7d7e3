-- The lines from `node` on are left; its row starts at `start`, with as many codes behind as the nodes that are left have.
use Prim.Native.Nat.{◌+◌, ◌-◌, ◌*◌}
use mathlib.Core.Path.{◌≡◌}
use lib.ListN.{length}
use Rattle.definition.specs.Output.{node_lines}
use Rattle.tables.specs.Decoding.{nodes_in}
use Rattle.report.proofs.Rows.{lines_from}
use Rattle.report.proofs.Writes.{Left}
use Rattle.report.proofs.page.Page.node_lines.Given as goal

abbrev pub invariant-loop-node : goal.invariant-loop-node
invariant-loop-node l = record {
  rows : l.start + (length l.parents - l.node) * l.size ≡ length l.codes;
  lines :
      Left l.initial.self (node_lines l.a 0 (nodes_in (length l.parents) l.size l.parents l.protectors l.codes)) l.self
      (lines_from l.a l.size l.parents l.protectors l.codes l.node l.start);
}
