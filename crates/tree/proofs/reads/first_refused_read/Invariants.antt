-- The invariant: the first refusal of the reads that are left is that of all.
use mathlib.Core.Path.{◌≡◌}
use mathlib.Core.List.{List}
use Rattle.definition.specs.Tree.{Node}
use Rattle.tree.specs.Table.{Holds}
use Rattle.tree.proofs.Inits.{reads_left}
use Rattle.tree.proofs.reads.first_refused_read.Given as goal

abbrev pub invariant-loop-k : goal.invariant-loop-k
invariant-loop-k l = (nodes : List Node) → Holds nodes l.width l.parents l.codes → reads_left l.node l.from l.inside nodes l.k ≡ reads_left l.node l.from l.inside nodes l.initial.k
