-- The allocation's parts of the tables hold its tree, and the codes come back as the reads leave them.
use native.Mathlib.Omega.{arith}
use Rattle.definition.specs.Memory.{allocation_at}
use Rattle.parts.proofs.Lent.{nodes-ordered, nodes-small, parents-in, codes-in, tree-held, node_in, tree-visited}
use Rattle.retag.proofs.make_reads.Goals as goal

pub offset_bounds-parents-t : goal.offset_bounds-parents-t
offset_bounds-parents-t c = let h = c.requires.1.1.0 in omega (arith, nodes-small h, nodes-ordered h)

pub slice_bounds-make_reads-end : goal.slice_bounds-make_reads-end
slice_bounds-make_reads-end c = parents-in c.requires.1.1.0

pub slice_bounds-make_reads-end-2 : goal.slice_bounds-make_reads-end-2
slice_bounds-make_reads-end-2 c = codes-in c.requires.1.1.0

pub make_reads-requires : goal.make_reads-requires
make_reads-requires c = let (h, k) = c.requires.1.1 in record { some = ((allocation_at c.requires.0 c.requires.1.0).nodes, tree-held h); node_in_bounds = (node_in h k.in_tree, omega (arith, k.within, h.part.width)) }

pub returns : goal.returns
returns c = λ m n h k. tree-visited h (c.make_reads.ensures (allocation_at m n).nodes (tree-held h))
