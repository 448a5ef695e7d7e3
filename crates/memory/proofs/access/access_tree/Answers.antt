-- The allocation's parts hold its tree (`tree-held`), and come back as its visit leaves them (`access-visited`).
use native.Mathlib.Omega.{arith}
use Rattle.permission.specs.Codes.{access_kind}
use Rattle.tables.proofs.Lookup.{read-nodes, read-codes}
use Rattle.bounds.proofs.Points.{read-address}
use Rattle.parts.proofs.Lent.{nodes-ordered, codes-ordered, nodes-small, parents-in, codes-in, tree-held, node_in}
use Rattle.memory.proofs.OneTree.{found-tree, access-visited}
use Rattle.memory.proofs.access.access_tree.Goals as goal

pub parts_of-t-requires : goal.parts_of-t-requires
parts_of-t-requires c = let (m, (n, (f, k))) = c.requires in (read-nodes f.trees.records k.made f.read, read-codes f.trees.records k.made f.read)

pub overflow_sub-from : goal.overflow_sub-from
overflow_sub-from c = let (m, (n, (f, k))) = c.requires in omega (arith, read-address f.trees.records k.made f.read, k.above)

pub offset_bounds-parents-t : goal.offset_bounds-parents-t
offset_bounds-parents-t c = let (m, (n, (f, k))) = c.requires in let t = found-tree f k.made c.parts_of-t.ensures in omega (arith, nodes-small t, nodes-ordered t)

pub slice_bounds-access-count : goal.slice_bounds-access-count
slice_bounds-access-count c = let (m, (n, (f, k))) = c.requires in omega (arith, nodes-ordered (found-tree f k.made c.parts_of-t.ensures))

pub slice_bounds-access-start : goal.slice_bounds-access-start
slice_bounds-access-start c = let (m, (n, (f, k))) = c.requires in nodes-ordered (found-tree f k.made c.parts_of-t.ensures)

pub slice_bounds-access-end : goal.slice_bounds-access-end
slice_bounds-access-end c = let (m, (n, (f, k))) = c.requires in parents-in (found-tree f k.made c.parts_of-t.ensures)

pub slice_bounds-access-count-2 : goal.slice_bounds-access-count-2
slice_bounds-access-count-2 c = let (m, (n, (f, k))) = c.requires in omega (arith, codes-ordered (found-tree f k.made c.parts_of-t.ensures))

pub slice_bounds-access-start-2 : goal.slice_bounds-access-start-2
slice_bounds-access-start-2 c = let (m, (n, (f, k))) = c.requires in codes-ordered (found-tree f k.made c.parts_of-t.ensures)

pub slice_bounds-access-end-2 : goal.slice_bounds-access-end-2
slice_bounds-access-end-2 c = let (m, (n, (f, k))) = c.requires in codes-in (found-tree f k.made c.parts_of-t.ensures)

pub access-requires : goal.access-requires
access-requires c =
    let (m, (n, (f, k))) = c.requires in
    let t = found-tree f k.made c.parts_of-t.ensures in
    record { some = (_, tree-held t); node_in_bounds = (node_in t k.in_tree, omega (arith, read-address f.trees.records k.made f.read, t.part.width, k.above, k.within)) }

pub returns : goal.returns
returns c = λ m n f k.
    let a = c.args in
    let t = found-tree f k.made c.parts_of-t.ensures in
    access-visited t (access_kind a.kind) a.node a.addr a.len (read-address f.trees.records k.made f.read) _ (c.access.ensures _ (tree-held t))
