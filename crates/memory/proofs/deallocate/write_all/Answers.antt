-- The allocation's parts hold its tree (`all_held`), and come back as the write leaves them (`deallocate-visited`).
use native.Mathlib.Omega.{arith}
use Rattle.tables.proofs.Lookup.{read-nodes, read-codes}
use Rattle.parts.proofs.Lent.{records-of, nodes-ordered, codes-ordered, nodes-small, parents-in, protectors-in, codes-in, all_held, node_in}
use Rattle.memory.proofs.OneTree.{marked-tree, deallocate-visited}
use Rattle.memory.proofs.deallocate.write_all.Goals as goal

pub parts_of-t-requires : goal.parts_of-t-requires
parts_of-t-requires c = let (m, (n, (f, k))) = c.requires in (read-nodes (records-of f.trees) k.made f.read, read-codes (records-of f.trees) k.made f.read)

pub offset_bounds-parents-t : goal.offset_bounds-parents-t
offset_bounds-parents-t c = let (m, (n, (f, k))) = c.requires in let t = marked-tree f k.made c.parts_of-t.ensures in omega (arith, nodes-small t, nodes-ordered t)

pub slice_bounds-deallocate-count : goal.slice_bounds-deallocate-count
slice_bounds-deallocate-count c = let (m, (n, (f, k))) = c.requires in omega (arith, nodes-ordered (marked-tree f k.made c.parts_of-t.ensures))

pub slice_bounds-deallocate-start : goal.slice_bounds-deallocate-start
slice_bounds-deallocate-start c = let (m, (n, (f, k))) = c.requires in nodes-ordered (marked-tree f k.made c.parts_of-t.ensures)

pub slice_bounds-deallocate-end : goal.slice_bounds-deallocate-end
slice_bounds-deallocate-end c = let (m, (n, (f, k))) = c.requires in parents-in (marked-tree f k.made c.parts_of-t.ensures)

pub slice_bounds-deallocate-count-2 : goal.slice_bounds-deallocate-count-2
slice_bounds-deallocate-count-2 c = let (m, (n, (f, k))) = c.requires in omega (arith, nodes-ordered (marked-tree f k.made c.parts_of-t.ensures))

pub slice_bounds-deallocate-start-2 : goal.slice_bounds-deallocate-start-2
slice_bounds-deallocate-start-2 c = let (m, (n, (f, k))) = c.requires in nodes-ordered (marked-tree f k.made c.parts_of-t.ensures)

pub slice_bounds-deallocate-end-2 : goal.slice_bounds-deallocate-end-2
slice_bounds-deallocate-end-2 c = let (m, (n, (f, k))) = c.requires in protectors-in (marked-tree f k.made c.parts_of-t.ensures) f.trees.trees.protectors

pub slice_bounds-deallocate-count-3 : goal.slice_bounds-deallocate-count-3
slice_bounds-deallocate-count-3 c = let (m, (n, (f, k))) = c.requires in omega (arith, codes-ordered (marked-tree f k.made c.parts_of-t.ensures))

pub slice_bounds-deallocate-start-3 : goal.slice_bounds-deallocate-start-3
slice_bounds-deallocate-start-3 c = let (m, (n, (f, k))) = c.requires in codes-ordered (marked-tree f k.made c.parts_of-t.ensures)

pub slice_bounds-deallocate-end-3 : goal.slice_bounds-deallocate-end-3
slice_bounds-deallocate-end-3 c = let (m, (n, (f, k))) = c.requires in codes-in (marked-tree f k.made c.parts_of-t.ensures)

pub deallocate-requires : goal.deallocate-requires
deallocate-requires c =
    let (m, (n, (f, k))) = c.requires in
    let t = marked-tree f k.made c.parts_of-t.ensures in
    record { some = (_, all_held t f.trees.trees.protectors); node_in_bounds = node_in t k.in_tree }

pub returns : goal.returns
returns c = λ m n f k.
    let t = marked-tree f k.made c.parts_of-t.ensures in
    deallocate-visited t c.args.node _ (c.deallocate.ensures _ (all_held t f.trees.trees.protectors))
