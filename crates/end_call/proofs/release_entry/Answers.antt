-- The parts of the buffers that are lent on hold the allocation's tree, and what comes back makes the buffers of the memory after it (Lent).
use native.Mathlib.Omega.{arith}
use Rattle.definition.proofs.ValidMemory.{was-made}
use Rattle.frames.specs.List.{provenance_of}
use Rattle.tables.proofs.Lookup.{record-in, read-nodes, read-codes}
use Rattle.parts.proofs.Lent.{records-of, nodes-ordered, codes-ordered, nodes-small, width_small, parents-in, protectors-in, codes-in, node_in, node-in-marks, all_held, marks-held}
use Rattle.end_call.proofs.Lent.{found-live, found-dead, entry-tree, released, released-dead}
use Rattle.end_call.proofs.release_entry.Goals as goal

pub allocation_at-a-requires : goal.allocation_at-a-requires
allocation_at-a-requires c = let (m, (h, w)) = c.requires in record-in (records-of h) _ (was-made m (provenance_of c.args.e) w).allocation

pub parts_of-t-requires : goal.parts_of-t-requires
parts_of-t-requires c =
    let (m, (h, w)) = c.requires in
    let made = (was-made m (provenance_of c.args.e) w).allocation in
    (read-nodes (records-of h) made c.allocation_at-a.ensures, read-codes (records-of h) made c.allocation_at-a.ensures)

pub slice_bounds-release_dead-count : goal.slice_bounds-release_dead-count
slice_bounds-release_dead-count c = let (m, (h, w)) = c.requires in let t = entry-tree h (provenance_of c.args.e) w c.allocation_at-a.ensures c.parts_of-t.ensures in omega (arith, nodes-ordered t)

pub slice_bounds-release_dead-start : goal.slice_bounds-release_dead-start
slice_bounds-release_dead-start c = let (m, (h, w)) = c.requires in let t = entry-tree h (provenance_of c.args.e) w c.allocation_at-a.ensures c.parts_of-t.ensures in nodes-ordered t

pub slice_bounds-release_dead-end : goal.slice_bounds-release_dead-end
slice_bounds-release_dead-end c = let (m, (h, w)) = c.requires in let t = entry-tree h (provenance_of c.args.e) w c.allocation_at-a.ensures c.parts_of-t.ensures in protectors-in t h.trees.protectors

pub slice_bounds-release_dead-count-then-a : goal.slice_bounds-release_dead-count-then-a
slice_bounds-release_dead-count-then-a c = let (m, (h, w)) = c.requires in let t = entry-tree h (provenance_of c.args.e) w c.allocation_at-a.ensures c.parts_of-t.ensures in omega (arith, codes-ordered t)

pub slice_bounds-release_dead-start-then-a : goal.slice_bounds-release_dead-start-then-a
slice_bounds-release_dead-start-then-a c = let (m, (h, w)) = c.requires in let t = entry-tree h (provenance_of c.args.e) w c.allocation_at-a.ensures c.parts_of-t.ensures in codes-ordered t

pub slice_bounds-release_dead-end-then-a : goal.slice_bounds-release_dead-end-then-a
slice_bounds-release_dead-end-then-a c = let (m, (h, w)) = c.requires in let t = entry-tree h (provenance_of c.args.e) w c.allocation_at-a.ensures c.parts_of-t.ensures in codes-in t

pub release_dead-requires : goal.release_dead-requires
release_dead-requires c =
    let (m, (h, w)) = c.requires in
    let t = entry-tree h (provenance_of c.args.e) w c.allocation_at-a.ensures c.parts_of-t.ensures in
    record { some = (_, marks-held t h.trees.protectors); node_in_bounds = node-in-marks t h.trees.protectors (was-made m (provenance_of c.args.e) w).node }

pub returns-then-a : goal.returns-then-a
returns-then-a c = λ m h w.
    let t = entry-tree h (provenance_of c.args.e) w c.allocation_at-a.ensures c.parts_of-t.ensures in
    released-dead h _ t.part (found-dead h t.part.made c.allocation_at-a.ensures c.if-a.true) _ (c.release_dead.ensures _ (marks-held t h.trees.protectors))

pub offset_bounds-parents-t : goal.offset_bounds-parents-t
offset_bounds-parents-t c = let (m, (h, w)) = c.requires in let t = entry-tree h (provenance_of c.args.e) w c.allocation_at-a.ensures c.parts_of-t.ensures in omega (arith, nodes-small t, nodes-ordered t)

pub slice_bounds-release_live-count : goal.slice_bounds-release_live-count
slice_bounds-release_live-count c = let (m, (h, w)) = c.requires in let t = entry-tree h (provenance_of c.args.e) w c.allocation_at-a.ensures c.parts_of-t.ensures in omega (arith, nodes-ordered t)

pub slice_bounds-release_live-start : goal.slice_bounds-release_live-start
slice_bounds-release_live-start c = let (m, (h, w)) = c.requires in let t = entry-tree h (provenance_of c.args.e) w c.allocation_at-a.ensures c.parts_of-t.ensures in nodes-ordered t

pub slice_bounds-release_live-end : goal.slice_bounds-release_live-end
slice_bounds-release_live-end c = let (m, (h, w)) = c.requires in let t = entry-tree h (provenance_of c.args.e) w c.allocation_at-a.ensures c.parts_of-t.ensures in parents-in t

pub slice_bounds-release_live-count-2 : goal.slice_bounds-release_live-count-2
slice_bounds-release_live-count-2 c = let (m, (h, w)) = c.requires in let t = entry-tree h (provenance_of c.args.e) w c.allocation_at-a.ensures c.parts_of-t.ensures in omega (arith, nodes-ordered t)

pub slice_bounds-release_live-start-2 : goal.slice_bounds-release_live-start-2
slice_bounds-release_live-start-2 c = let (m, (h, w)) = c.requires in let t = entry-tree h (provenance_of c.args.e) w c.allocation_at-a.ensures c.parts_of-t.ensures in nodes-ordered t

pub slice_bounds-release_live-end-2 : goal.slice_bounds-release_live-end-2
slice_bounds-release_live-end-2 c = let (m, (h, w)) = c.requires in let t = entry-tree h (provenance_of c.args.e) w c.allocation_at-a.ensures c.parts_of-t.ensures in protectors-in t h.trees.protectors

pub slice_bounds-release_live-count-3 : goal.slice_bounds-release_live-count-3
slice_bounds-release_live-count-3 c = let (m, (h, w)) = c.requires in let t = entry-tree h (provenance_of c.args.e) w c.allocation_at-a.ensures c.parts_of-t.ensures in omega (arith, codes-ordered t)

pub slice_bounds-release_live-start-3 : goal.slice_bounds-release_live-start-3
slice_bounds-release_live-start-3 c = let (m, (h, w)) = c.requires in let t = entry-tree h (provenance_of c.args.e) w c.allocation_at-a.ensures c.parts_of-t.ensures in codes-ordered t

pub slice_bounds-release_live-end-3 : goal.slice_bounds-release_live-end-3
slice_bounds-release_live-end-3 c = let (m, (h, w)) = c.requires in let t = entry-tree h (provenance_of c.args.e) w c.allocation_at-a.ensures c.parts_of-t.ensures in codes-in t

pub release_live-requires : goal.release_live-requires
release_live-requires c =
    let (m, (h, w)) = c.requires in
    let t = entry-tree h (provenance_of c.args.e) w c.allocation_at-a.ensures c.parts_of-t.ensures in
    record { some = (_, all_held t h.trees.protectors); node_in_bounds = (node_in t (was-made m (provenance_of c.args.e) w).node, omega (arith, width_small t)) }

pub returns : goal.returns
returns c = λ m h w.
    let t = entry-tree h (provenance_of c.args.e) w c.allocation_at-a.ensures c.parts_of-t.ensures in
    released h _ t.part (found-live h t.part.made c.allocation_at-a.ensures c.if-a.false) _ _ (c.release_live.ensures _ (all_held t h.trees.protectors))
