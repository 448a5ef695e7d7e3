-- Bound by bound; what is used is within each.
use Rattle.std.proofs.Common.{◌∙◌, arith}
use Rattle.definition.specs.Memory.{exceeds_bounds}
use Rattle.tables.proofs.Lookup.{allocs-length, made-count, at-end, used_all}
use Rattle.bounds.proofs.exceeds_bounds.Goals as goal

pub made_count-count-requires : goal.made_count-count-requires
made_count-count-requires c = allocs-length c.requires.1

pub starts_at-used-requires : goal.starts_at-used-requires
starts_at-used-requires c = let (m, h) = c.requires in (m, (h, omega (arith, made-count h)))

pub lacks-requires : goal.lacks-requires
lacks-requires c = let (m, h) = c.requires in omega (arith, made-count h, h.valid.bounded.allocations)

pub lacks-requires-2 : goal.lacks-requires-2
lacks-requires-2 c = let (m, h) = c.requires in omega (arith, (used_all m _ _ _ h.valid (at-end h c.made_count-count.ensures (c.starts_at-used.ensures m h))).words, h.valid.bounded.words)

pub lacks-requires-3 : goal.lacks-requires-3
lacks-requires-3 c = let (m, h) = c.requires in omega (arith, (used_all m _ _ _ h.valid (at-end h c.made_count-count.ensures (c.starts_at-used.ensures m h))).nodes, h.valid.bounded.nodes)

pub lacks-requires-4 : goal.lacks-requires-4
lacks-requires-4 c = let (m, h) = c.requires in omega (arith, (used_all m _ _ _ h.valid (at-end h c.made_count-count.ensures (c.starts_at-used.ensures m h))).codes, h.valid.bounded.codes)

pub returns : goal.returns
unfolding exceeds_bounds
returns c = λ m h. let u = used_all m _ _ _ h.valid (at-end h c.made_count-count.ensures (c.starts_at-used.ensures m h)) in
    rw (c.lacks.ensures, c.lacks-2.ensures, c.lacks-3.ensures, c.lacks-4.ensures, c.made_count-count.ensures ∙ made-count h, u.words, u.nodes, u.codes)
