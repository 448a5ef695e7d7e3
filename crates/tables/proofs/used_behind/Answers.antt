-- The first record behind those made is behind the last.
use Rattle.std.proofs.Common.{◌∙◌, arith}
use Rattle.tables.proofs.Lookup.{allocs-length, same_count, counted-from, used_all}
use Rattle.tables.proofs.used_behind.Goals as goal

pub first_unmade-requires : goal.first_unmade-requires
first_unmade-requires c = (allocs-length c.requires.1.0, omega (arith, c.requires.1.1, c.requires.1.0.valid.bounded.allocations))

pub starts_at-requires : goal.starts_at-requires
starts_at-requires c = let (m, (h, l)) = c.requires in (m, (h, omega (arith, c.first_unmade.ensures ∙ counted-from h _ (omega (arith, l)))))

pub returns : goal.returns
returns c = λ m h. let (n, (h', l)) = c.requires in
    let e = c.first_unmade.ensures ∙ counted-from h _ (omega (arith, l, same_count h h')) in
    used_all m _ _ _ h.valid (rw e at (c.starts_at.ensures m h))
