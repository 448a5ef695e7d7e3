-- State and kind, as the record has them.
use Rattle.std.proofs.Common.{ℕ, ◌<◌, length, ap, ne_eqb, arith}
use Rattle.std.specs.Prelude.{nat_eq}
use Rattle.tables.proofs.Lookup.{record-in, same_count}
use Rattle.bounds.proofs.Points.{read-kind, read_live, read-dead}
use Rattle.bounds.proofs.is_live_heap.Goals as goal

pub allocation_at-a-requires : goal.allocation_at-a-requires
allocation_at-a-requires c = record-in c.requires.1.0 _ c.requires.1.1

pub returns-then-a : goal.returns-then-a
returns-then-a c = λ m h. let made : c.args.i < length m = omega (arith, c.requires.1.1, same_count h c.requires.1.0) in
    rw (read_live h made c.allocation_at-a.ensures c.if-a.true) (ap (λ (k : ℕ). nat_eq k 1) (read-kind h made c.allocation_at-a.ensures))

pub returns-else-a : goal.returns-else-a
returns-else-a c = λ m h. let made : c.args.i < length m = omega (arith, c.requires.1.1, same_count h c.requires.1.0) in
    rw (read-dead h made c.allocation_at-a.ensures c.if-a.false) (ne_eqb _ 1 c.if-a.false)
