-- State, address and size, as the record has them.
use Prim.Native.Nat.{ℕ, ◌<◌}
use mathlib.Core.Path.{ap₂, ◌∙◌}
use native.Mathlib.Omega.{arith}
use borrow.Author.Tests.{ne_eqb}
use lib.ListN.{length}
use Rattle.definition.specs.Memory.{Memory, ranges_overlap}
use Rattle.tables.specs.Held.{Records}
use Rattle.tables.proofs.Lookup.{record-in, same_count}
use Rattle.bounds.proofs.Points.{read-address, read-size, read_live, read-dead}
use Rattle.memory.proofs.allocate.overlaps_at.Goals as goal

pub allocation_at-a-requires : goal.allocation_at-a-requires
allocation_at-a-requires c = record-in c.requires.1.0 _ c.requires.1.1

pub returns-else-a : goal.returns-else-a
returns-else-a c = let is_made : (m : Memory) → Records m c.args.allocs.now → c.args.i < length m = λ m h. omega (arith, same_count h c.requires.1.0) in
    λ m h. rw (ne_eqb c.allocation_at-a.result.state 1 c.if-a.false, read-dead h (is_made _ h) c.allocation_at-a.ensures c.if-a.false)

pub returns-then-a : goal.returns-then-a
returns-then-a c = let is_made : (m : Memory) → Records m c.args.allocs.now → c.args.i < length m = λ m h. omega (arith, same_count h c.requires.1.0) in
    λ m h.
    let a = c.args in
    let made = is_made _ h in
    let q = c.allocation_at-a.ensures in
    rw (read_live h made q c.if-a.true)
    (c.ranges_overlap.ensures ∙ ap₂ (λ (x y : ℕ). ranges_overlap x y a.address a.len) (read-address h made q) (read-size h made q))
