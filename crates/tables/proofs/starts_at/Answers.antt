-- What is read of the record before says where its parts end (Lookup).
use Rattle.std.proofs.Common.{◌≡◌, ◌+◌, ◌-◌, arith}
use Rattle.tables.proofs.Lookup.{record-in, made-last, starts_none, read_next, read-words, read-nodes, read-codes}
use Rattle.tables.proofs.starts_at.Goals as goal

pub returns-then-a-eq0 : goal.returns-then-a-eq0
returns-then-a-eq0 c = λ m h. rw c.if-a-eq0.true (starts_none m)

pub allocation_at-x-requires : goal.allocation_at-x-requires
allocation_at-x-requires c = let (m, (h, l)) = c.requires in record-in h _ (made-last h _ l c.if-a-eq0.false h)

pub overflow_add-result : goal.overflow_add-result
overflow_add-result c = let (m, (h, l)) = c.requires in omega (arith, read-words h (made-last h _ l c.if-a-eq0.false h) c.allocation_at-x.ensures)

pub overflow_add-result-2 : goal.overflow_add-result-2
overflow_add-result-2 c = let (m, (h, l)) = c.requires in omega (arith, read-nodes h (made-last h _ l c.if-a-eq0.false h) c.allocation_at-x.ensures)

pub overflow_mul-result : goal.overflow_mul-result
overflow_mul-result c = let (m, (h, l)) = c.requires in omega (arith, read-codes h (made-last h _ l c.if-a-eq0.false h) c.allocation_at-x.ensures)

pub overflow_add-result-3 : goal.overflow_add-result-3
overflow_add-result-3 c = let (m, (h, l)) = c.requires in omega (arith, read-codes h (made-last h _ l c.if-a-eq0.false h) c.allocation_at-x.ensures)

pub returns : goal.returns
returns c = λ m h. let e : c.args.a - 1 + 1 ≡ c.args.a = omega (arith, c.if-a-eq0.false) in
    rw e at (read_next h (made-last c.requires.1.0 _ c.requires.1.1 c.if-a-eq0.false h) c.allocation_at-x.ensures)
