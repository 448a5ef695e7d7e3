-- 4, and then what the record refuses; what is read is what the allocation has.
use mathlib.Core.Path.{sym, ◌∙◌}
use Rattle.definition.specs.Memory.{Provenance}
use Rattle.bounds.proofs.Points.{target-record}
use Rattle.memory.specs.Deallocate.{refusal_through}
use Rattle.memory.proofs.Deallocation.{made-node, record-read}
use Rattle.memory.proofs.deallocate.deallocate_refusal.Goals as goal

pub returns-then-never_made : goal.returns-then-never_made
unfolding refusal_through
returns-then-never_made c = λ m A h q. rw (sym (c.never_made.ensures m A h q) ∙ c.if-never_made.true)

pub returns : goal.returns
unfolding refusal_through
returns c = λ m A h q.
    let a = c.args in
    let t : Provenance = record { allocation = a.provenance.allocation; node = a.provenance.node } in
    let e = sym (c.never_made.ensures m A h q) ∙ c.if-never_made.false in
    let made = (made-node m t e).made in
    rw e (record-read h made (q ∙ target-record h t made) a.addr a.kind a.len a.exponent c.record_refusal.ensures)
