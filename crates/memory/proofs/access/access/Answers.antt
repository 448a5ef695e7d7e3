-- Where nothing is visited nothing changes (`unvisited-accessed`); else the refusal and the codes are those of the visit (`accessed-through`), and the
-- bytes start where the record says (`start-through`).
use mathlib.Core.Path.{sym, ap}
use native.Mathlib.Omega.{arith}
use Rattle.std.proofs.Common.{rules, ◌≡◌}
use Rattle.refusal.specs.Number.{number, refusal_of}
use Rattle.refusal.proofs.Numbers.{number_positive}
use Rattle.pointer.specs.Pointer.{provenance_of, thin_pointer_of}
use Rattle.permission.specs.Codes.{access_kind}
use Rattle.tables.proofs.Lookup.{allocs-length}
use Rattle.bounds.proofs.Points.{target-space}
use Rattle.memory.proofs.LoadStore.{checked, none-empty, unvisited-accessed, reached-through, found-through, accessed-through, above-start, start_none, start-through, start-fits}
use Rattle.memory.proofs.access.access.Goals as goal

pub target_of-a-requires : goal.target_of-a-requires
target_of-a-requires c = allocs-length c.requires.holds_trees.1.records

pub pointer_refusal-requires-clause-size_bound : goal.pointer_refusal-requires-clause-size_bound
pointer_refusal-requires-clause-size_bound c = target-space c.requires.holds_trees.1.records _ c.target_of-a.ensures

pub returns-in_err-pointer_refusal-clause-accessed : goal.returns-in_err-pointer_refusal-clause-accessed
returns-in_err-pointer_refusal-clause-accessed c = λ m bytes h.
    let e : refusal_of c.from_residual.result ≡ number c.in_err-pointer_refusal.field-0.0 = search rules in
    rw e (unvisited-accessed _ h _ (c.in_err-pointer_refusal.ensures m _ h.records c.target_of-a.ensures) (λ z. absurd (omega (arith, z, number_positive c.in_err-pointer_refusal.field-0.0))))

pub overflow_sub-start : goal.overflow_sub-start
overflow_sub-start c = let (m, h) = c.requires.holds_trees in
    above-start c.args.p c.in-Some.is _ c.if-len-gt0.true (c.in_ok-pointer_refusal.ensures m _ h.records c.target_of-a.ensures) h c.target_of-a.ensures

pub overflow_add-start : goal.overflow_add-start
overflow_add-start c = let (m, h) = c.requires.holds_trees in
    omega (arith, start-fits c.args.p c.in-Some.is _ c.if-len-gt0.true (c.in_ok-pointer_refusal.ensures m _ h.records c.target_of-a.ensures) h c.target_of-a.ensures)

pub access_tree-requires : goal.access_tree-requires
access_tree-requires c =
    let (m, h) = c.requires.holds_trees in
    let passed = c.in_ok-pointer_refusal.ensures m _ h.records c.target_of-a.ensures in
    (m, (_, (found-through c.args.p c.in-Some.is _ c.if-len-gt0.true passed h c.target_of-a.ensures, reached-through c.args.p c.in-Some.is _ c.if-len-gt0.true passed h c.target_of-a.ensures)))

pub returns-in_err-access_tree-in-Some-clause-accessed : goal.returns-in_err-access_tree-in-Some-clause-accessed
returns-in_err-access_tree-in-Some-clause-accessed c = λ m bytes h.
    let e : refusal_of c.from_residual-in_err-access_tree-in-Some.result ≡ number c.in_err-access_tree-in-Some.field-0.0 = search rules in
    let passed = c.in_ok-pointer_refusal.ensures m _ h.records c.target_of-a.ensures in
    rw e
    (accessed-through c.args.p c.in-Some.is _ c.if-len-gt0.true passed h c.target_of-a.ensures (access_kind c.args.kind) bytes
    (c.in_err-access_tree-in-Some.ensures m _ (found-through c.args.p c.in-Some.is _ c.if-len-gt0.true passed h c.target_of-a.ensures)
    (reached-through c.args.p c.in-Some.is _ c.if-len-gt0.true passed h c.target_of-a.ensures)))

pub returns-in_ok-access_tree-in-Some-clause-accessed : goal.returns-in_ok-access_tree-in-Some-clause-accessed
returns-in_ok-access_tree-in-Some-clause-accessed c = λ m bytes h.
    let passed = c.in_ok-pointer_refusal.ensures m _ h.records c.target_of-a.ensures in
    accessed-through c.args.p c.in-Some.is _ c.if-len-gt0.true passed h c.target_of-a.ensures (access_kind c.args.kind) bytes
    (c.in_ok-access_tree-in-Some.ensures m _ (found-through c.args.p c.in-Some.is _ c.if-len-gt0.true passed h c.target_of-a.ensures)
    (reached-through c.args.p c.in-Some.is _ c.if-len-gt0.true passed h c.target_of-a.ensures))

pub returns-in_ok-access_tree-in-Some-clause-start_value : goal.returns-in_ok-access_tree-in-Some-clause-start_value
returns-in_ok-access_tree-in-Some-clause-start_value c = λ m h.
    start-through c.args.p c.in-Some.is _ c.if-len-gt0.true (c.in_ok-pointer_refusal.ensures m _ h.records c.target_of-a.ensures) h c.target_of-a.ensures

pub returns-in_default-clause-accessed : goal.returns-in_default-clause-accessed
returns-in_default-clause-accessed c = λ m bytes h. unvisited-accessed _ h 0 (c.in_ok-pointer_refusal.ensures m _ h.records c.target_of-a.ensures) (λ z. omega arith)

pub returns-in_default-clause-start_value : goal.returns-in_default-clause-start_value
returns-in_default-clause-start_value c = λ m h. sym (start_none _ _ m (omega arith))

pub returns-in_default-2-clause-accessed : goal.returns-in_default-2-clause-accessed
returns-in_default-2-clause-accessed c = λ m bytes h.
    let passed = c.in_ok-pointer_refusal.ensures m _ h.records c.target_of-a.ensures in
    unvisited-accessed _ h 0 passed (λ z. none-empty (checked _ _ _ m (sym passed)) (ap provenance_of c.in_default.is))

pub returns-in_default-2-clause-start_value : goal.returns-in_default-2-clause-start_value
returns-in_default-2-clause-start_value c = λ m h.
    let passed = c.in_ok-pointer_refusal.ensures m _ h.records c.target_of-a.ensures in
    sym (start_none _ _ m (none-empty (checked (thin_pointer_of c.args.p) c.args.len c.args.exponent m (sym passed)) (ap provenance_of c.in_default.is)))
