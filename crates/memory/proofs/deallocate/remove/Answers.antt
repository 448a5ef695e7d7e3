-- Refused by the record, by the tree, or accepted with the state set: one law for each.
use Rattle.std.proofs.Common.{rules, ◌≡◌}
use mathlib.Core.Path.{refl}
use native.Mathlib.Omega.{arith}
use Rattle.refusal.specs.Number.{number, refusal_of}
use Rattle.refusal.proofs.Numbers.{number_positive}
use Rattle.tables.proofs.Lookup.{allocs-length, record-in}
use Rattle.parts.proofs.Lent.{records-of}
use Rattle.memory.proofs.Deallocation.{node_made, target-through, found-through, refused-through, prevented-through, accepted-through, missing-through}
use Rattle.memory.proofs.deallocate.remove.Goals as goal

pub returns-in_default : goal.returns-in_default
returns-in_default c = λ m k h e. let a = c.args in missing-through a.p c.in_default.is k a.len a.exponent h

pub target_of-a-requires : goal.target_of-a-requires
target_of-a-requires c = allocs-length (records-of c.requires.1)

pub returns-in_err-deallocate_refusal : goal.returns-in_err-deallocate_refusal
returns-in_err-deallocate_refusal c = λ m k h q.
    let e : refusal_of c.from_residual.result ≡ number c.in_err-deallocate_refusal.field-0.0 = search rules in
    rw e
    (refused-through c.args.p c.in-Some.is k q h _ (c.in_err-deallocate_refusal.ensures m _ (records-of h) (target-through c.args.p c.in-Some.is _ c.target_of-a.ensures))
    (λ z. omega (arith, z, number_positive c.in_err-deallocate_refusal.field-0.0)))

pub write_all-requires : goal.write_all-requires
write_all-requires c =
    let (m, h) = c.requires in
    let node = node_made _ _ _ _ _ m (c.in_ok-deallocate_refusal.ensures m _ (records-of h) (target-through c.args.p c.in-Some.is _ c.target_of-a.ensures)) in
    (m, (_, (found-through c.args.p c.in-Some.is _ c.target_of-a.ensures h node.made, node)))

pub returns-in_err-write_all : goal.returns-in_err-write_all
returns-in_err-write_all c = λ m k h q.
    let e : refusal_of c.from_residual-in_err-write_all.result ≡ number c.in_err-write_all.field-0.0 = search rules in
    let passed = c.in_ok-deallocate_refusal.ensures m _ (records-of h) (target-through c.args.p c.in-Some.is _ c.target_of-a.ensures) in
    let node = node_made _ _ _ _ _ m passed in
    rw e
    (prevented-through c.args.p c.in-Some.is k q h passed (c.in_err-write_all.ensures m _ (found-through c.args.p c.in-Some.is _ c.target_of-a.ensures h node.made) node)
    (λ z. omega (arith, z, number_positive c.in_err-write_all.field-0.0)))

pub bounds-allocs-provenance : goal.bounds-allocs-provenance
bounds-allocs-provenance c =
    let (m, h) = c.requires in
    let node = node_made _ _ _ _ _ m (c.in_ok-deallocate_refusal.ensures m _ (records-of h) (target-through c.args.p c.in-Some.is _ c.target_of-a.ensures)) in
    omega (arith, record-in (records-of h) _ node.made)

pub returns : goal.returns
returns c = λ m k h q.
    let passed = c.in_ok-deallocate_refusal.ensures m _ (records-of h) (target-through c.args.p c.in-Some.is _ c.target_of-a.ensures) in
    let node = node_made _ _ _ _ _ m passed in
    accepted-through c.args.p c.in-Some.is k q h passed (c.in_ok-write_all.ensures m _ (found-through c.args.p c.in-Some.is _ c.target_of-a.ensures h node.made) node) refl
