-- The tests, or, where they refuse nothing, the reads through the parent, which are made.
use Rattle.std.proofs.Common.{rules, ◌≡◌}
use mathlib.Core.Path.{◌∙◌}
use native.Mathlib.Omega.{arith}
use Rattle.refusal.specs.Number.{number, refusal_of}
use Rattle.refusal.proofs.Numbers.{number_positive}
use Rattle.bounds.proofs.Points.{read-address, target-space}
use Rattle.parts.proofs.Lent.{tree-at}
use Rattle.retag.proofs.Children.{tested-read, refused-by-tests, refused-by-reads}
use Rattle.retag.proofs.Tests.{own, place-at, passed-at, fits-at}
use Rattle.retag.proofs.retag_refusal.Goals as goal

pub bounds_refusal-requires-clause-size_bound : goal.bounds_refusal-requires-clause-size_bound
bounds_refusal-requires-clause-size_bound c = let (m, (A, (h, l, of))) = c.requires in target-space h.records _ l.read

pub returns-in_err-bounds_refusal-clause-value : goal.returns-in_err-bounds_refusal-clause-value
returns-in_err-bounds_refusal-clause-value c = λ s frame mask A h l of asked.
    let e : refusal_of c.from_residual.result ≡ number c.in_err-bounds_refusal.field-0.0 = search rules in
    e ∙ refused-by-tests c.args.settings mask frame c.args.entries s asked c.args.p _
    (c.in_err-bounds_refusal.ensures s.memory A _ _ of (record { records = h.records; made = l.made }) l.read l.used)
    (λ z. omega (arith, z, number_positive c.in_err-bounds_refusal.field-0.0))

pub place_in-from-requires : goal.place_in-from-requires
place_in-from-requires c =
    let (m, (A, (h, l, of))) = c.requires in
    let passed = passed-at m c.args.p of _ _ _ (c.in_ok-bounds_refusal.ensures m A _ _ of (record { records = h.records; made = l.made }) l.read l.used) in
    λ long. omega (arith, read-address h.records passed.fits.reached.made (own c.args.p h.records l of), passed.above long)

pub make_reads-requires : goal.make_reads-requires
make_reads-requires c =
    let (m, (A, (h, l, of))) = c.requires in
    let passed = passed-at m c.args.p of _ _ _ (c.in_ok-bounds_refusal.ensures m A _ _ of (record { records = h.records; made = l.made }) l.read l.used) in
    (m, (_, (tree-at h l.part, (fits-at passed (place-at c.args.p h.records l of passed.fits.reached.made _ c.place_in-from.ensures)).reached)))

pub returns-clause-value : goal.returns-clause-value
returns-clause-value c = λ s frame mask A h l of asked.
    let tested = c.in_ok-bounds_refusal.ensures s.memory A _ _ of (record { records = h.records; made = l.made }) l.read l.used in
    let passed = passed-at s.memory c.args.p of _ _ _ tested in
    let at = place-at c.args.p h.records l of passed.fits.reached.made _ c.place_in-from.ensures in
    (c.make_reads.ensures s.memory _ (tree-at h l.part) (fits-at passed at).reached).refusal
    ∙ refused-by-reads c.args.settings mask frame c.args.entries s asked c.args.p of h.records.valid tested at

pub returns-clause-tested : goal.returns-clause-tested
returns-clause-tested c = λ m A h l of.
    let passed = passed-at m c.args.p of _ _ _ (c.in_ok-bounds_refusal.ensures m A _ _ of (record { records = h.records; made = l.made }) l.read l.used) in
    let at = place-at c.args.p h.records l of passed.fits.reached.made _ c.place_in-from.ensures in
    tested-read c.args.inside.now passed at (c.make_reads.ensures m _ (tree-at h l.part) (fits-at passed at).reached)
