-- The records are also those of the memory before the reads; the reads and the child are the definition's one change.
use mathlib.Core.Path.{sym, ap, ◌∙◌}
use native.Mathlib.Omega.{arith}
use Rattle.definition.specs.Memory.{size}
use Rattle.bounds.proofs.Points.{read-address, read-size}
use Rattle.parts.proofs.Afterwards.{there-after, records-before, parts-after, used-after}
use Rattle.retag.specs.Retag.{reads_at, after_reads}
use Rattle.retag.proofs.Children.{fits_after, added}
use Rattle.retag.proofs.Tests.{own, place-at, fits-at}
use Rattle.retag.proofs.Grown.{read-nodes}
use Rattle.retag.proofs.add_child.Goals as goal

pub place_in-from-requires : goal.place_in-from-requires
place_in-from-requires c =
    let (m, (l, k, valid, h)) = c.requires.located in
    let q = c.args.parent in
    let made = k.fits.reached.made in
    let r = records-before (reads_at m q.number q.node c.args.p.addr c.args.inside.now) m q.number made valid h in
    λ long. omega (arith, read-address r made (own c.args.p r l c.requires.provenance_value), k.above long)

pub insert_child-requires-clause-holds_marked : goal.insert_child-requires-clause-holds_marked
insert_child-requires-clause-holds_marked c =
    let (m, (l, k, valid, h)) = c.requires.located in
    let q = c.args.parent in
    let reads = reads_at m q.number q.node c.args.p.addr c.args.inside.now in
    let made = k.fits.reached.made in
    let r = records-before reads m q.number made valid h in
    let after = after_reads m q.number q.node c.args.p.addr c.args.inside.now in (
      after,
      (
        h,
        fits_after reads (fits-at k (place-at c.args.p r l c.requires.provenance_value made _ c.place_in-from.ensures)),
        read-size r made (own c.args.p r l c.requires.provenance_value) ∙ sym (ap size (there-after reads m q.number made)),
        c.node_place-place.ensures after q.number h.valid (used-after reads m q.number made l.used) (parts-after reads m q.number made l.part),
      ),
    )

pub returns : goal.returns
returns c = λ m mask l k valid h e.
    let q = c.args.parent in
    let reads = reads_at m q.number q.node c.args.p.addr c.args.inside.now in
    let made = k.fits.reached.made in
    let r = records-before reads m q.number made valid h in
    let read = own c.args.p r l c.requires.provenance_value in
    let place = place-at c.args.p r l c.requires.provenance_value made _ c.place_in-from.ensures in
    let long = read-size r made read in
    let after = after_reads m q.number q.node c.args.p.addr c.args.inside.now in
    added c.args.settings mask e c.args.p c.requires.provenance_value m valid k place long (read-nodes r made read)
    (c.insert_child.ensures after mask h (fits_after reads (fits-at k place)) (long ∙ sym (ap size (there-after reads m q.number made)))
    (c.node_place-place.ensures after q.number h.valid (used-after reads m q.number made l.used) (parts-after reads m q.number made l.part)) e)
