-- What is read of the records is the allocation's own; and so are its parts.
use Rattle.std.specs.Prelude.{Some}
use mathlib.Core.Path.{refl, sym}
use Rattle.bounds.specs.Bounds.{Points}
use Rattle.pointer.specs.Pointer.{provenance_of}
use Rattle.tables.proofs.Lookup.{allocs-length, read-nodes, read-codes}
use Rattle.retag.proofs.Tests.{named-made, named-read, named-located}
use Rattle.retag.proofs.parent_of.Goals as goal

pub target_of-a-requires : goal.target_of-a-requires
target_of-a-requires c = allocs-length c.requires.records.1

pub parts_of-requires : goal.parts_of-requires
parts_of-requires c =
    let (m, r) = c.requires.records in
    let h : Points m c.args.allocs.now (provenance_of (Some c.args.provenance)) = record { records = r; made = sym (c.if-never_made.ensures m _ r c.target_of-a.ensures) } in
    let made = named-made refl h c.target_of-a.ensures in
    let read = named-read refl h c.target_of-a.ensures in
    (read-nodes r made read, read-codes r made read)

pub used_behind-requires : goal.used_behind-requires
used_behind-requires c =
    let (m, r) = c.requires.records in
    (m, (r, named-made refl (record { records = r; made = sym (c.if-never_made.ensures m _ r c.target_of-a.ensures) }) c.target_of-a.ensures))

pub returns-clause-found : goal.returns-clause-found
returns-clause-found c = (
  refl,
  refl,
  λ m r.
      let u = c.used_behind.ensures m r in
      named-located refl (record { records = r; made = sym (c.if-never_made.ensures m _ r c.target_of-a.ensures) }) c.target_of-a.ensures
      (record { words = refl; nodes = u.nodes; codes = u.codes }) c.parts_of.ensures,
)
