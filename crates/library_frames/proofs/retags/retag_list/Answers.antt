-- 1, 2, or the retag of the memory that is held (Lent).
use mathlib.Core.Path.{sym}
use Rattle.pointer.specs.Pointer.{thin_pointer_of}
use Rattle.tables.specs.Held.{buffers}
use Rattle.library_frames.proofs.Lent.{lent-count, lent-nodes, not-lent, bad-field, retagged}
use Rattle.library_frames.proofs.retags.retag_list.Goals as goal

pub returns-then-not-is_lent : goal.returns-then-not-is_lent
returns-then-not-is_lent c = let t = c.args in
    not-lent t.width t.settings (thin_pointer_of t.p) t.layout.now t.len t.count _ (sym c.if-not-is_lent.ensures) (rw c.from.ensures at c.without_entry.ensures)

pub returns-then-bad_fields : goal.returns-then-bad_fields
returns-then-bad_fields c = let t = c.args in
    bad-field t.width t.settings (thin_pointer_of t.p) t.layout.now t.len t.count _ (sym c.if-not-is_lent.ensures) (sym c.if-bad_fields.ensures)
    (rw c.from-then-bad_fields.ensures at c.without_entry-then-bad_fields.ensures)

pub retag_held-answer-requires : goal.retag_held-answer-requires
retag_held-answer-requires c = let t = c.args in
    (_, lent-nodes t.width t.len t.count (buffers t.allocs.now t.parents.now t.protectors.now t.words.now t.codes.now) (sym c.if-not-is_lent.ensures))

pub with_entry-requires : goal.with_entry-requires
with_entry-requires c = let t = c.args in
    lent-count t.width t.len t.count (buffers t.allocs.now t.parents.now t.protectors.now t.words.now t.codes.now) (sym c.if-not-is_lent.ensures)

pub returns : goal.returns
returns c = let t = c.args in
    retagged t.width t.settings (thin_pointer_of t.p) t.layout.now t.len t.count _ (sym c.if-not-is_lent.ensures) (sym c.if-bad_fields.ensures)
    c.retag_held-answer.ensures c.entered_node-node.result c.entered_node-node.ensures c.with_entry.ensures
