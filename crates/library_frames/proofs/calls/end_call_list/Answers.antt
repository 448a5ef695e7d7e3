-- What is lent is refused with 1, or holds a memory, whose end call is made (LentCall).
use mathlib.Core.Path.{sym}
use Rattle.tables.specs.Held.{buffers}
use Rattle.library_frames.proofs.LentCall.{not-lent, count-lent, area-lent, memory-lent, ended-lent}
use Rattle.parts.proofs.Lent.{holds-marked}
use Rattle.library_frames.proofs.calls.end_call_list.Goals as goal

pub returns-then-not-is_lent_with_area : goal.returns-then-not-is_lent_with_area
returns-then-not-is_lent_with_area c = let t = c.args in
    rw c.from.ensures (not-lent t.width t.len t.count t.area.now _ (sym c.if-not-is_lent_with_area.ensures) _)

pub end_call_held-requires : goal.end_call_held-requires
end_call_held-requires c =
    let t = c.args in
    let b = buffers t.allocs.now t.parents.now t.protectors.now t.words.now t.codes.now in
    let lent = sym c.if-not-is_lent_with_area.ensures in
    record {
      holds_marked = (_, holds-marked (memory-lent t.width t.len t.count t.area.now b lent));
      count_bound = (count-lent t.width t.len t.count t.area.now b lent, area-lent t.width t.len t.count t.area.now b lent);
    }

pub returns : goal.returns
returns c =
    let t = c.args in
    let b = buffers t.allocs.now t.parents.now t.protectors.now t.words.now t.codes.now in
    let lent = sym c.if-not-is_lent_with_area.ensures in
    let left = c.end_call_held.ensures in
    ended-lent t.width t.len t.count t.area.now b lent (left.ended _ (holds-marked (memory-lent t.width t.len t.count t.area.now b lent))) left.zero
