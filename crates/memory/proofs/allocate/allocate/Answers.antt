-- 5, 15, then the new allocation, which has room.
use mathlib.Core.Path.{◌∙◌, sym}
use native.Mathlib.Omega.{arith}
use Rattle.memory.proofs.Allocated.{unpickable-allocated, exceeds-allocated, accepts-allocated, room_fits}
use Rattle.memory.proofs.allocate.allocate.Goals as goal

pub returns-then-fails_pick : goal.returns-then-fails_pick
returns-then-fails_pick c = λ m k h. rw c.from.ensures (unpickable-allocated _ m k _ _ _ h (sym (c.fails_pick.ensures m h.records) ∙ c.if-fails_pick.true))

pub returns-then-exceeds_bounds : goal.returns-then-exceeds_bounds
returns-then-exceeds_bounds c = λ m k h.
    let picked = sym (c.fails_pick.ensures m h.records) ∙ c.if-fails_pick.false in
    rw c.from-then-exceeds_bounds.ensures (exceeds-allocated _ m k _ _ _ h picked (sym (c.exceeds_bounds.ensures m h.records) ∙ c.if-exceeds_bounds.true))

pub append_allocation-n-requires : goal.append_allocation-n-requires
append_allocation-n-requires c =
    let (m, (k, h)) = c.requires in
    (m, room_fits m k h (sym (c.exceeds_bounds.ensures m h.records) ∙ c.if-exceeds_bounds.false))

pub overflow_cast-result : goal.overflow_cast-result
overflow_cast-result c =
    let (m, (k, h)) = c.requires in
    let room = sym (c.exceeds_bounds.ensures m h.records) ∙ c.if-exceeds_bounds.false in
    omega (arith, (c.append_allocation-n.ensures m k (room_fits m k h room) h.is_kind).number, h.records.valid.bounded.allocations)

pub returns : goal.returns
returns c = λ m k h.
    let picked = sym (c.fails_pick.ensures m h.records) ∙ c.if-fails_pick.false in
    let room = sym (c.exceeds_bounds.ensures m h.records) ∙ c.if-exceeds_bounds.false in
    accepts-allocated _ m k _ _ _ h picked room (c.append_allocation-n.ensures m k (room_fits m k h room) h.is_kind)
