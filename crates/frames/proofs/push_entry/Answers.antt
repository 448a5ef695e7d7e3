-- The count goes up by one, and the entry's number stands behind the others (Frames).
use Rattle.std.proofs.Common.{◌<◌, arith}
use Rattle.std.proofs.Math.ListN.{length-set}
use Rattle.frames.specs.List.{provenance_of}
use Rattle.frames.proofs.Frames.{buffer-length, pushes}
use Rattle.frames.proofs.push_entry.Goals as goal

pub bounds-frames-at : goal.bounds-frames-at
bounds-frames-at c =
    let h = c.requires.holds_frames in
    omega (arith, buffer-length h.0 c.args.frames.now c.args.f h.1.0 c.requires.f_bound.0)

-- the entry has a place in the frame, and the frame in the buffer
pub bounds-frames-at-2 : goal.bounds-frames-at-2
bounds-frames-at-2 c =
    let h = c.requires.holds_frames in
    simp length-set
    (omega (arith, h.1.1, c.entry_count-count.ensures h.0 h.1.0, buffer-length h.0 c.args.frames.now c.args.f h.1.0 c.requires.f_bound.0))

pub returns : goal.returns
returns c =
    let h = c.requires.holds_frames in
    let n = c.entry_count-count.result in
    let room : n < 64 = omega (arith, h.1.1, c.entry_count-count.ensures h.0 h.1.0) in
    λ fs holds.
    rw c.entry_number-number.ensures
    (pushes fs c.args.frames.now c.args.f holds c.requires.f_bound.0 (provenance_of c.args.e) n c.requires.f_bound.1 (c.entry_count-count.ensures fs holds) room)
