-- The numbers behind the frame's first one stand for its entries (Frames).
use Rattle.std.proofs.Common.{arith}
use Rattle.frames.proofs.Frames.{buffer-length, frame-fits, read-entries}
use Rattle.frames.proofs.frame_numbers.Goals as goal

pub slice_bounds-result-end : goal.slice_bounds-result-end
slice_bounds-result-end c =
    let h = c.requires.holds_frames in
    let b = c.args.frames.now in
    omega (arith, c.entry_count.ensures h.0 h.1, (frame-fits h.0 b c.args.f h.1 c.requires.f_bound).room, buffer-length h.0 b c.args.f h.1 c.requires.f_bound)

pub returns : goal.returns
returns c = λ fs holds. read-entries fs c.args.frames.now c.args.f holds c.requires.f_bound c.entry_count.result (c.entry_count.ensures fs holds)
