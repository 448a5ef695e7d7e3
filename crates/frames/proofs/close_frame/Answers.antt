-- What the frame uses of its part is lent on and comes back as zeros (Frames).
use Rattle.std.proofs.Common.{ℕ, ◌≡◌, ◌+◌, ◌-◌, ◌*◌, ap, ◌∙◌, length, take, drop, replicate, arith, length-take, length-drop}
use Rattle.frames.proofs.Frames.{buffer-length, frame-fits, closes}
use Rattle.frames.proofs.close_frame.Goals as goal

pub slice_bounds-fill_zero-end : goal.slice_bounds-fill_zero-end
slice_bounds-fill_zero-end c =
    let h = c.requires.holds_frames in
    let b = c.args.frames.now in
    omega (arith, c.entry_count-count.ensures h.0 h.1, (frame-fits h.0 b c.args.f h.1 c.requires.f_bound).room, buffer-length h.0 b c.args.f h.1 c.requires.f_bound)

pub returns : goal.returns
returns c =
    let n = c.entry_count-count.result in
    let b = c.args.frames.now in
    let at = c.args.f * 65 in
    λ fs holds.
    let same = c.entry_count-count.ensures fs holds in
    let wide : length (take (at + 1 + n - at) (drop at b)) ≡ 1 + n =
    simp (length-take, length-drop)
    (omega (arith, same, (frame-fits fs b c.args.f holds c.requires.f_bound).room, buffer-length fs b c.args.f holds c.requires.f_bound)) in
    closes fs b c.args.f holds c.requires.f_bound n same c.fill_zero.new.part (c.fill_zero.ensures ∙ ap (λ (k : ℕ). replicate k 0) wide)
