-- A frame's first number is 0, or 1 and the number of its entries (Frames).
use Prim.Native.Nat.{ℕ, ◌-◌}
use mathlib.Core.Path.{ap, ◌∙◌}
use native.Mathlib.Omega.{arith}
use lib.ListN.{get_or}
use Rattle.definition.specs.Frame.Frame.{Closed}
use Rattle.frames.proofs.FrameNumbers.{head-count}
use Rattle.frames.proofs.Frames.{buffer-length, head_read}
use Rattle.frames.proofs.entry_count.Goals as goal

pub bounds-frames-f : goal.bounds-frames-f
bounds-frames-f c = omega (arith, buffer-length c.requires.holds_frames.0 c.args.frames.now c.args.f c.requires.holds_frames.1 c.requires.f_bound)

pub returns : goal.returns
returns c = λ fs holds.
    c.saturating_sub.ensures ∙ ap (λ (n : ℕ). n - 1) (head_read fs c.args.frames.now c.args.f holds c.requires.f_bound) ∙ head-count (get_or fs c.args.f Closed)
