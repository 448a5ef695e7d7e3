-- A frame's first number is 0 where it is closed (Frames).
use Prim.Native.Nat.{ℕ}
use mathlib.Core.Path.{ap, ◌∙◌}
use mathlib.Core.Bool.{not}
use native.Mathlib.Omega.{arith}
use lib.Dec.{eqb}
use lib.ListN.{get_or}
use Rattle.definition.specs.Frame.Frame.{Closed}
use Rattle.frames.proofs.FrameNumbers.{head-open}
use Rattle.frames.proofs.Frames.{buffer-length, head_read}
use Rattle.frames.proofs.is_open.Goals as goal

pub bounds-frames-f : goal.bounds-frames-f
bounds-frames-f c = omega (arith, buffer-length c.requires.holds_frames.0 c.args.frames.now c.args.f c.requires.holds_frames.1 c.requires.f_bound)

pub returns : goal.returns
returns c = λ fs holds.
    ap (λ (n : ℕ). not (eqb n 0)) (head_read fs c.args.frames.now c.args.f holds c.requires.f_bound)
    ∙ head-open (get_or fs c.args.f Closed)
