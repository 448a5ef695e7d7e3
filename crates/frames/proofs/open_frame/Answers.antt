-- A closed frame's numbers are zeros: with 1 for the first they are an open one's without entries (Frames).
use mathlib.Core.Path.{◌≡◌, subst}
use mathlib.Core.Bool.{false}
use mathlib.Core.List.{List}
use native.Mathlib.Omega.{arith}
use lib.ListN.{get_or}
use Rattle.definition.specs.Frame.{Frame, is_open}
use Rattle.definition.specs.Frame.Frame.{Closed}
use Rattle.frames.proofs.Frames.{buffer-length, one_list, opens}
use Rattle.frames.proofs.open_frame.Goals as goal

pub bounds-frames-f : goal.bounds-frames-f
bounds-frames-f c = omega (arith, buffer-length c.requires.holds_frames.0 c.args.frames.now c.args.f c.requires.holds_frames.1.0 c.requires.f_bound)

pub returns : goal.returns
returns c = let b = c.args.frames.now in
    let h = c.requires.holds_frames in
    λ fs holds.
    opens fs b c.args.f holds c.requires.f_bound
    (subst (λ (gs : List Frame). is_open (get_or gs c.args.f Closed) ≡ false) (one_list h.0 fs b h.1.0 holds) h.1.1)
