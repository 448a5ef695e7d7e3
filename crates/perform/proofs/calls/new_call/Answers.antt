-- The frame is closed, so it can be opened, without entries.
use mathlib.Core.Path.{refl}
use Rattle.definition.specs.Frame.{new_call}
use Rattle.perform.proofs.calls.new_call.Goals as goal

pub open_frame-requires : goal.open_frame-requires
open_frame-requires c = record { holds_frames = (c.requires.holds_frames.0.frames, (c.requires.holds_frames.1.0, c.requires.holds_frames.1.1)); f_bound = c.requires.f_bound }

pub returns : goal.returns
unfolding new_call
returns c = λ s h. record { answers = λ words. refl; frames = (c.open_frame.ensures s.frames h).held }
