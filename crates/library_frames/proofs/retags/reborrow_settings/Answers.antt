-- By what `safe_pointer` and `protector` give.
use mathlib.Core.Path.{refl}
use Rattle.library_frames.specs.Settings.{fields_of}
use Rattle.library_frames.proofs.Fields.{freeze-flag}
use Rattle.library_frames.proofs.retags.reborrow_settings.Goals as goal

pub returns : goal.returns
returns c = let t = c.args.settings in λ mask. rw (c.safe_pointer.ensures (fields_of t) refl, c.protector.ensures, freeze-flag t)
