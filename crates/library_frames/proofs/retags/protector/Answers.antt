-- By the function-entry flag, and then by the pointer.
use mathlib.Core.Path.{refl, ap, ◌∙◌}
use Rattle.definition.specs.Request.{entry_protector}
use Rattle.library_frames.specs.Settings.{fields_of}
use Rattle.library_frames.proofs.Fields.{entry-flag}
use Rattle.library_frames.proofs.retags.protector.Goals as goal

pub returns-then-settings : goal.returns-then-settings
returns-then-settings c = let t = c.args.settings in rw (entry-flag t, c.if-settings.true) (c.entry_protector.ensures ∙ ap entry_protector (c.safe_pointer.ensures (fields_of t) refl))

pub returns-else-settings : goal.returns-else-settings
returns-else-settings c = rw (entry-flag c.args.settings, c.if-settings.false)
