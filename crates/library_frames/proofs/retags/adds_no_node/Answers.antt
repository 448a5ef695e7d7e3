-- By the unpin flag.
use Rattle.library_frames.proofs.Fields.{unpin-flag}
use Rattle.library_frames.proofs.retags.adds_no_node.Goals as goal

pub returns-then-settings-eq1 : goal.returns-then-settings-eq1
returns-then-settings-eq1 c = rw (unpin-flag c.args.settings, c.if-settings-eq1.true)
