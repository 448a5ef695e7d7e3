-- Above the last address.
use Rattle.pointer.specs.Width.{width_of}
use Rattle.pointer.proofs.Widths.{above-last}
use Rattle.pointer.proofs.width.Width.is_too_high.Goals as goal

pub returns : goal.returns
returns c = above-last (width_of c.args.self) _ c.last_address.ensures
