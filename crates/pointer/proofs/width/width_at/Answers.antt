-- The result is the width, or there is none.
use Rattle.std.proofs.Common.{◌∙◌, ap}
use Rattle.pointer.specs.Width.{width_of}
use Rattle.pointer.proofs.Widths.{gives-width-at}
use Rattle.pointer.proofs.width.width_at.Goals as goal

pub returns : goal.returns
returns c = ap width_of c.unwrap_or.ensures ∙ gives-width-at _ c.try_from.result c.try_from.ensures
