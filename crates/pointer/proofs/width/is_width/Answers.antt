-- The result is a width exactly where the number is one.
use Rattle.std.proofs.Common.{◌∙◌}
use Rattle.pointer.proofs.Widths.{gives-width}
use Rattle.pointer.proofs.width.is_width.Goals as goal

pub returns : goal.returns
returns c = c.is_ok.ensures.value ∙ gives-width _ c.try_from.result c.try_from.ensures
