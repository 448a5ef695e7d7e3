-- A space, then the number.
use Rattle.report.proofs.Writes.{puts_both}
use Rattle.report.proofs.page.Page.put_number.Goals as goal

pub returns : goal.returns
returns c = puts_both c.put_byte.ensures c.put_decimal.ensures
