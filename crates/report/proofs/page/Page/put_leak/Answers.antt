-- One field, and the end of the line.
use Rattle.report.proofs.Lines.{field_put, end_put}
use Rattle.report.proofs.page.Page.put_leak.Goals as goal

pub returns-clause-puts : goal.returns-clause-puts
returns-clause-puts c = field_put _ c.put_number.ensures (end_put c.put_byte.ensures)
