-- The letter, a field, and the words.
use Rattle.report.proofs.Lines.{field_put}
use Rattle.report.proofs.Writes.{puts_both}
use Rattle.report.proofs.page.Page.words_line.Goals as goal

pub returns : goal.returns
returns c = puts_both c.put_byte.ensures (field_put _ c.put_number.ensures c.put_words.ensures)
