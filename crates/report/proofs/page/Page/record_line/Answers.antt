-- The letter, six fields, and the end of the line.
use Rattle.report.proofs.Lines.{field_put, end_put}
use Rattle.report.proofs.Writes.{puts_both, puts_as}
use Rattle.report.proofs.page.Page.record_line.Goals as goal

pub returns : goal.returns
returns c =
    puts_both c.put_byte.ensures
    (field_put _ c.put_number.ensures
    (field_put _ (puts_as c.liveness_name.ensures c.put_bytes.ensures)
    (field_put _ (puts_as c.kind_name.ensures c.put_bytes-2.ensures)
    (field_put _ c.put_number-2.ensures
    (field_put _ c.put_number-3.ensures
    (field_put _ c.put_number-4.ensures
    (end_put c.put_byte-2.ensures)))))))
