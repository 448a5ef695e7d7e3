-- The letter, five fields, and the end of the line.
use Rattle.definition.specs.Output.{node_line}
use Rattle.report.proofs.Lines.{field_put, end_put}
use Rattle.report.proofs.Writes.{puts_both, puts_as}
use Rattle.report.proofs.page.Page.node_line.Goals as goal

pub returns : goal.returns
unfolding node_line
returns c =
    puts_both c.put_byte.ensures
    (field_put _ c.put_number.ensures
    (field_put _ c.put_number-2.ensures
    (field_put _ c.put_parent.ensures
    (field_put _ (puts_as c.protector_name.ensures c.put_bytes.ensures)
    (field_put _ c.put_codes.ensures
    (end_put c.put_byte-2.ensures))))))
