-- Four parts: a field, the dot, a number, the end of the line.
use mathlib.Core.Path.{sym}
use Rattle.report.proofs.Lines.{pointed-parts}
use Rattle.report.proofs.Writes.{puts_both, puts_as}
use Rattle.report.proofs.page.Page.put_provenance.Goals as goal

pub returns-clause-puts : goal.returns-clause-puts
returns-clause-puts c =
    puts_as (sym (pointed-parts (record { allocation = c.args.provenance.allocation; node = c.args.provenance.node })))
    (puts_both c.put_number.ensures (puts_both c.put_byte.ensures (puts_both c.put_decimal.ensures c.put_byte-2.ensures)))
