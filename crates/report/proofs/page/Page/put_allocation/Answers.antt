-- The three parts of an allocation's lines.
use mathlib.Core.Path.{sym}
use Rattle.report.proofs.Parts.{allocation-parts}
use Rattle.report.proofs.Writes.{puts_both, puts_as}
use Rattle.report.proofs.page.Page.put_allocation.Goals as goal

pub returns : goal.returns
returns c =
    let a = c.args in
    puts_as (sym (allocation-parts a.a a.x a.words.now a.parents.now a.protectors.now a.codes.now c.requires.words_len))
    (puts_both c.record_line.ensures (puts_both c.words_line.ensures c.node_lines.ensures))
