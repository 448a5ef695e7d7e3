-- 1 by the lengths; else the list on buffers that were emptied.
use Rattle.std.proofs.Common.{sym, ◌∙◌}
use Rattle.run.proofs.Turns.{not-lent, list-ran}
use Rattle.run.proofs.list.run_list.Goals as goal

pub returns-then-not-have_lengths-clause-ran : goal.returns-then-not-have_lengths-clause-ran
returns-then-not-have_lengths-clause-ran c = not-lent (sym c.have_lengths.ensures ∙ c.if-not-have_lengths.true)

pub returns-clause-ran : goal.returns-clause-ran
returns-clause-ran c = list-ran (sym c.have_lengths.ensures ∙ c.if-not-have_lengths.false) c.run_cleared.ensures.ran
