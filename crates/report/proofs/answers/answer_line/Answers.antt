-- The index, the refusal, and what is given; no number has more than twenty digits.
use Prim.Native.Nat.{ℕ}
use mathlib.Core.List.{[], ◌++◌}
use mathlib.Core.Path.{ap}
use borrow.Author.Rules.{rules}
use Rattle.definition.specs.Output.{ascii, decimal, ended, answer_line}
use Rattle.report.proofs.Writes.{puts_both, puts_as, put-written}
use Rattle.report.proofs.answers.answer_line.Goals as goal

pub returns : goal.returns
unfolding answer_line ended
returns c =
    let e = puts_both c.put_decimal.ensures
    (puts_both (puts_as (ap (λ (n : ℕ). ascii " " ++ decimal n) (c.refusal.ensures [])) c.put_number.ensures) c.put_given.ensures.puts) in
    let w = put-written e in
    let s = e.same in
    record { written = search rules; fits = search rules }
