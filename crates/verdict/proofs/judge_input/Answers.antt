-- From the empty state all turns are made, and then the memory is written (Turns).
use Rattle.std.proofs.Common.{arith}
use mathlib.Core.Path.{subst⁻¹}
use Rattle.verdict.specs.declared.Progress.{Progress}
use Rattle.verdict.specs.Came.{IsPrinted}
use Rattle.verdict.proofs.Turns.{well-formed, printed}
use Rattle.verdict.proofs.judge_input.Goals as goal

pub finish-requires-clause-well_formed : goal.finish-requires-clause-well_formed
finish-requires-clause-well_formed c = well-formed c.in_ok-p.ensures.made

pub returns-clause-printed : goal.returns-clause-printed
returns-clause-printed c =
    let made = c.in_ok-p.ensures.made in
    subst⁻¹ (λ (p : Progress). IsPrinted p c.finish.new.out) c.finish.ensures.value (printed made (omega (arith, made.came.ready.short)) c.finish.ensures.written)
