-- The step, which keeps the width, and then the width by what it answers (Steps).
use Rattle.std.proofs.Common.{ℕ, not, ap, ◌∙◌}
use Rattle.std.specs.Prelude.{eqb}
use Rattle.definition.specs.Run.{width_after}
use Rattle.pointer.specs.Width.{width_of}
use Rattle.pointer.specs.declared.width.Width.{Width}
use Rattle.request.specs.Fields.{request_of}
use Rattle.step.proofs.Steps.{turned}
use Rattle.step.proofs.turn_decoded.Goals as goal

pub returns-clause-turned : goal.returns-clause-turned
returns-clause-turned c = λ r ws h d.
    let step = c.step_decoded-answer in
    turned c.args.run.now h ws d _ (step.ensures.stepped r.state ws h.state d)
    (λ a ws e.
    c.width_after-run.ensures a ws (ap (λ (n : ℕ). not (eqb n 0)) (c.refusal.ensures step.new.run.words.now) ∙ e)
    ∙ ap (λ (w : Width). width_after a (request_of c.args.q ws) (width_of w)) step.ensures.kept.width)
