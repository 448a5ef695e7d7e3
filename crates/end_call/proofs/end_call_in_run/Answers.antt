-- No entry is refused with 4, and all are released (EndCall).
use Prim.Native.Nat.{ℕ}
use mathlib.Core.Path.{ap, ◌∙◌}
use Rattle.definition.specs.Memory.{refused_with}
use Rattle.answer.specs.Answer.{reply_to}
use Rattle.answer.specs.Answer.Gives.{Nothing}
use Rattle.end_call.proofs.EndCall.{all-released}
use Rattle.end_call.proofs.end_call_in_run.Goals as goal

pub returns : goal.returns
returns c = λ m h made.
    let k = all-released (c.release_list.ensures m h made) made in
    record { reply = c.from.ensures ∙ ap (λ (n : ℕ). reply_to Nothing (refused_with n)) k.refusal; nodes = k.nodes }
