-- The answer of both dereference tests stands for the definition's, whatever the data are.
use Prim.Native.Nat.{ℕ}
use mathlib.Core.Path.{◌≡◌, ap, ◌∙◌}
use mathlib.Core.List.{List}
use Rattle.definition.specs.Memory.{ThinPointer, Memory, dereferenceable}
use Rattle.answer.specs.Answer.{answer_of, reply_to}
use Rattle.answer.specs.Answer.Gives.{Nothing}
use Rattle.answer.specs.declared.Answer.{Answer}
use Rattle.answer.proofs.Replies.{plain-answers}

pub reach-answers : (p : ThinPointer) (back ahead : ℕ) (m : Memory) (words : List ℕ) {r : Answer} → r ≡ reply_to Nothing (dereferenceable p back ahead m).0
    → answer_of r words ≡ (dereferenceable p back ahead m).0
unfolding dereferenceable
reach-answers p back ahead m words e = ap (λ (r : Answer). answer_of r words) e ∙ plain-answers _ words
