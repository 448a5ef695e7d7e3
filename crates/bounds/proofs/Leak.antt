-- A leak check's answer, from what its loop has seen.
use Prim.Native.Nat.{ℕ}
use mathlib.Core.Path.{◌≡◌, sym, ap, ◌∙◌}
use mathlib.Core.Option.{Option, none, some}
use mathlib.Core.List.{List}
use lib.ListN.{length}
use Rattle.definition.specs.Memory.{Memory, first_leak, leak_answer, leak_check}
use Rattle.definition.proofs.Leaks.{NoneBelow, Lowest, lowest-is-first}
use Rattle.answer.specs.Answer.{answer_of, reply_to}
use Rattle.answer.specs.Answer.Gives.{Nothing}
use Rattle.answer.specs.declared.Answer.{Answer}
use Rattle.answer.specs.declared.Answer.TheVariants.{Leak, Accepted}
use Rattle.answer.proofs.Replies.{leak-answers}

module _ (m : Memory) where
  abbrev reply : Option ℕ → Answer
  reply leak = reply_to Nothing (leak_answer leak)

  pub leak-found : (i : ℕ) → Lowest m i → Leak i ≡ reply_to Nothing (leak_check m).0
  unfolding leak_check
  leak-found i l = sym (ap reply (lowest-is-first m (some i) l))

  pub leak-none : NoneBelow m (length m) → Accepted ≡ reply_to Nothing (leak_check m).0
  unfolding leak_check
  leak-none l = sym (ap reply (lowest-is-first m none l))

  pub check-answers : (words : List ℕ) {r : Answer} → r ≡ reply_to Nothing (leak_check m).0 → answer_of r words ≡ (leak_check m).0
  unfolding leak_check
  check-answers words e = ap (λ (r : Answer). answer_of r words) e ∙ leak-answers (first_leak 0 m) words
