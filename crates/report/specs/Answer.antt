-- What the line of an answer says beside its index.
use Rattle.std.specs.Prelude.{ℕ, List, []}
use Rattle.definition.specs.Memory as definition
use Rattle.answer.specs.Answer.{answer_of}
use Rattle.answer.specs.declared.Answer.{Answer}

-- the definition's answer, with the words that are handed out for it
abbrev pub giving : Answer → List ℕ → definition.Answer
giving answer loaded =
    record { refusal = (answer_of answer []).refusal; names = (answer_of answer []).names; words = loaded }
