-- As many words as there is room for: the heading's behind the text, and the loaded ones behind the heading.
use mathlib.Core.List.{◌++◌}
use Rattle.answer.specs.Answer.{answer_of}
use Rattle.transcript.proofs.Answers.{answer-behind}
use Rattle.transcript.proofs.put_answer.Goals as goal

pub returns : goal.returns
returns c = let a = c.args in
    let words = a.words.now in
    λ text before h.
    rw (answer-behind text (answer_of a.answer words) c.loaded_words-loaded.result.now c.heading_of-head.result c.loaded_words-loaded.ensures.loaded (c.heading_of-head.ensures words)) at
    (c.put_each.ensures (text ++ c.heading_of-head.result) before (c.put_each-behind_head.ensures text before h))
