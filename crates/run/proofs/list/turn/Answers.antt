-- The step leaves the next state and its answer, which is written behind the others.
use Rattle.std.proofs.Common.{arith}
use Rattle.run.proofs.Turns.{few_words, turned}
use Rattle.run.proofs.list.turn.Goals as goal

pub put_answer-requires : goal.put_answer-requires
put_answer-requires c = omega (arith, few_words c.turn-answer.new.run (c.turn-answer.ensures.turned c.requires.0 c.requires.1))

pub returns-clause-turned : goal.returns-clause-turned
returns-clause-turned c = λ s h. turned c.turn-answer.new.run (c.turn-answer.ensures.turned s h) c.put_answer.ensures
