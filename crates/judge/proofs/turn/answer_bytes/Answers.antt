-- The answer is the definition's, and its line is written.
use Rattle.std.proofs.Common.{subst}
use Rattle.definition.specs.Memory.{Answer}
use Rattle.state.proofs.Held.{words-held}
use Rattle.judge.specs.Turn.{LineWritten}
use Rattle.judge.proofs.turn.answer_bytes.Goals as goal

pub write_answer-requires : goal.write_answer-requires
write_answer-requires c =
    let k = c.step_bytes-answer.ensures.turned c.requires.holds.0 c.requires.holds.1 in
    (c.requires.line_room, words-held k.holds.state)

pub returns-clause-turned : goal.returns-clause-turned
returns-clause-turned c = λ state h.
    let k = c.step_bytes-answer.ensures.turned state h in
    let w = c.write_answer in
    record {
      holds = k.holds;
      line = subst (λ (a : Answer). LineWritten c.args.index a c.args.out.now c.args.at w.new.out w.result.at w.result.refused) k.answer w.ensures;
    }
