-- Too few bytes for the fields, or the words behind them are read (Decoding).
use Rattle.std.proofs.Common.{◌-◌, ◌≤◌, ap, ◌∙◌, arith, length, take, drop, length-drop}
use lib.Seq.{take_all}
use Rattle.definition.specs.Run.{words_of}
use Rattle.step.specs.Steps.{Decoded}
use Rattle.step.proofs.Steps.{turned-short}
use Rattle.judge.proofs.Decoding.{few_words, decoded}
use Rattle.judge.proofs.turn.step_bytes.Goals as goal
use Rattle.judge.proofs.turn.step_bytes.Goals.{After-read_words-n}

-- what is read are the words behind the fields
is_decoded : (c : After-read_words-n) → 16 ≤ length c.args.bytes.now → Decoded c.args.q (take c.read_words-n.result c.read_words-n.new.words) (words_of c.args.bytes.now)
is_decoded c long =
    let bytes = c.args.bytes.now in
    let behind = c.read_words-n.ensures.words ∙ ap words_of (take_all (length bytes - 16) (drop 16 bytes) (omega (arith, length-drop 16 bytes))) in
    decoded bytes _ c.args.q long (λ i. omega (arith, c.type_inv.bytes i)) (c.requires.head long) behind

pub returns-then-bytes-lt16-clause-turned : goal.returns-then-bytes-lt16-clause-turned
returns-then-bytes-lt16-clause-turned c = let bytes = c.args.bytes.now in λ r h. rw c.from.ensures (turned-short c.args.run.now h (words_of bytes) (few_words bytes c.if-bytes-lt16.true))

pub turn_decoded-requires-clause-decoded : goal.turn_decoded-requires-clause-decoded
turn_decoded-requires-clause-decoded c =
    (words_of c.args.bytes.now, is_decoded (goal.at.turn_decoded-requires-clause-decoded c).After-read_words-n (omega arith))

pub returns-clause-turned : goal.returns-clause-turned
returns-clause-turned c =
    λ r h. c.turn_decoded.ensures.turned r (words_of c.args.bytes.now) h (is_decoded (goal.at.returns-clause-turned c).After-read_words-n (omega arith))
