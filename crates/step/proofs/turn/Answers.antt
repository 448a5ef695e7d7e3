-- The lent words are 32-bit words, and their fields and what follows them are read off them (Steps).
use Rattle.std.proofs.Common.{arith}
use Rattle.step.proofs.Steps.{all_words, decoded, turned-short}
use Rattle.step.proofs.turn.Goals as goal

pub returns-then-request-lt4-clause-turned : goal.returns-then-request-lt4-clause-turned
returns-then-request-lt4-clause-turned c = λ r h. rw c.from.ensures (turned-short c.args.run.now h c.args.request.now c.if-request-lt4.true)

pub turn_decoded-requires : goal.turn_decoded-requires
turn_decoded-requires c = let ws = c.args.request.now in
    let words = all_words ws (λ i. omega (arith, c.type_inv.request i)) in
    let d = decoded ws words c.of.result c.of.ensures c.following.ensures (omega arith) in record { holds = c.requires; decoded = (ws, d) }

pub returns-clause-turned : goal.returns-clause-turned
returns-clause-turned c = let ws = c.args.request.now in
    let words = all_words ws (λ i. omega (arith, c.type_inv.request i)) in
    let d = decoded ws words c.of.result c.of.ensures c.following.ensures (omega arith) in
    λ r h. c.turn_decoded.ensures.turned r ws h d
