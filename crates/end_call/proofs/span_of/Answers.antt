-- Up to the place the two are the least and the greatest (Spans: Ranged).
use Rattle.std.proofs.Common.{rules, arith, ◌≡◌, ◌<◌, length}
use Rattle.end_call.proofs.Spans.{ranged-first, ranged-more, spans-none, spans-ranged}
use Rattle.end_call.proofs.span_of.Goals as goal

pub returns-then-is_empty : goal.returns-then-is_empty
returns-then-is_empty c = let e : length c.args.numbers.now ≡ 0 = search rules in spans-none c.args.numbers.now e

pub loop-number-init : goal.loop-number-init
loop-number-init c = let e : 0 < length c.args.numbers.now = search rules in ranged-first c.args.numbers.now e

pub loop-number-preserved : goal.loop-number-preserved
loop-number-preserved c =
    rw (c.min-least.ensures, c.max-greatest.ensures)
    (ranged-more c.args.numbers.now c.loop-number.number-index c.loop-number.least c.loop-number.greatest c.loop-number-test.true c.loop-number.invariant)

pub returns : goal.returns
returns c = spans-ranged c.args.numbers.now c.loop-number.number-index c.loop-number.least c.loop-number.greatest (omega arith) c.loop-number.invariant
