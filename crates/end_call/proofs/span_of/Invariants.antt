-- Up to the place the two are the least and the greatest (Spans: Ranged).
use Rattle.end_call.proofs.Spans.{Ranged}
use Rattle.end_call.proofs.span_of.Given as goal

abbrev pub invariant-loop-number : goal.invariant-loop-number
invariant-loop-number l = Ranged l.numbers l.number-index l.least l.greatest
