-- The lines so far and those of what is left are the definition's (Runs). Each request takes bytes, so fewer are left.
use Rattle.std.proofs.Common.{◌-◌, length}
use Rattle.state.specs.Run.{SameBuffers}
use Rattle.judge.specs.Whole.{PerformingIn}
use Rattle.judge.proofs.whole.answer_all.Given as goal

abbrev pub invariant-loop-cut : goal.invariant-loop-cut
invariant-loop-cut l = record { performing : PerformingIn l.bytes l.p l.out l.run; same : SameBuffers l.fn.run l.run }

abbrev pub decreases-loop-cut : goal.decreases-loop-cut
decreases-loop-cut l = length l.bytes - l.p.from
