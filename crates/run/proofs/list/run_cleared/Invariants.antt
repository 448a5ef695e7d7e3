-- After i turns what is left of the list, from the state that is held, comes to what the whole list does (Turns).
use Rattle.state.specs.Run.{SameBuffers}
use Rattle.run.specs.Turns.{Going}
use Rattle.run.proofs.list.run_cleared.Given as goal

abbrev pub invariant-loop-end : goal.invariant-loop-end
invariant-loop-end l = record {
  going : Going l.requests l.ends l.initial.answers l.end-index l.from l.written l.run l.answers;
  same : SameBuffers l.initial.run l.run;
}
