-- The program came so far, and each turn that was made counts (Turns).
use Rattle.state.specs.Run.{SameBuffers}
use Rattle.verdict.proofs.Turns.{Going}
use Rattle.verdict.proofs.take_turns.Given as goal

abbrev pub invariant-loop : goal.invariant-loop
invariant-loop l = record { going : Going l.p l.counter l.input l.out l.run; same : SameBuffers l.fn.run l.run }
