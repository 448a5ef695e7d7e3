-- At i the answer is that for the allocations from i on, whose parts stand at the front of what is left.
use Rattle.wellformed.proofs.Walk.{Walked}
use Rattle.wellformed.proofs.bad_allocations.Given as goal

abbrev pub invariant-loop-i : goal.invariant-loop-i
invariant-loop-i l = Walked l.allocs l.parents l.protectors l.words l.codes l.count l.i l.at.node l.at.word l.at.code
