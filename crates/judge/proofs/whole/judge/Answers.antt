-- From the empty state all requests are answered, and then the memory is written; the buffers then hold a state, so they have their lengths.
use Rattle.state.proofs.Held.{state-lengths}
use Rattle.state.proofs.Lengths.{have-lengths}
use Rattle.judge.proofs.whole.judge.Goals as goal

pub returns-clause-lengths : goal.returns-clause-lengths
returns-clause-lengths c =
    let l = state-lengths c.answer_all-p.ensures.performing.performing.holds.state in
    have-lengths _ _ _ _ _ _ l.allocs l.parents l.protectors l.words l.codes l.frames
