-- The buffers have their lengths, as they hold a state; and then they hold the empty one.
use Rattle.perform.proofs.Requests.{long-enough, emptied}
use Rattle.perform.proofs.emptying.empty.Goals as goal

pub clear-requires : goal.clear-requires
clear-requires c = long-enough c.requires.1

pub returns-clause-left : goal.returns-clause-left
returns-clause-left c = emptied c.clear.ensures.held
