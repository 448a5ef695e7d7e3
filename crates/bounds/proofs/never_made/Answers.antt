-- The node is not below the number of nodes in the record; there are none where no allocation was made.
use Rattle.std.proofs.Common.{arith}
use Rattle.bounds.proofs.Points.{target-never}
use Rattle.bounds.proofs.never_made.Goals as goal

pub returns-else-allocation-ge128 : goal.returns-else-allocation-ge128
returns-else-allocation-ge128 c = λ m A h q. let e = c.in-Some.is in rw e (target-never h _ _ (omega arith) (rw e at q))
