-- The answer of `library`, as numbers.
use Rattle.tree_borrows.proofs.Replies.{in-numbers}
use Rattle.tree_borrows.proofs.requests.tree_borrows_allocate.Goals as goal

pub returns : goal.returns
returns c = in-numbers c.from.ensures c.allocate.ensures
