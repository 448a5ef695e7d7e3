-- The answer of `end_call_list`, as numbers.
use Rattle.tree_borrows.proofs.Replies.{in-numbers}
use Rattle.tree_borrows.proofs.end_call_reply.Goals as goal

pub returns : goal.returns
returns c = in-numbers c.from.ensures c.end_call_list.ensures
