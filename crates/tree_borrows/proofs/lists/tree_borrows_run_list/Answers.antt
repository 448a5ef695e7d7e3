-- The list's answer, as numbers; the buffers are still those that were lent.
use Rattle.std.proofs.Common.{rules}
use Rattle.tree_borrows.proofs.Replies.{list-replied}
use Rattle.tree_borrows.proofs.lists.tree_borrows_run_list.Goals as goal

pub returns : goal.returns
returns c =
    list-replied c.run_list.new.run (search rules) (search rules) (search rules) (search rules) (search rules) (search rules) c.from.ensures c.run_list.ensures.ran
