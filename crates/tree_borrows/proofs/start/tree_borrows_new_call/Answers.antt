-- The answer of `library`, as numbers.
use mathlib.Core.Path.{refl}
use Rattle.tree_borrows.proofs.Replies.{in-numbers}
use Rattle.tree_borrows.proofs.start.tree_borrows_new_call.Goals as goal

pub returns : goal.returns
returns c = (in-numbers c.from.ensures c.new_call.ensures, refl)
