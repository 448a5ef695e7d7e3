-- 2 for the pointer, after 1; or the answer of `library` at it, as numbers.
use Rattle.library.specs.Fields.{bad_allocation}
use Rattle.tree_borrows.proofs.Replies.{or-true, at_address, bad-pointer, good-pointer}
use Rattle.tree_borrows.proofs.requests.tree_borrows_deallocate.Goals as goal

pub returns-in_default : goal.returns-in_default
returns-in_default c = bad-pointer _ _ _ _ _ (or-true _ c.in_default.ensures) c.from.ensures c.malformed.ensures

pub returns : goal.returns
returns c = let a = c.args in
    rw (← c.in-Ok.ensures.1)
    (good-pointer _ _ _ _ _ _ (at_address (bad_allocation a.width a.kind a.exponent) c.in-Ok.ensures.0 c.in-Ok.ensures.1) c.from-2.ensures c.deallocate.ensures)
