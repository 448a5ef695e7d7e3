-- 2 for the pointer, after 1; or the answer of `library` at it, as numbers.
use mathlib.Core.Path.{ap}
use mir.Facts.{to_z-of_z}
use Rattle.pointer.specs.Pointer.{back, ahead}
use Rattle.library.specs.Fields.{bad_address}
use Rattle.tree_borrows.proofs.Replies.{or-true, at_address, bad-pointer, good-pointer}
use Rattle.tree_borrows.proofs.requests.tree_borrows_signed_dereferenceable.Goals as goal

pub returns-in_default : goal.returns-in_default
returns-in_default c = bad-pointer _ _ _ _ _ (or-true _ c.in_default.ensures) c.from.ensures c.malformed.ensures

pub returns : goal.returns
returns c = let a = c.args in
    let same = to_z-of_z c.ranges.len in
    rw (← c.in-Ok.ensures.1, ← ap back same, ← ap ahead same)
    (good-pointer _ _ _ _ _ _ (at_address (bad_address a.width) c.in-Ok.ensures.0 c.in-Ok.ensures.1) c.from-2.ensures c.signed_dereferenceable.ensures)
