-- 1, 2, or the deallocation in the memory that the buffers hold.
use mathlib.Core.Path.{◌∙◌, sym}
use Rattle.wellformed.proofs.AtWidth.{sound-at}
use Rattle.parts.proofs.Lent.{holds-marked}
use Rattle.library.proofs.Served.{not-formed, bad-field}
use Rattle.library.proofs.Fine.{allocation-kind}
use Rattle.library.proofs.Performed.{deallocated}
use Rattle.library.proofs.deallocate.deallocate.Goals as goal

pub returns-then-not-well_formed_at : goal.returns-then-not-well_formed_at
returns-then-not-well_formed_at c = rw c.from.ensures (not-formed _ _ _ _ _ (sym c.well_formed_at.ensures ∙ c.if-not-well_formed_at.true))

pub returns-then-bad_allocation : goal.returns-then-bad_allocation
returns-then-bad_allocation c =
    rw c.from-then-bad_allocation.ensures
    (bad-field _ _ _ _ _ (sym c.well_formed_at.ensures ∙ c.if-not-well_formed_at.false)
    (sym c.bad_allocation.ensures ∙ c.if-bad_allocation.true))

pub deallocate-requires : goal.deallocate-requires
deallocate-requires c = let formed = sym c.well_formed_at.ensures ∙ c.if-not-well_formed_at.false in
    let fine = sym c.bad_allocation.ensures ∙ c.if-bad_allocation.false in
    (_, holds-marked (sound-at _ _ formed))

pub returns : goal.returns
returns c = let formed = sym c.well_formed_at.ensures ∙ c.if-not-well_formed_at.false in
    let fine = sym c.bad_allocation.ensures ∙ c.if-bad_allocation.false in
    deallocated _ _ formed _ _ _ _ fine (c.deallocate.ensures _ _ (holds-marked (sound-at _ _ formed)) (allocation-kind _ _ _ _ fine))
