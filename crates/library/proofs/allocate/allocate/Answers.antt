-- 1, 2, or the allocation in the memory that the buffers hold.
use mathlib.Core.Path.{◌∙◌, sym}
use Rattle.library.proofs.Served.{not-formed, bad-field}
use Rattle.library.proofs.Performed.{can-enter, allocated}
use Rattle.library.proofs.allocate.allocate.Goals as goal

pub returns-then-not-well_formed_at : goal.returns-then-not-well_formed_at
returns-then-not-well_formed_at c = rw c.from.ensures (not-formed _ _ _ _ _ (sym c.well_formed_at.ensures ∙ c.if-not-well_formed_at.true))

pub returns-then-bad_allocation : goal.returns-then-bad_allocation
returns-then-bad_allocation c =
    rw c.from-then-bad_allocation.ensures
    (bad-field _ _ _ _ _ (sym c.well_formed_at.ensures ∙ c.if-not-well_formed_at.false)
    (sym c.bad_allocation.ensures ∙ c.if-bad_allocation.true))

pub allocate-requires : goal.allocate-requires
allocate-requires c = let formed = sym c.well_formed_at.ensures ∙ c.if-not-well_formed_at.false in
    let fine = sym c.bad_allocation.ensures ∙ c.if-bad_allocation.false in
    (_, (_, can-enter _ _ formed _ _ _ fine))

pub returns : goal.returns
returns c = let formed = sym c.well_formed_at.ensures ∙ c.if-not-well_formed_at.false in
    let fine = sym c.bad_allocation.ensures ∙ c.if-bad_allocation.false in
    allocated _ _ formed _ _ _ fine _ c.width_at.ensures (c.allocate.ensures _ _ (can-enter _ _ formed _ _ _ fine))
