-- 1, 2, or the load from the memory that the buffers hold.
use mathlib.Core.Path.{◌∙◌, sym}
use Rattle.wellformed.proofs.AtWidth.{sound-at}
use Rattle.parts.proofs.Lent.{holds-trees}
use Rattle.library.proofs.Served.{not-formed, bad-field}
use Rattle.library.proofs.Fine.{exponent-shifts, load-exponent}
use Rattle.library.proofs.Performed.{loaded}
use Rattle.library.proofs.load.load.Goals as goal

pub returns-then-not-well_formed_at : goal.returns-then-not-well_formed_at
returns-then-not-well_formed_at c = rw c.from.ensures (not-formed _ _ _ _ _ (sym c.well_formed_at.ensures ∙ c.if-not-well_formed_at.true))

pub returns-then-bad_load : goal.returns-then-bad_load
returns-then-bad_load c =
    rw c.from-then-bad_load.ensures
    (bad-field _ _ _ _ _ (sym c.well_formed_at.ensures ∙ c.if-not-well_formed_at.false)
    (sym c.bad_load.ensures ∙ c.if-bad_load.true))

pub load-requires : goal.load-requires
load-requires c = let formed = sym c.well_formed_at.ensures ∙ c.if-not-well_formed_at.false in
    let fine = sym c.bad_load.ensures ∙ c.if-bad_load.false in record { holds_trees = (_, holds-trees (sound-at _ _ formed)); exponent_bound = exponent-shifts _ (load-exponent _ _ _ fine) }

pub returns : goal.returns
returns c = let formed = sym c.well_formed_at.ensures ∙ c.if-not-well_formed_at.false in
    let fine = sym c.bad_load.ensures ∙ c.if-bad_load.false in
    loaded _ _ formed _ _ fine _ (c.load.ensures _ (holds-trees (sound-at _ _ formed)))
