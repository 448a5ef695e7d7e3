-- 1, 2, or what `bounds` answers on the memory that the buffers hold.
use mathlib.Core.Path.{◌∙◌, sym, ap}
use mir.Facts.{to_z-of_z}
use Rattle.tables.proofs.ReadBack.{holds-records}
use Rattle.wellformed.proofs.AtWidth.{sound-at}
use Rattle.library.proofs.Served.{not-formed, bad-field}
use Rattle.library.proofs.Performed.{dereferenced}
use Rattle.pointer.specs.Pointer.{back, ahead}
use Rattle.library.proofs.dereferenceable.signed_dereferenceable.Goals as goal

pub returns-then-not-well_formed_at : goal.returns-then-not-well_formed_at
returns-then-not-well_formed_at c = rw c.from.ensures (not-formed _ _ _ _ _ (sym c.well_formed_at.ensures ∙ c.if-not-well_formed_at.true))

pub returns-then-bad_address : goal.returns-then-bad_address
returns-then-bad_address c =
    rw c.from-then-bad_address.ensures
    (bad-field _ _ _ _ _ (sym c.well_formed_at.ensures ∙ c.if-not-well_formed_at.false)
    (sym c.bad_address.ensures ∙ c.if-bad_address.true))

pub signed_dereferenceable-requires : goal.signed_dereferenceable-requires
signed_dereferenceable-requires c = (_, holds-records (sound-at _ _ (sym c.well_formed_at.ensures ∙ c.if-not-well_formed_at.false)))

pub returns : goal.returns
returns c = let formed = sym c.well_formed_at.ensures ∙ c.if-not-well_formed_at.false in
    let fine = sym c.bad_address.ensures ∙ c.if-bad_address.false in
    let same = to_z-of_z c.ranges.len in
    rw (← ap back same, ← ap ahead same)
    (dereferenced _ _ _ _ _ formed fine (c.signed_dereferenceable.ensures _ (holds-records (sound-at _ _ formed))))
