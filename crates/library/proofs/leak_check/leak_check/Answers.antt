-- 1, or what `bounds` answers on the memory that the buffers hold.
use mathlib.Core.Path.{◌∙◌, sym}
use Rattle.tables.proofs.ReadBack.{holds-records}
use Rattle.wellformed.proofs.AtWidth.{sound-at}
use Rattle.library.proofs.Served.{not-formed}
use Rattle.library.proofs.Performed.{leaks-checked}
use Rattle.library.proofs.leak_check.leak_check.Goals as goal

pub returns-then-not-well_formed_at : goal.returns-then-not-well_formed_at
returns-then-not-well_formed_at c = rw c.from.ensures (not-formed _ _ _ _ _ (sym c.well_formed_at.ensures ∙ c.if-not-well_formed_at.true))

pub leak_check-requires : goal.leak_check-requires
leak_check-requires c = (_, holds-records (sound-at _ _ (sym c.well_formed_at.ensures ∙ c.if-not-well_formed_at.false)))

pub returns : goal.returns
returns c = let formed = sym c.well_formed_at.ensures ∙ c.if-not-well_formed_at.false in
    leaks-checked _ _ formed (c.leak_check.ensures _ (holds-records (sound-at _ _ formed)))
