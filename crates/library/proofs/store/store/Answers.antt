-- 1, 2, or the store to the memory that the buffers hold.
use mathlib.Core.Path.{◌∙◌, sym}
use Rattle.wellformed.proofs.AtWidth.{sound-at}
use Rattle.memory.proofs.Afterwards.{holds-bytes}
use Rattle.library.proofs.Served.{not-formed, bad-field}
use Rattle.library.proofs.Fine.{exponent-shifts, store-exponent}
use Rattle.library.proofs.Performed.{stored}
use Rattle.library.proofs.store.store.Goals as goal

pub returns-then-not-well_formed_at : goal.returns-then-not-well_formed_at
returns-then-not-well_formed_at c = rw c.from.ensures (not-formed _ _ _ _ _ (sym c.well_formed_at.ensures ∙ c.if-not-well_formed_at.true))

pub returns-then-bad_store : goal.returns-then-bad_store
returns-then-bad_store c =
    rw c.from-then-bad_store.ensures
    (bad-field _ _ _ _ _ (sym c.well_formed_at.ensures ∙ c.if-not-well_formed_at.false)
    (sym c.bad_store.ensures ∙ c.if-bad_store.true))

pub store-requires : goal.store-requires
store-requires c = let formed = sym c.well_formed_at.ensures ∙ c.if-not-well_formed_at.false in
    let fine = sym c.bad_store.ensures ∙ c.if-bad_store.false in record { holds_words = (_, holds-bytes (sound-at _ _ formed)); exponent_bound = exponent-shifts _ (store-exponent _ _ _ _ fine) }

pub returns : goal.returns
returns c = let formed = sym c.well_formed_at.ensures ∙ c.if-not-well_formed_at.false in
    let fine = sym c.bad_store.ensures ∙ c.if-bad_store.false in
    stored _ _ formed _ _ _ fine (c.store.ensures _ (holds-bytes (sound-at _ _ formed)))
