-- Buffers that pass the test hold their memory's records, and the answer is the test with what precedes it decided.
use mathlib.Core.Path.{◌≡◌, sym, ap, ◌∙◌}
use mathlib.Core.Bool.{true}
use Rattle.definition.specs.Width.{Width}
use Rattle.tables.specs.Encoding.{Buffers}
use Rattle.tables.specs.Decoding.{view}
use Rattle.tables.specs.Held.{buffers}
use Rattle.tables.proofs.ReadBack.{holds-records}
use Rattle.wellformed.specs.WellFormed.{well_formed}
use Rattle.wellformed.specs.AtWidth.{fits_in, well_formed_at}
use Rattle.wellformed.proofs.Sound.{sound}
use Rattle.wellformed.proofs.at_width.well_formed_at.Goals as goal

pub fits_width-requires : goal.fits_width-requires
fits_width-requires c = (_, holds-records (sound _ (sym c.well_formed-else-not-is_width.ensures.test ∙ c.if-not-well_formed.false)))

pub returns : goal.returns
unfolding well_formed_at
returns c =
    let b : Buffers = let a = c.args in buffers a.allocs.now a.parents.now a.protectors.now a.words.now a.codes.now in
    let formed : well_formed b ≡ true = sym c.well_formed-else-not-is_width.ensures.test ∙ c.if-not-well_formed.false in
    rw (sym c.is_width.ensures ∙ c.if-not-is_width.false, formed)
    (c.fits_width.ensures _ (holds-records (sound b formed)) ∙ ap (λ (w : Width). fits_in w (view b) b.words) c.width_at.ensures)
