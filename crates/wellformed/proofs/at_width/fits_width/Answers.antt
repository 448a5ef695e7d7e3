-- At 64 bits by the memory's validity; else it is tested.
use Rattle.wellformed.proofs.AtWidth.{widest_fits}
use Rattle.wellformed.proofs.at_width.fits_width.Goals as goal

pub returns-in-Bits64 : goal.returns-in-Bits64
returns-in-Bits64 c = λ m h. rw c.in-Bits64.is (widest_fits m _ h.valid)
