-- The mask becomes the codes of the inside bytes.
use Rattle.retag.specs.Settings.{mask_of}
use Rattle.retag.proofs.reborrow.Goals as goal

pub returns-in-Ok-clause-retagged : goal.returns-in-Ok-clause-retagged
returns-in-Ok-clause-retagged c = λ s frame h e.
    c.in-Ok.ensures s frame (mask_of c.args.mask.now) h (record { entered = e; inside = c.inside_codes.ensures })
