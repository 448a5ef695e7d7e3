-- Zeros at every place are 32 closed frames (Frames).
use lib.ListN.{length}
use Rattle.frames.proofs.Frames.{cleared}
use Rattle.frames.proofs.clear.Goals as goal

pub returns : goal.returns
returns c = cleared c.fill_zero.new.part (length c.args.frames.now) c.requires c.fill_zero.ensures
