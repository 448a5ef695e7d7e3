-- One store is a text of one byte.
use mathlib.Core.Path.{refl}
use lib.ListN.{length-set}
use Rattle.definition.proofs.Writes.{write-one}
use Rattle.report.proofs.page.Page.put_byte.Goals as goal

pub returns : goal.returns
returns c = let p = c.args.self.now in record { contents = write-one p.at c.args.byte p.out.now; place = refl; kept = length-set p.out.now p.at c.args.byte; same = refl }
