-- Its digits.
use mathlib.Core.Path.{refl}
use Rattle.report.proofs.page.Page.put_decimal.Goals as goal

pub returns : goal.returns
returns c = record { contents = c.put_digits-self.ensures.contents; place = c.put_digits-self.ensures.place; kept = c.put_digits-self.auto.out; same = refl }
