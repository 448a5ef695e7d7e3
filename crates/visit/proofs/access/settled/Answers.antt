-- All bytes have the access of the first.
use mathlib.Core.Path.{refl, sym, ap, ◌∙◌}
use Rattle.permission.specs.Codes.{maybe_access}
use Rattle.visit.proofs.Rows.{all_alike}
use Rattle.visit.proofs.access.settled.Goals as goal

pub returns-in-Some : goal.returns-in-Some
returns-in-Some c = record {
  same = refl;
  accesses = all_alike c.args.v.what c.args.v.len c.args.lent.now c.in-Some.kind (sym c.access_at.ensures ∙ ap maybe_access c.in-Some.is) (c.all_alike.ensures c.if-not-all_alike.false);
}
