-- Without an access nothing is touched; else it is the check.
use Rattle.visit.proofs.Untouched.{untouched}
use Rattle.visit.proofs.check_pass.check_lent.Goals as goal

pub returns-then-not-any_access : goal.returns-then-not-any_access
returns-then-not-any_access c = let a = c.args in
    untouched a.v a.lent.now (c.any_access.ensures c.if-not-any_access.true) a.parents.now a.codes.now _
