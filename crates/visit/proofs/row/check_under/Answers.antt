-- As many numbers as codes tell as much as all of them (Rows).
use Rattle.std.proofs.Common.{length}
use Rattle.visit.proofs.Rows.{accesses-cut}
use Rattle.visit.proofs.row.check_under.Goals as goal

pub returns-in-Local : goal.returns-in-Local
returns-in-Local c =
    let a = c.args in
    rw (c.in-Local.is, ← accesses-cut a.what (length a.row.now) a.lent.now) c.check_told-in-Local.ensures

pub returns-in-Foreign : goal.returns-in-Foreign
returns-in-Foreign c =
    let a = c.args in
    rw (c.in-Foreign.is, ← accesses-cut a.what (length a.row.now) a.lent.now) c.check_told-in-Foreign.ensures
