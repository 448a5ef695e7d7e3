-- As many numbers as codes tell as much as all of them (Rows).
use Rattle.std.proofs.Common.{ap, ◌∙◌, length}
use Rattle.definition.specs.Permission.NodeRelation.{Local, Foreign}
use Rattle.visit.specs.Walk.{codes_stay}
use Rattle.visit.proofs.Rows.{accesses-cut}
use Rattle.visit.proofs.staying.told_under.Goals as goal

pub returns-in-Local : goal.returns-in-Local
returns-in-Local c =
    let a = c.args in
    rw c.in-Local.is (c.told-in-Local.ensures ∙ ap (λ xs. codes_stay Local xs a.row.now) (accesses-cut a.what (length a.row.now) a.lent.now))

pub returns-in-Foreign : goal.returns-in-Foreign
returns-in-Foreign c =
    let a = c.args in
    rw c.in-Foreign.is (c.told-in-Foreign.ensures ∙ ap (λ xs. codes_stay Foreign xs a.row.now) (accesses-cut a.what (length a.row.now) a.lent.now))
