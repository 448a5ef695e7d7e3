-- By what the accesses are.
use mathlib.Core.Path.{◌∙◌}
use Rattle.permission.specs.Codes.{node_relation}
use Rattle.visit.proofs.Rows.{each_folded}
use Rattle.visit.proofs.staying.long_stays.Goals as goal

pub returns-in-Each : goal.returns-in-Each
returns-in-Each c = rw c.in-Each.is (c.long_under.ensures ∙ each_folded c.in-Each.kind (node_relation c.args.relation) c.args.row.now)
