-- What the transition tells of the next code.
use mathlib.Core.Path.{sym, ◌∙◌}
use Rattle.permission.specs.Codes.{access_kind, node_relation}
use Rattle.permission.proofs.Codes.{accepted-next, refused-next}
use Rattle.permission.proofs.next.Goals as goal

pub returns-in-Ok : goal.returns-in-Ok
returns-in-Ok c = c.unwrap_or.ensures ∙ accepted-next (access_kind c.args.access) (node_relation c.args.relation) c.args.code c.in-Ok.next c.in-Ok.ensures

pub returns-in-Err : goal.returns-in-Err
returns-in-Err c = sym (refused-next (access_kind c.args.access) (node_relation c.args.relation) c.args.code _ (sym c.in-Err.ensures))
