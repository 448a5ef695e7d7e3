-- The code that the read leaves stands for the permission that it leaves.
use mathlib.Core.Option.{some}
use mathlib.Core.Path.{ap, ◌∙◌}
use Rattle.definition.specs.Permission.AccessKind.{Read}
use Rattle.definition.specs.Permission.NodeRelation.{Local}
use Rattle.definition.specs.Retag.{start_perm}
use Rattle.permission.specs.Codes.{protector, safe_pointer, next_code}
use Rattle.permission.proofs.Codes.{next-code}
use Rattle.retag.proofs.inside_code.Goals as goal

pub returns : goal.returns
returns c = let a = c.args in
    c.next.ensures ∙ ap (next_code (some Read) Local) c.start_code-code.ensures ∙ next-code (some Read) Local (start_perm (safe_pointer a.pointer) (protector a.protected) a.freeze)
