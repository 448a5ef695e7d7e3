-- The codes gone over are changed.
use mathlib.Core.Path.{◌≡◌, sym, ap, ◌∙◌}
use mathlib.Core.Option.{some}
use native.Mathlib.Omega.{arith}
use lib.ListN.{set, get_or}
use Rattle.std.specs.Prelude.{Ok}
use Rattle.permission.specs.Codes.{access_kind, node_relation, next_code, numbered}
use Rattle.permission.proofs.Codes.{stays-told, becomes-told, refused-next}
use Rattle.visit.proofs.Loops.{map-turn, mapped-all}
use Rattle.visit.proofs.Rows.{each_after}
use Rattle.visit.proofs.row.apply_each.Goals as goal
use Rattle.visit.proofs.row.apply_each.Goals.{in-Ok+in-Some, in-Ok+in_default, in-Err}

pub loop-code-preserved : goal.loop-code-preserved
loop-code-preserved c = let l = c.loop-code in
    let a = access_kind c.args.kind in
    let r = node_relation c.args.relation in
    let k = l.code-index in
    let code = get_or l.row k 0 in
    let turn : c.match-transition.row ≡ set l.row k (next_code (some a) r code) =
    elim c.match-transition.branch [
      | in-Ok+in-Some w ↦ w.row-is ∙ ap (set l.row k) (sym (becomes-told a r code _ (sym c.transition.ensures ∙ ap numbered (w.in-Ok.is ∙ ap Ok w.in-Some.is))).1)
      | in-Ok+in_default w ↦ w.row-is ∙ ap (set l.row k) (sym (stays-told a r code (sym c.transition.ensures ∙ ap numbered (w.in-Ok.is ∙ ap Ok w.in_default.is))).1)
      | in-Err w ↦ w.row-is ∙ ap (set l.row k) (sym (refused-next a r code _ (sym c.transition.ensures ∙ ap numbered w.in-Err.is)))
    ] in
    map-turn (next_code (some a) r) c.args.row.now k (omega arith) l.row _ l.invariant turn

pub returns : goal.returns
returns c = let row = c.args.row.now in
    c.loop-code.invariant
    ∙ mapped-all (next_code (some (access_kind c.args.kind)) (node_relation c.args.relation)) row c.loop-code.code-index (omega arith)
    ∙ each_after c.args.kind (node_relation c.args.relation) row
