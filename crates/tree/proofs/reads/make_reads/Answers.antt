-- One visit makes all reads; where it is refused some read is, and the first refusal byte by byte is looked for.
use native.Mathlib.Omega.{arith}
use mathlib.Core.Path.{refl, sym, ap, subst, ◌∙◌}
use mathlib.Core.List.{map}
use Rattle.definition.specs.Permission.{permission}
use Rattle.definition.proofs.Retags.{reads_visit}
use Rattle.std.specs.Prelude.{Ok}
use Rattle.refusal.specs.Number.{refusal_of}
use Rattle.refusal.proofs.Numbers.{number_positive}
use Rattle.tree.specs.Requests.{Checked}
use Rattle.visit.proofs.Places.{same-ready, same-spared}
use Rattle.tree.proofs.Inits.{reads_none, reads-together}
use Rattle.tree.proofs.Visits.{held-ready, reads-told, reads-after, visit-accepted, visit-refused}
use Rattle.tree.proofs.reads.make_reads.Goals as goal

pub check_lent-requires : goal.check_lent-requires
check_lent-requires c = (
  same-ready _ _ _ _ _ c.settled-v.ensures (held-ready _ c.requires.some.0 _ _ c.requires.some.1 c.requires.node_in_bounds.0 c.requires.node_in_bounds.1),
  omega (arith, same-spared _ _ _ c.settled-v.ensures, c.requires.some.1.root),
)

pub apply-requires : goal.apply-requires
apply-requires c = (
  same-ready _ _ _ _ _ c.settled-v.ensures (held-ready _ c.requires.some.0 _ _ c.requires.some.1 c.requires.node_in_bounds.0 c.requires.node_in_bounds.1),
  omega (arith, same-spared _ _ _ c.settled-v.ensures, c.requires.some.1.root),
)

pub returns-in-Ok-Stays : goal.returns-in-Ok-Stays
returns-in-Ok-Stays c = λ nodes holds.
    let a = c.args in
    let told = reads-told nodes a.width a.node a.from a.parents.now a.codes.now a.inside.now holds c.settled-v.result c.settled-v.ensures c.check_lent.result c.check_lent.ensures in
    let t = subst (Checked (reads_visit a.node a.from (map permission a.inside.now)) nodes) (c.in-Ok-Stays.is ∙ ap Ok c.in-Ok-Stays.field-0-is) told in
    visit-accepted _ nodes 0 _ (sym (reads_none a.node a.from a.inside.now nodes t.0)) refl (holds.table.rows ∙ t.1)

pub returns-in-Ok-Changes : goal.returns-in-Ok-Changes
returns-in-Ok-Changes c = λ nodes holds.
    let a = c.args in
    let told = reads-told nodes a.width a.node a.from a.parents.now a.codes.now a.inside.now holds c.settled-v.result c.settled-v.ensures c.check_lent.result c.check_lent.ensures in
    let t = subst (Checked (reads_visit a.node a.from (map permission a.inside.now)) nodes) (c.in-Ok-Changes.is ∙ ap Ok c.in-Ok-Changes.field-0-is) told in
    visit-accepted _ nodes 0 _ (sym (reads_none a.node a.from a.inside.now nodes t)) refl
    (c.apply.ensures ∙ reads-after nodes a.width a.node a.from a.parents.now a.codes.now a.inside.now holds c.settled-v.result c.settled-v.ensures)

pub returns-in-Err : goal.returns-in-Err
returns-in-Err c = λ nodes holds.
    let a = c.args in
    let told = reads-told nodes a.width a.node a.from a.parents.now a.codes.now a.inside.now holds c.settled-v.result c.settled-v.ensures c.check_lent.result c.check_lent.ensures in
    let t = subst (Checked (reads_visit a.node a.from (map permission a.inside.now)) nodes) c.in-Err.is told in
    let found = c.first_refused_read.ensures nodes holds in
    visit-refused _ nodes (refusal_of c.first_refused_read.result) _ found
    (λ z. absurd (omega (arith, number_positive c.in-Err.field-0, t ∙ reads-together a.node nodes a.from (map permission a.inside.now) (sym found ∙ z)))) holds.table.rows
