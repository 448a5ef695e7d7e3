-- The mark, and then the row that the table holds.
use mathlib.Core.Bool.{not}
use mathlib.Core.Path.{sym, ap, ◌∙◌}
use native.Mathlib.Omega.{arith}
use Rattle.definition.specs.Notation.{any}
use Rattle.definition.proofs.Any.{any_is_list_any}
use Rattle.permission.specs.Codes.{is_protected_code}
use Rattle.tree.proofs.Releases.{lacks-code}
use Rattle.visit.proofs.Places.{part-row}
use Rattle.tree.proofs.Held.{marks-count, marked-fits}
use Rattle.tree.proofs.protector.lacks_protector.Goals as goal

pub overflow_mul-start : goal.overflow_mul-start
overflow_mul-start c = omega (arith, marked-fits c.requires.some.1 c.args.node c.requires.node_in_bounds)

pub overflow_add-end : goal.overflow_add-end
overflow_add-end c = omega (arith, marked-fits c.requires.some.1 c.args.node c.requires.node_in_bounds)

pub slice_bounds-has_unprotected-end : goal.slice_bounds-has_unprotected-end
slice_bounds-has_unprotected-end c = marked-fits c.requires.some.1 c.args.node c.requires.node_in_bounds

pub returns-else-protectors-node-eq0 : goal.returns-else-protectors-node-eq0
returns-else-protectors-node-eq0 c = λ nodes held.
    c.has_unprotected.ensures
    ∙ sym (any_is_list_any (λ k. not (is_protected_code k)) _)
    ∙ ap (any (λ k. not (is_protected_code k))) (part-row c.args.width c.args.node c.args.codes.now)
    ∙ lacks-code nodes c.args.width c.args.protectors.now c.args.codes.now held c.args.node (omega (arith, marks-count nodes c.args.protectors.now held.marked)) c.if-protectors-node-eq0.false
