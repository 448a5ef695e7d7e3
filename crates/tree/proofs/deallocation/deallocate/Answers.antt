-- The write is refused, or a strong protector prevents, or neither.
use mathlib.Core.Path.{refl, sym, ◌∙◌}
use native.Mathlib.Omega.{arith}
use Rattle.std.proofs.lemmas.Result.{err_from_is_err_and}
use Rattle.refusal.proofs.Numbers.{number_positive}
use Rattle.refusal.specs.Number.{number}
use Rattle.definition.specs.Permission.AccessKind.{Write}
use Rattle.definition.specs.Tree.{access_visit}
use Rattle.tree.proofs.Visits.{checked-accepted}
use Rattle.tree.proofs.Strong.{write-refused, strong-refused, write-accepted}
use Rattle.tree.proofs.deallocation.deallocate.Goals as goal

pub returns-in_err-check_access : goal.returns-in_err-check_access
returns-in_err-check_access c =
    let e = err_from_is_err_and c.from_residual.result c.from_residual.ensures.1 in
    rw (e.1, e.2) (λ nodes held.
    let r = c.in_err-check_access.field-0.0 in
    write-refused nodes c.args.node c.args.width (number r) _ (c.in_err-check_access.ensures nodes held.holds) (λ z. absurd (omega (arith, number_positive r, z))) held.holds.table.rows)

pub returns-then-strong_protector_after_write : goal.returns-then-strong_protector_after_write
returns-then-strong_protector_after_write c = λ nodes held.
    let a = c.args in
    let passed = checked-accepted (access_visit Write a.node 0 a.width) nodes _ (c.in_ok-check_access.ensures nodes held.holds) in
    strong-refused nodes a.node a.width 24 _ passed (sym (c.strong_protector_after_write.ensures nodes held) ∙ c.if-strong_protector_after_write.true) refl held.holds.table.rows

pub returns : goal.returns
returns c = λ nodes held.
    let a = c.args in
    let passed = checked-accepted (access_visit Write a.node 0 a.width) nodes _ (c.in_ok-check_access.ensures nodes held.holds) in
    write-accepted nodes a.node a.width 0 _ passed (sym (c.strong_protector_after_write.ensures nodes held) ∙ c.if-strong_protector_after_write.false) refl (c.apply_access.ensures nodes held.holds)
