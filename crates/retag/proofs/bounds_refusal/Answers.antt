-- The tests in checking order; each return is the first that refuses, or none.
use Rattle.std.proofs.Common.{rules, ◌≡◌}
use mathlib.Core.Bool.{true, false}
use mathlib.Core.Path.{refl, ◌∙◌}
use native.Mathlib.Omega.{arith}
use Rattle.refusal.specs.Number.{number, refusal_of}
use Rattle.refusal.proofs.Numbers.{number_positive}
use Rattle.retag.proofs.Tests.{first-9, tests_order}
use Rattle.retag.proofs.bounds_refusal.Goals as goal
use Rattle.retag.proofs.bounds_refusal.Goals.{then-exceeds_room-via-then-exceeds_room, then-exceeds_room-via-else-exceeds_room+then-exceeds_entries}

pub returns-in_err-check_ptr : goal.returns-in_err-check_ptr
returns-in_err-check_ptr c = λ m A n node of h q u.
    let e : refusal_of c.from_residual.result ≡ number c.in_err-check_ptr.field-0.0 = search rules in
    e ∙ first-9 _ _ _ _ m h.made _ (c.in_err-check_ptr.ensures m A h q) (λ z. omega (arith, z, number_positive c.in_err-check_ptr.field-0.0))

pub returns-then-is_below_start : goal.returns-then-is_below_start
returns-then-is_below_start c = λ m A n node of h q u.
    tests_order c.args.p of h q _ _ _ (c.in_ok-check_ptr.ensures m A h q) true _ _ c.if-is_below_start.ensures refl refl

pub returns-then-exceeds_room : goal.returns-then-exceeds_room
returns-then-exceeds_room c = λ m A n node of h q u.
    elim c.then-exceeds_room.branch [
      | then-exceeds_room-via-then-exceeds_room w ↦
          tests_order c.args.p of h q _ _ _ (c.in_ok-check_ptr.ensures m A h q) false true _ c.if-is_below_start.ensures
          (w.if-exceeds_room.ensures m h.records.valid u) refl
      | then-exceeds_room-via-else-exceeds_room+then-exceeds_entries w ↦
          tests_order c.args.p of h q _ _ _ (c.in_ok-check_ptr.ensures m A h q) false false true c.if-is_below_start.ensures
          (w.if-exceeds_room.ensures m h.records.valid u) w.if-exceeds_entries.ensures
    ]

pub returns : goal.returns
returns c = λ m A n node of h q u.
    tests_order c.args.p of h q _ _ _ (c.in_ok-check_ptr.ensures m A h q) false false false c.if-is_below_start.ensures
    (c.if-exceeds_room.ensures m h.records.valid u) c.if-exceeds_entries.ensures
