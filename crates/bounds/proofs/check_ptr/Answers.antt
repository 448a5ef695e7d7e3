-- In checking order: zero length, 7, 8, 9. What the record has is what the allocation has.
use Rattle.std.proofs.Common.{◌∙◌, sym, arith}
use Rattle.bounds.proofs.Points.{check-zero, points_none, points-read, points-dead, points-live}
use Rattle.bounds.proofs.check_ptr.Goals as goal

pub returns-then-ahead-eq0 : goal.returns-then-ahead-eq0
returns-then-ahead-eq0 c = λ m A h q. sym (check-zero _ _ _ _ c.if-back-eq0.true c.if-ahead-eq0.true)

pub returns-in-None : goal.returns-in-None
returns-in-None c = λ m A h q. points_none m c.args.p c.args.back c.args.ahead c.in-None.is (λ e. omega (arith, c.else-back-eq0.either))

pub returns-then-a : goal.returns-then-a
returns-then-a c = λ m A h q. let of = c.in_default.is in
    points-dead c.args.p of h c.args.back c.args.ahead (λ e. omega (arith, c.else-back-eq0.either)) (points-read c.args.p of h q) c.if-a.true

pub returns-then-is_outside : goal.returns-then-is_outside
returns-then-is_outside c = λ m A h q. let of = c.in_default.is in
    sym (points-live c.args.p of h c.args.back c.args.ahead (λ e. omega (arith, c.else-back-eq0.either)) (points-read c.args.p of h q) c.if-a.false (sym c.if-is_outside.true ∙ c.is_outside.ensures))

pub returns : goal.returns
returns c = λ m A h q. let of = c.in_default.is in
    sym (points-live c.args.p of h c.args.back c.args.ahead (λ e. omega (arith, c.else-back-eq0.either)) (points-read c.args.p of h q) c.if-a.false (sym c.if-is_outside.false ∙ c.is_outside.ensures))
