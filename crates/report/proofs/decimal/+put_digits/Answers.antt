-- One digit, two, or the last two behind those of the number without them.
use Prim.Native.Nat.{ℕ, ◌/◌, ◌%◌}
use mathlib.Core.List.{[], ◌∷◌}
use mathlib.Core.Path.{refl, sym, ap, ◌∙◌}
use native.Mathlib.Omega.{arith}
use lib.ListN.{length, length-append}
use Rattle.definition.specs.Output.{decimal}
use Rattle.definition.proofs.Writes.{write-one}
use Rattle.report.specs.Digits.{two}
use Rattle.report.proofs.Numbers.{decimal-one, decimal-two, more-two}
use Rattle.report.proofs.Writes.{both_written, room_as, written_as}
use Rattle.report.proofs.decimal.+put_digits.Goals as goal

pub bounds-out-at : goal.bounds-out-at
bounds-out-at t c = omega (arith, ap length (decimal-one c.args.n c.if-n-lt10.true))

pub returns-then-n-lt10 : goal.returns-then-n-lt10
returns-then-n-lt10 t c =
    written_as (ap (λ (d : ℕ). d ∷ []) c.decimal_digit.ensures ∙ sym (decimal-one _ c.if-n-lt10.true))
    (record { contents = write-one c.args.at c.decimal_digit.result c.args.out.now; place = refl })

pub put_two-requires : goal.put_two-requires
put_two-requires t c = (c.if-n-lt100.true, room_as (decimal-two _ c.if-n-lt10.false c.if-n-lt100.true) c.requires)

pub returns-then-n-lt100 : goal.returns-then-n-lt100
returns-then-n-lt100 t c = written_as (sym (decimal-two _ c.if-n-lt10.false c.if-n-lt100.true)) c.put_two.ensures

pub put_digits-at-requires : goal.put_digits-at-requires
put_digits-at-requires t c =
    let n = c.args.n in
    (omega arith, record { fits = omega (arith, ap length (more-two n c.if-n-lt100.false), length-append (decimal (n / 100)) (two (n % 100))) })

pub put_two-requires-2 : goal.put_two-requires-2
put_two-requires-2 t c =
    let n = c.args.n in
    (omega arith, record { fits = omega (arith, ap length (more-two n c.if-n-lt100.false), length-append (decimal (n / 100)) (two (n % 100))) })

pub returns : goal.returns
returns t c = written_as (sym (more-two _ c.if-n-lt100.false)) (both_written c.put_digits-at.ensures c.put_two-2.ensures)
