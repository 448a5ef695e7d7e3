-- Each arm against `told_access`.
use mathlib.Core.Path.{sym}
use native.Mathlib.Omega.{arith}
use Rattle.visit.proofs.Rows.{told_none, told-read, told-write}
use Rattle.visit.proofs.access.told_access.Goals as goal

pub returns-in-0 : goal.returns-in-0
returns-in-0 c = sym (told_none c.args.number c.in-0.is)

pub returns-in-1 : goal.returns-in-1
returns-in-1 c = sym (told-read c.args.number c.in-1.is)

pub returns-in_default : goal.returns-in_default
returns-in_default c = sym (told-write c.args.number (λ z. omega (arith, z)) (λ o. omega (arith, o)))
