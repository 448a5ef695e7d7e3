-- Each arm against `unprotected`.
use Prim.Native.Nat.{ℕ}
use mathlib.Core.List.{List, [], ◌∷◌}
use native.Mathlib.Omega.{arith}
use lib.Dec.{eqb, eqb→eq}
use Rattle.definition.specs.Permission.{unprotected, code}
use Rattle.permission.specs.Codes.{unprotected_code}
use Rattle.permission.proofs.Codes.{at-past}
use Rattle.permission.proofs.Arms.{keys, arm, rest}
use Rattle.permission.proofs.unprotect.Goals as goal

-- the arms of single numbers, the last first
abbrev singles : List (List ℕ)
singles = (14 ∷ []) ∷ (11 ∷ []) ∷ (6 ∷ []) ∷ []

pub returns-in-6 : goal.returns-in-6
unfolding unprotected_code
returns-in-6 c = keys eqb eqb→eq (λ k. 0) unprotected_code (6 ∷ []) tt c.args.code c.in-6.is

pub returns-in-11 : goal.returns-in-11
unfolding unprotected_code
returns-in-11 c = keys eqb eqb→eq (λ k. 3) unprotected_code (11 ∷ []) tt c.args.code c.in-11.is

pub returns-in-14 : goal.returns-in-14
unfolding unprotected_code
returns-in-14 c = keys eqb eqb→eq (λ k. 5) unprotected_code (14 ∷ []) tt c.args.code c.in-14.is

pub returns-in-0-to-5 : goal.returns-in-0-to-5
unfolding unprotected_code
returns-in-0-to-5 c = arm eqb eqb→eq (λ k. k) unprotected_code singles 0 6 tt c.args.code c.in-0-to-5.in_default-own.rest (omega arith) (omega arith)

pub returns-in-7-to-10 : goal.returns-in-7-to-10
unfolding unprotected_code
returns-in-7-to-10 c = arm eqb eqb→eq (λ k. 1) unprotected_code singles 6 5 tt c.args.code c.in-7-to-10.in_default-own.rest (omega arith) (omega arith)

pub returns-in-12-to-13 : goal.returns-in-12-to-13
unfolding unprotected_code
returns-in-12-to-13 c = arm eqb eqb→eq (λ k. 4) unprotected_code singles 11 3 tt c.args.code c.in-12-to-13.in_default-own.rest (omega arith) (omega arith)

pub returns-in_default : goal.returns-in_default
unfolding unprotected_code
returns-in_default c = rest eqb eqb→eq (λ k. k) unprotected_code (λ k. at-past (λ p. code (unprotected p)) k k) singles 14 1 tt (omega arith) c.args.code c.in_default.in_default-own.rest (omega arith)
