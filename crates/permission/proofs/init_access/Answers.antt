-- Each arm against `init_access`.
use Prim.Native.Nat.{ℕ}
use mathlib.Core.List.{List, [], ◌∷◌}
use mathlib.Core.Option.{none, some}
use native.Mathlib.Omega.{arith}
use Rattle.definition.specs.Permission.{init_access}
use Rattle.definition.specs.Permission.AccessKind.{Read}
use Rattle.permission.specs.Codes.{init_access_code}
use Rattle.permission.proofs.Codes.{same_access, same-access, at-past}
use Rattle.permission.proofs.Arms.{keys, arm, rest}
use Rattle.permission.proofs.init_access.Goals as goal

-- the arms of single numbers, the last first
abbrev singles : List (List ℕ)
singles = (0 ∷ 6 ∷ []) ∷ []

pub returns-in-0 : goal.returns-in-0
unfolding init_access_code
returns-in-0 c = keys same_access same-access (λ k. none) init_access_code (0 ∷ 6 ∷ []) tt c.args.code c.in-0.is

pub returns-in-1-to-5 : goal.returns-in-1-to-5
unfolding init_access_code
returns-in-1-to-5 c = arm same_access same-access (λ k. some Read) init_access_code singles 0 6 tt c.args.code c.in-1-to-5.in_default-own.rest (omega arith) (omega arith)

pub returns-in-7-to-14 : goal.returns-in-7-to-14
unfolding init_access_code
returns-in-7-to-14 c = arm same_access same-access (λ k. some Read) init_access_code singles 6 9 tt c.args.code c.in-7-to-14.in_default-own.rest (omega arith) (omega arith)

pub returns-in_default : goal.returns-in_default
unfolding init_access_code
returns-in_default c = rest same_access same-access (λ k. none) init_access_code (at-past init_access none) singles 15 0 tt (omega arith) c.args.code c.in_default.in_default-own.rest (omega arith)
