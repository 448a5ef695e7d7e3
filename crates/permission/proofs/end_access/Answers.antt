-- Each arm against `end_access`.
use Prim.Native.Nat.{ℕ}
use mathlib.Core.List.{List, [], ◌∷◌}
use mathlib.Core.Option.{none, some}
use native.Mathlib.Omega.{arith}
use Rattle.definition.specs.Permission.{end_access}
use Rattle.definition.specs.Permission.AccessKind.{Read, Write}
use Rattle.permission.specs.Codes.{end_access_code}
use Rattle.permission.proofs.Codes.{same_access, same-access, at-past}
use Rattle.permission.proofs.Arms.{keys, rest}
use Rattle.permission.proofs.end_access.Goals as goal

-- the arms of single numbers, the last first
abbrev singles : List (List ℕ)
singles = (11 ∷ []) ∷ (8 ∷ 10 ∷ 13 ∷ []) ∷ []

pub returns-in-8 : goal.returns-in-8
unfolding end_access_code
returns-in-8 c = keys same_access same-access (λ k. some Read) end_access_code (8 ∷ 10 ∷ 13 ∷ []) tt c.args.code c.in-8.is

pub returns-in-11 : goal.returns-in-11
unfolding end_access_code
returns-in-11 c = keys same_access same-access (λ k. some Write) end_access_code (11 ∷ []) tt c.args.code c.in-11.is

pub returns-in_default : goal.returns-in_default
unfolding end_access_code
returns-in_default c = rest same_access same-access (λ k. none) end_access_code (at-past end_access none) singles 0 15 tt (omega arith) c.args.code c.in_default.in_default-own.rest (omega arith)
