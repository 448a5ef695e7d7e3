-- Each arm of `local_read` against the rule of a local read.
use Prim.Native.Nat.{ℕ}
use mathlib.Core.List.{List, [], ◌∷◌}
use native.Mathlib.Omega.{arith}
use Rattle.definition.specs.Permission.AccessKind.{Read}
use Rattle.definition.specs.Permission.NodeRelation.{Local}
use Rattle.std.specs.Prelude.{Some, None, Ok, Err}
use Rattle.permission.specs.Codes.{transition_code}
use Rattle.permission.proofs.Codes.{same_outcome, same_outcome_lem, transition-past}
use Rattle.permission.proofs.Arms.{keys, arm, rest}
use Rattle.permission.proofs.local_read.Goals as goal

-- the arms of single numbers, the last first
abbrev singles : List (List ℕ)
singles = (14 ∷ []) ∷ (12 ∷ []) ∷ (9 ∷ []) ∷ (7 ∷ []) ∷ (6 ∷ 8 ∷ 13 ∷ []) ∷ (5 ∷ []) ∷ []

pub returns-in-5 : goal.returns-in-5
unfolding transition_code
returns-in-5 c = keys same_outcome same_outcome_lem (λ k. Err 17) (transition_code Read Local) (5 ∷ []) tt c.args.code c.in-5.is

pub returns-in-6 : goal.returns-in-6
unfolding transition_code
returns-in-6 c = keys same_outcome same_outcome_lem (λ k. Ok None) (transition_code Read Local) (6 ∷ 8 ∷ 13 ∷ []) tt c.args.code c.in-6.is

pub returns-in-7 : goal.returns-in-7
unfolding transition_code
returns-in-7 c = keys same_outcome same_outcome_lem (λ k. Ok (Some 8)) (transition_code Read Local) (7 ∷ []) tt c.args.code c.in-7.is

pub returns-in-9 : goal.returns-in-9
unfolding transition_code
returns-in-9 c = keys same_outcome same_outcome_lem (λ k. Ok (Some 10)) (transition_code Read Local) (9 ∷ []) tt c.args.code c.in-9.is

pub returns-in-12 : goal.returns-in-12
unfolding transition_code
returns-in-12 c = keys same_outcome same_outcome_lem (λ k. Ok (Some 13)) (transition_code Read Local) (12 ∷ []) tt c.args.code c.in-12.is

pub returns-in-14 : goal.returns-in-14
unfolding transition_code
returns-in-14 c = keys same_outcome same_outcome_lem (λ k. Err 26) (transition_code Read Local) (14 ∷ []) tt c.args.code c.in-14.is

pub returns-in-0-to-4 : goal.returns-in-0-to-4
unfolding transition_code
returns-in-0-to-4 c = arm same_outcome same_outcome_lem (λ k. Ok None) (transition_code Read Local) singles 0 5 tt c.args.code c.in-0-to-4.in_default-own.rest (omega arith) (omega arith)

pub returns-in-10-to-11 : goal.returns-in-10-to-11
unfolding transition_code
returns-in-10-to-11 c = arm same_outcome same_outcome_lem (λ k. Ok None) (transition_code Read Local) singles 5 7 tt c.args.code c.in-10-to-11.in_default-own.rest (omega arith) (omega arith)

pub returns-in_default : goal.returns-in_default
unfolding transition_code
returns-in_default c = rest same_outcome same_outcome_lem (λ k. Ok None) (transition_code Read Local) (transition-past Read Local) singles 12 3 tt (omega arith) c.args.code c.in_default.in_default-own.rest (omega arith)
