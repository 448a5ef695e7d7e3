-- Each arm of `foreign_read` against the rule of a foreign read.
use Prim.Native.Nat.{ℕ}
use mathlib.Core.List.{List, [], ◌∷◌}
use native.Mathlib.Omega.{arith}
use Rattle.definition.specs.Permission.AccessKind.{Read}
use Rattle.definition.specs.Permission.NodeRelation.{Foreign}
use Rattle.std.specs.Prelude.{Some, None, Ok, Err}
use Rattle.permission.specs.Codes.{transition_code}
use Rattle.permission.proofs.Codes.{same_outcome, same_outcome_lem, transition-past}
use Rattle.permission.proofs.Arms.{keys, arm, rest}
use Rattle.permission.proofs.foreign_read.Goals as goal

-- the arms of single numbers, the last first
abbrev singles : List (List ℕ)
singles = (11 ∷ []) ∷ (8 ∷ []) ∷ (7 ∷ []) ∷ (3 ∷ []) ∷ []

pub returns-in-3 : goal.returns-in-3
unfolding transition_code
returns-in-3 c = keys same_outcome same_outcome_lem (λ k. Ok (Some 4)) (transition_code Read Foreign) (3 ∷ []) tt c.args.code c.in-3.is

pub returns-in-7 : goal.returns-in-7
unfolding transition_code
returns-in-7 c = keys same_outcome same_outcome_lem (λ k. Ok (Some 9)) (transition_code Read Foreign) (7 ∷ []) tt c.args.code c.in-7.is

pub returns-in-8 : goal.returns-in-8
unfolding transition_code
returns-in-8 c = keys same_outcome same_outcome_lem (λ k. Ok (Some 10)) (transition_code Read Foreign) (8 ∷ []) tt c.args.code c.in-8.is

pub returns-in-11 : goal.returns-in-11
unfolding transition_code
returns-in-11 c = keys same_outcome same_outcome_lem (λ k. Err 21) (transition_code Read Foreign) (11 ∷ []) tt c.args.code c.in-11.is

pub returns-in-0-to-2 : goal.returns-in-0-to-2
unfolding transition_code
returns-in-0-to-2 c = arm same_outcome same_outcome_lem (λ k. Ok None) (transition_code Read Foreign) singles 0 3 tt c.args.code c.in-0-to-2.in_default-own.rest (omega arith) (omega arith)

pub returns-in-4-to-6 : goal.returns-in-4-to-6
unfolding transition_code
returns-in-4-to-6 c = arm same_outcome same_outcome_lem (λ k. Ok None) (transition_code Read Foreign) singles 3 4 tt c.args.code c.in-4-to-6.in_default-own.rest (omega arith) (omega arith)

pub returns-in-9-to-10 : goal.returns-in-9-to-10
unfolding transition_code
returns-in-9-to-10 c = arm same_outcome same_outcome_lem (λ k. Ok None) (transition_code Read Foreign) singles 7 4 tt c.args.code c.in-9-to-10.in_default-own.rest (omega arith) (omega arith)

pub returns-in_default : goal.returns-in_default
unfolding transition_code
returns-in_default c = rest same_outcome same_outcome_lem (λ k. Ok None) (transition_code Read Foreign) (transition-past Read Foreign) singles 11 4 tt (omega arith) c.args.code c.in_default.in_default-own.rest (omega arith)
