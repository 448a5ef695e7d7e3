-- Each arm of `local_write` against the rule of a local write.
use Prim.Native.Nat.{ℕ}
use mathlib.Core.List.{List, [], ◌∷◌}
use native.Mathlib.Omega.{arith}
use Rattle.definition.specs.Permission.AccessKind.{Write}
use Rattle.definition.specs.Permission.NodeRelation.{Local}
use Rattle.std.specs.Prelude.{Some, None, Ok, Err}
use Rattle.permission.specs.Codes.{transition_code}
use Rattle.permission.proofs.Codes.{same_outcome, same_outcome_lem, transition-past}
use Rattle.permission.proofs.Arms.{keys, arm, rest}
use Rattle.permission.proofs.local_write.Goals as goal

-- the arms of single numbers, the last first
abbrev singles : List (List ℕ)
singles = (14 ∷ []) ∷ (5 ∷ []) ∷ (4 ∷ []) ∷ (0 ∷ 3 ∷ 6 ∷ 11 ∷ []) ∷ []

pub returns-in-0 : goal.returns-in-0
unfolding transition_code
returns-in-0 c = keys same_outcome same_outcome_lem (λ k. Ok None) (transition_code Write Local) (0 ∷ 3 ∷ 6 ∷ 11 ∷ []) tt c.args.code c.in-0.is

pub returns-in-4 : goal.returns-in-4
unfolding transition_code
returns-in-4 c = keys same_outcome same_outcome_lem (λ k. Err 18) (transition_code Write Local) (4 ∷ []) tt c.args.code c.in-4.is

pub returns-in-5 : goal.returns-in-5
unfolding transition_code
returns-in-5 c = keys same_outcome same_outcome_lem (λ k. Err 19) (transition_code Write Local) (5 ∷ []) tt c.args.code c.in-5.is

pub returns-in-14 : goal.returns-in-14
unfolding transition_code
returns-in-14 c = keys same_outcome same_outcome_lem (λ k. Err 28) (transition_code Write Local) (14 ∷ []) tt c.args.code c.in-14.is

pub returns-in-1-to-2 : goal.returns-in-1-to-2
unfolding transition_code
returns-in-1-to-2 c = arm same_outcome same_outcome_lem (λ k. Ok (Some 3)) (transition_code Write Local) singles 0 3 tt c.args.code c.in-1-to-2.in_default-own.rest (omega arith) (omega arith)

pub returns-in-7-to-8 : goal.returns-in-7-to-8
unfolding transition_code
returns-in-7-to-8 c = arm same_outcome same_outcome_lem (λ k. Ok (Some 11)) (transition_code Write Local) singles 3 6 tt c.args.code c.in-7-to-8.in_default-own.rest (omega arith) (omega arith)

pub returns-in-9-to-10 : goal.returns-in-9-to-10
unfolding transition_code
returns-in-9-to-10 c = arm same_outcome same_outcome_lem (λ k. Err 20) (transition_code Write Local) singles 9 2 tt c.args.code c.in-9-to-10.in_default-own.rest (omega arith) (omega arith)

pub returns-in-12-to-13 : goal.returns-in-12-to-13
unfolding transition_code
returns-in-12-to-13 c = arm same_outcome same_outcome_lem (λ k. Err 27) (transition_code Write Local) singles 11 3 tt c.args.code c.in-12-to-13.in_default-own.rest (omega arith) (omega arith)

pub returns-in_default : goal.returns-in_default
unfolding transition_code
returns-in_default c = rest same_outcome same_outcome_lem (λ k. Ok None) (transition_code Write Local) (transition-past Write Local) singles 14 1 tt (omega arith) c.args.code c.in_default.in_default-own.rest (omega arith)
