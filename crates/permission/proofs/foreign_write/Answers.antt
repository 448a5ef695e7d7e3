-- Each arm of `foreign_write` against the rule of a foreign write.
use Prim.Native.Nat.{ℕ}
use mathlib.Core.List.{List, [], ◌∷◌}
use native.Mathlib.Omega.{arith}
use Rattle.definition.specs.Permission.AccessKind.{Write}
use Rattle.definition.specs.Permission.NodeRelation.{Foreign}
use Rattle.std.specs.Prelude.{Some, None, Ok, Err}
use Rattle.permission.specs.Codes.{transition_code}
use Rattle.permission.proofs.Codes.{same_outcome, same_outcome_lem, transition-past}
use Rattle.permission.proofs.Arms.{keys, arm, rest}
use Rattle.permission.proofs.foreign_write.Goals as goal

-- the arms of single numbers, the last first
abbrev singles : List (List ℕ)
singles = (11 ∷ []) ∷ (8 ∷ 10 ∷ 13 ∷ []) ∷ (7 ∷ 9 ∷ 12 ∷ []) ∷ (1 ∷ []) ∷ (0 ∷ 2 ∷ 14 ∷ []) ∷ []

pub returns-in-0 : goal.returns-in-0
unfolding transition_code
returns-in-0 c = keys same_outcome same_outcome_lem (λ k. Ok None) (transition_code Write Foreign) (0 ∷ 2 ∷ 14 ∷ []) tt c.args.code c.in-0.is

pub returns-in-1 : goal.returns-in-1
unfolding transition_code
returns-in-1 c = keys same_outcome same_outcome_lem (λ k. Ok (Some 5)) (transition_code Write Foreign) (1 ∷ []) tt c.args.code c.in-1.is

pub returns-in-7 : goal.returns-in-7
unfolding transition_code
returns-in-7 c = keys same_outcome same_outcome_lem (λ k. Ok (Some 14)) (transition_code Write Foreign) (7 ∷ 9 ∷ 12 ∷ []) tt c.args.code c.in-7.is

pub returns-in-8 : goal.returns-in-8
unfolding transition_code
returns-in-8 c = keys same_outcome same_outcome_lem (λ k. Err 22) (transition_code Write Foreign) (8 ∷ 10 ∷ 13 ∷ []) tt c.args.code c.in-8.is

pub returns-in-11 : goal.returns-in-11
unfolding transition_code
returns-in-11 c = keys same_outcome same_outcome_lem (λ k. Err 23) (transition_code Write Foreign) (11 ∷ []) tt c.args.code c.in-11.is

pub returns-in-3-to-4 : goal.returns-in-3-to-4
unfolding transition_code
returns-in-3-to-4 c = arm same_outcome same_outcome_lem (λ k. Ok (Some 5)) (transition_code Write Foreign) singles 0 5 tt c.args.code c.in-3-to-4.in_default-own.rest (omega arith) (omega arith)

pub returns-in-5-to-6 : goal.returns-in-5-to-6
unfolding transition_code
returns-in-5-to-6 c = arm same_outcome same_outcome_lem (λ k. Ok None) (transition_code Write Foreign) singles 5 2 tt c.args.code c.in-5-to-6.in_default-own.rest (omega arith) (omega arith)

pub returns-in_default : goal.returns-in_default
unfolding transition_code
returns-in_default c = rest same_outcome same_outcome_lem (λ k. Ok None) (transition_code Write Foreign) (transition-past Write Foreign) singles 7 8 tt (omega arith) c.args.code c.in_default.in_default-own.rest (omega arith)
