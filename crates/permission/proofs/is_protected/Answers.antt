-- Each side of the range against `is_protected`.
use mathlib.Core.List.{[]}
use mathlib.Core.Bool.{true, false}
use native.Mathlib.Omega.{arith}
use Rattle.definition.specs.Permission.{is_protected}
use Rattle.permission.specs.Codes.{is_protected_code}
use Rattle.permission.proofs.Codes.{same_bool, same_bool_lem, at-past}
use Rattle.permission.proofs.Arms.{arm, rest}
use Rattle.permission.proofs.is_protected.Goals as goal

pub returns-in-6-to-14 : goal.returns-in-6-to-14
unfolding is_protected_code
returns-in-6-to-14 c = arm same_bool same_bool_lem (λ k. true) is_protected_code [] 6 9 tt c.args.code tt (omega arith) (omega arith)

pub returns-in_default : goal.returns-in_default
unfolding is_protected_code
returns-in_default c = arm same_bool same_bool_lem (λ k. false) is_protected_code [] 0 6 tt c.args.code tt (omega arith) (omega arith)

pub returns-in_default-2 : goal.returns-in_default-2
unfolding is_protected_code
returns-in_default-2 c = rest same_bool same_bool_lem (λ k. false) is_protected_code (at-past is_protected false) [] 15 0 tt (omega arith) c.args.code tt (omega arith)
