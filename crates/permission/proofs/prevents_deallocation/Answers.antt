-- Each code of the list, and each beside them, against `prevents_deallocation`.
use Prim.Native.Nat.{ℕ}
use mathlib.Core.List.{List, [], ◌∷◌}
use mathlib.Core.Path.{◌≡◌}
use mathlib.Core.Bool.{true, false}
use native.Mathlib.Omega.{arith}
use types.Run.{OneOf}
use Rattle.definition.specs.Permission.{prevents_deallocation}
use Rattle.permission.specs.Codes.{prevents_code}
use Rattle.permission.proofs.Codes.{same_bool, same_bool_lem, at-past}
use Rattle.permission.proofs.Arms.{keys, rest}
use Rattle.permission.proofs.prevents_deallocation.Goals as goal

abbrev list : List ℕ
list = 8 ∷ 10 ∷ 11 ∷ 13 ∷ []

listed : (c : ℕ) → OneOf list c → true ≡ prevents_code c
unfolding prevents_code
listed c h = keys same_bool same_bool_lem (λ k. true) prevents_code list tt c h

others : (c : ℕ) → (OneOf list c → ⊥) → false ≡ prevents_code c
unfolding prevents_code
others c h = rest same_bool same_bool_lem (λ k. false) prevents_code (at-past prevents_deallocation false) (list ∷ []) 0 15 tt (omega arith) c (tt, h) (omega arith)

pub returns-in-8 : goal.returns-in-8
returns-in-8 c = grind (arith, listed)

pub returns-in-8-2 : goal.returns-in-8-2
returns-in-8-2 c = grind (arith, listed)

pub returns-in_default : goal.returns-in_default
returns-in_default c = others c.args.code (λ h. grind arith)

pub returns-in_default-2 : goal.returns-in_default-2
returns-in_default-2 c = others c.args.code (λ h. grind arith)
