-- Where there is no access there is no refusal, and no change.
use Rattle.std.specs.Prelude.{if◌then◌else◌}
use Prim.Native.Nat.{ℕ}
use mathlib.Core.Path.{◌≡◌, refl}
use mathlib.Core.Bool.{Bool, true, false}
use mathlib.Core.Option.{none}
use native.Mathlib.Decide.{dec_lt}
use native.Mathlib.Omega.{arith}
use borrow.Author.Tests.{lt-ltb, le-ltb}
use lib.Dec.{ltb}
use Rattle.definition.specs.Permission.{NodeRelation}
use Rattle.definition.proofs.Permissions.{code-permission}
use Rattle.permission.specs.Codes.{refusal_code, next_code}

either : {A : Type 0} (b : Bool) (x : A) → (if b then x else x) ≡ x
either true x = refl
either false x = refl

pub no-refusal : (r : NodeRelation) (c : ℕ) → refusal_code none r c ≡ 0
unfolding refusal_code
no-refusal r c = either (ltb c 15) 0

pub no_change : (r : NodeRelation) (c : ℕ) → next_code none r c ≡ c
unfolding next_code
no_change r c = elim (dec_lt c 15) [
  | yes lt ↦ rw (lt-ltb c 15 lt) (code-permission c lt)
  | no ge ↦ rw (le-ltb c 15 (omega arith))
]
