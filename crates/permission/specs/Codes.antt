-- The code's enums as the definition's data, and the definition's functions of a permission as functions of a code.
use Rattle.std.specs.Prelude.{ℕ, Bool, false, eqb, ltb, if◌then◌else◌, Some, None, Result, Ok, Err}
use Rattle.std.specs.Prelude as std
use Rattle.std.proofs.Math.Option.{Option, none, some}
use Rattle.definition.specs.Permission as definition
use Rattle.definition.specs.Permission.{Permission, transition, refusal_by, next_by, is_protected, unprotected, end_access, prevents_deallocation, init_access, code, permission}
use Rattle.definition.specs.Permission.Outcome.{becomes, refused}
use Rattle.permission.specs.declared.AccessKind.{AccessKind}
use Rattle.permission.specs.declared.AccessKind.TheVariants.{Read, Write}
use Rattle.permission.specs.declared.NodeRelation.{NodeRelation}
use Rattle.permission.specs.declared.NodeRelation.TheVariants.{Local, Foreign}
use Rattle.refusal.specs.Number.{number}
use Rattle.refusal.specs.declared.Refusal.{Refusal}
use Rattle.permission.specs.declared.Protected.{Protected}
use Rattle.permission.specs.declared.Protected.TheVariants.{No, Weak, Strong}
use Rattle.permission.specs.declared.SafePointer.{SafePointer}
use Rattle.permission.specs.declared.SafePointer.TheVariants.{SharedRef, MutableRef, Box}

-- ---- what an enum of the code stands for
abbrev pub access_kind : AccessKind → definition.AccessKind
access_kind Read = definition.AccessKind.Read
access_kind Write = definition.AccessKind.Write

abbrev pub node_relation : NodeRelation → definition.NodeRelation
node_relation Local = definition.NodeRelation.Local
node_relation Foreign = definition.NodeRelation.Foreign

abbrev pub maybe_access : std.Option AccessKind → Option definition.AccessKind
maybe_access None = none
maybe_access (Some a) = some (access_kind a)

abbrev pub protector : Protected → definition.Protected
protector No = definition.Protected.No
protector Weak = definition.Protected.Weak
protector Strong = definition.Protected.Strong

abbrev pub safe_pointer : SafePointer → definition.SafePointer
safe_pointer SharedRef = definition.SafePointer.SharedRef
safe_pointer MutableRef = definition.SafePointer.MutableRef
safe_pointer Box = definition.SafePointer.Box

-- what an access makes of a code: it stays, it becomes another code, or the access is refused with a number
abbrev pub Outcome : Type 0
Outcome = Result (std.Option ℕ) ℕ

-- an outcome of the code, with its refusal's number
abbrev pub numbered : Result (std.Option ℕ) Refusal → Outcome
numbered (Ok next) = Ok next
numbered (Err refusal) = Err (number refusal)

-- an outcome with a permission, as one of a code: it stays, or becomes the permission's
abbrev pub outcome_code : ℕ → definition.Outcome Permission → Outcome
outcome_code c (becomes p) = if eqb (code p) c then Ok None else Ok (Some (code p))
outcome_code c (refused n) = Err n

-- ---- functions of a code
-- f of the permission whose code it is; `past` from 15 on, where it is no code
abbrev pub by_code : {A : Type 0} → (Permission → A) → A → ℕ → A
by_code f past c = if ltb c 15 then f (permission c) else past

unfoldable pub transition_code : definition.AccessKind → definition.NodeRelation → ℕ → Outcome
transition_code a r c = by_code (λ p. outcome_code c (transition a r p)) (Ok None) c

unfoldable pub refusal_code : Option definition.AccessKind → definition.NodeRelation → ℕ → ℕ
refusal_code a r c = by_code (refusal_by a r) 0 c

unfoldable pub next_code : Option definition.AccessKind → definition.NodeRelation → ℕ → ℕ
next_code a r c = by_code (λ p. code (next_by a r p)) c c

unfoldable pub is_protected_code : ℕ → Bool
is_protected_code c = by_code is_protected false c

unfoldable pub unprotected_code : ℕ → ℕ
unprotected_code c = by_code (λ p. code (unprotected p)) c c

unfoldable pub end_access_code : ℕ → Option definition.AccessKind
end_access_code c = by_code end_access none c

unfoldable pub prevents_code : ℕ → Bool
prevents_code c = by_code prevents_deallocation false c

unfoldable pub init_access_code : ℕ → Option definition.AccessKind
init_access_code c = by_code init_access none c
