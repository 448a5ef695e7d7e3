-- Laws of one permission: codes are its numbers; reads are independent of each other, and repeated they change nothing more.
-- A law about every permission is a test over the fifteen, computed.
use Prim.Native.Nat.{ℕ, ◌<◌}
use mathlib.Core.Path.{◌≡◌, refl, sym, ap, subst, ◌∙◌}
use mathlib.Core.Bool.{Bool}
use mathlib.Core.Option.{Option, none, some}
use native.Mathlib.Omega.{arith}
use lib.Dec.{T, eqb, eqb→eq}
use Rattle.definition.specs.Permission.{AccessKind, NodeRelation, PermissionUnprot, PermissionProt, Permission, refusal, next, refusal_by, next_by, code, permission}
use Rattle.definition.specs.Permission.AccessKind.{Read, Write}
use Rattle.definition.specs.Permission.NodeRelation.{Local, Foreign}
use Rattle.definition.specs.Permission.LocalRead.{no_local_read, had_local_read}
use Rattle.definition.specs.Permission.ForeignRead.{no_foreign_read, had_foreign_read}
use Rattle.definition.specs.Permission.Permission.{Unprot, Prot}
use Rattle.definition.proofs.Booleans.{every, in-range}

-- ---- codes and permissions are each other's inverse
pub permission-code : (p : Permission) → permission (code p) ≡ p
permission-code (Unprot PermissionUnprot.Cell) = refl
permission-code (Unprot PermissionUnprot.Reserved) = refl
permission-code (Unprot PermissionUnprot.ReservedIm) = refl
permission-code (Unprot PermissionUnprot.Unique) = refl
permission-code (Unprot PermissionUnprot.Frozen) = refl
permission-code (Unprot PermissionUnprot.Disabled) = refl
permission-code (Prot PermissionProt.Cell) = refl
permission-code (Prot (PermissionProt.Reserved no_local_read no_foreign_read)) = refl
permission-code (Prot (PermissionProt.Reserved had_local_read no_foreign_read)) = refl
permission-code (Prot (PermissionProt.Reserved no_local_read had_foreign_read)) = refl
permission-code (Prot (PermissionProt.Reserved had_local_read had_foreign_read)) = refl
permission-code (Prot PermissionProt.Unique) = refl
permission-code (Prot (PermissionProt.Frozen no_local_read)) = refl
permission-code (Prot (PermissionProt.Frozen had_local_read)) = refl
permission-code (Prot PermissionProt.Disabled) = refl

pub code-permission : (c : ℕ) → c < 15 → code (permission c) ≡ c
code-permission c l = eqb→eq (code (permission c)) c (in-range (λ k. eqb (code (permission k)) k) 0 15 tt c (omega arith) (omega arith))

pub code-small : (p : Permission) → code p < 15
code-small (Unprot PermissionUnprot.Cell) = omega arith
code-small (Unprot PermissionUnprot.Reserved) = omega arith
code-small (Unprot PermissionUnprot.ReservedIm) = omega arith
code-small (Unprot PermissionUnprot.Unique) = omega arith
code-small (Unprot PermissionUnprot.Frozen) = omega arith
code-small (Unprot PermissionUnprot.Disabled) = omega arith
code-small (Prot PermissionProt.Cell) = omega arith
code-small (Prot (PermissionProt.Reserved no_local_read no_foreign_read)) = omega arith
code-small (Prot (PermissionProt.Reserved had_local_read no_foreign_read)) = omega arith
code-small (Prot (PermissionProt.Reserved no_local_read had_foreign_read)) = omega arith
code-small (Prot (PermissionProt.Reserved had_local_read had_foreign_read)) = omega arith
code-small (Prot PermissionProt.Unique) = omega arith
code-small (Prot (PermissionProt.Frozen no_local_read)) = omega arith
code-small (Prot (PermissionProt.Frozen had_local_read)) = omega arith
code-small (Prot PermissionProt.Disabled) = omega arith

pub same_code : (p q : Permission) → code p ≡ code q → p ≡ q
same_code p q e = sym (permission-code p) ∙ ap permission e ∙ permission-code q

-- ---- a test over all permissions
abbrev pub every_permission : (Permission → Bool) → Bool
every_permission f = every (λ c. f (permission c)) 0 15

pub by-test : (f : Permission → Bool) → T (every_permission f) → (p : Permission) → T (f p)
by-test f t p = subst (λ (q : Permission). T (f q)) (permission-code p) (in-range (λ c. f (permission c)) 0 15 t (code p) (omega arith) (code-small p))

-- two numbers, and two permissions, that agree for all
pub same_numbers : (f g : Permission → ℕ) → T (every_permission (λ p. eqb (f p) (g p))) → (p : Permission) → f p ≡ g p
same_numbers f g t p = eqb→eq (f p) (g p) (by-test (λ q. eqb (f q) (g q)) t p)

pub same-permissions : (f g : Permission → Permission) → T (every_permission (λ p. eqb (code (f p)) (code (g p)))) → (p : Permission) → f p ≡ g p
same-permissions f g t p = same_code (f p) (g p) (same_numbers (λ q. code (f q)) (λ q. code (g q)) t p)

-- ---- reads: refused as without the other, the same in either order, and repeated nothing more
pub reads-refused : (r s : NodeRelation) (p : Permission) → refusal Read s (next Read r p) ≡ refusal Read s p
unfolding next refusal
reads-refused Local Local p = same_numbers (λ q. refusal Read Local (next Read Local q)) (refusal Read Local) tt p
reads-refused Local Foreign p = same_numbers (λ q. refusal Read Foreign (next Read Local q)) (refusal Read Foreign) tt p
reads-refused Foreign Local p = same_numbers (λ q. refusal Read Local (next Read Foreign q)) (refusal Read Local) tt p
reads-refused Foreign Foreign p = same_numbers (λ q. refusal Read Foreign (next Read Foreign q)) (refusal Read Foreign) tt p

pub reads-commute : (r s : NodeRelation) (p : Permission) → next Read s (next Read r p) ≡ next Read r (next Read s p)
unfolding next
reads-commute Local Local p = refl
reads-commute Local Foreign p = same-permissions (λ q. next Read Foreign (next Read Local q)) (λ q. next Read Local (next Read Foreign q)) tt p
reads-commute Foreign Local p = same-permissions (λ q. next Read Local (next Read Foreign q)) (λ q. next Read Foreign (next Read Local q)) tt p
reads-commute Foreign Foreign p = refl

pub read_again : (r : NodeRelation) (p : Permission) → next Read r (next Read r p) ≡ next Read r p
unfolding next
read_again Local p = same-permissions (λ q. next Read Local (next Read Local q)) (next Read Local) tt p
read_again Foreign p = same-permissions (λ q. next Read Foreign (next Read Foreign q)) (next Read Foreign) tt p

-- ---- two accesses at one byte that are independent: one of them is none, or both are reads
abbrev pub Calm : Option AccessKind → Option AccessKind → Type 0
Calm none y = Unit {0}
Calm (some x) none = Unit {0}
Calm (some Read) (some Read) = Unit {0}
Calm (some Read) (some Write) = ⊥
Calm (some Write) (some y) = ⊥

pub calm-refused : (x y : Option AccessKind) → Calm x y → (r s : NodeRelation) (p : Permission) → refusal_by y s (next_by x r p) ≡ refusal_by y s p
calm-refused none y h r s p = refl
calm-refused (some x) none h r s p = refl
calm-refused (some Read) (some Read) h r s p = reads-refused r s p
calm-refused (some Read) (some Write) h r s p = absurd h
calm-refused (some Write) (some y) h r s p = absurd h

pub calm-commute : (x y : Option AccessKind) → Calm x y → (r s : NodeRelation) (p : Permission) → next_by y s (next_by x r p) ≡ next_by x r (next_by y s p)
calm-commute none y h r s p = refl
calm-commute (some x) none h r s p = refl
calm-commute (some Read) (some Read) h r s p = reads-commute r s p
calm-commute (some Read) (some Write) h r s p = absurd h
calm-commute (some Write) (some y) h r s p = absurd h

pub calm-again : (x : Option AccessKind) → Calm x x → (r : NodeRelation) (p : Permission) → next_by x r (next_by x r p) ≡ next_by x r p
calm-again none h r p = refl
calm-again (some Read) h r p = read_again r p
calm-again (some Write) h r p = absurd h
