-- One permission, one access. mem.rs: `PermissionUnprot`, `PermissionProt`, `Permission`, `Protected`; document 01: "One access, one permission".
--
-- The paper is "Tree Borrows" (Villani, Hostert, Dreyer, Jung, PLDI 2025): a state machine for each node and byte, whose states are
--   Reserved             a mutable reference that has not been written through: a two-phase borrow before its activation, others may still read
--   Reserved, conflicted the same, under a protector and after a foreign read: it can no longer be activated (here `had_foreign_read`)
--   Reserved with interior mutability (`ReservedIm`)   the same for bytes in a cell, which others may write as well
--   Unique               a mutable reference that has been written through (Active in the paper's first version)
--   Frozen               a shared reference, or a mutable one whose bytes others have read since: it may only be read
--   Disabled             a reference that is dead, as others have written
--   Cell                 a shared reference to bytes in a cell: it claims nothing, and everybody may read and write
-- and a bit, accessed, which says that a byte was used through the node. It matters under a protector alone, so the protected Reserved and Frozen have
-- it here (`had_local_read`), while a Unique byte was written and has been accessed. The comments below say each rule in these words, beside document 01's
-- sentence. They were written without a copy of the paper, so they cite none of its figures; docs/DIFFERENCES.md, section 4, names what may differ.
use Rattle.std.specs.Prelude.{ℕ, Bool, true, false, List, [], ◌∷◌, get_or}
use Rattle.std.proofs.Math.Option.{Option, none, some}
use Rattle.definition.specs.Refusal.{local_read_of_disabled, local_write_of_frozen, local_write_of_disabled, local_read_of_protected_disabled, local_write_of_protected_frozen, local_write_of_protected_disabled, local_write_of_reserved, foreign_read_of_unique, foreign_write_of_read, foreign_write_of_unique}

pub data AccessKind : Type 0 where
  Read Write : AccessKind

-- of a node to the accessed one: "On the pointer's path a node is local, else foreign.". The paper: an access is local to the accessed node and its
-- ancestors, foreign to all others
pub data NodeRelation : Type 0 where
  Local Foreign : NodeRelation

-- ---- the permissions
-- of a node without a protector
pub data PermissionUnprot : Type 0 where
  Cell Reserved ReservedIm Unique Frozen Disabled : PermissionUnprot

-- `had_local_read`: accessed
pub data LocalRead : Type 0 where
  no_local_read had_local_read : LocalRead

-- `had_foreign_read`: conflicted
pub data ForeignRead : Type 0 where
  no_foreign_read had_foreign_read : ForeignRead

-- of a node under a protector
pub data PermissionProt : Type 0 where
  Cell : PermissionProt
  Reserved : LocalRead → ForeignRead → PermissionProt
  Unique : PermissionProt
  Frozen : LocalRead → PermissionProt
  Disabled : PermissionProt

pub data Permission : Type 0 where
  Unprot : PermissionUnprot → Permission
  Prot : PermissionProt → Permission

-- an access lets a permission become another, or is refused
pub data Outcome (P : Type 0) : Type 0 where
  becomes : P → Outcome P
  refused : ℕ → Outcome P

-- ---- the rules without a protector
-- "Local read of Disabled." is refused; nothing else changes.
-- The paper, local read: undefined behaviour for Disabled; every other state allows it and stays
abbrev pub local_read : PermissionUnprot → Outcome PermissionUnprot
local_read Cell = becomes Cell
local_read Reserved = becomes Reserved
local_read ReservedIm = becomes ReservedIm
local_read Unique = becomes Unique
local_read Frozen = becomes Frozen
local_read Disabled = refused local_read_of_disabled

-- "Local write makes 0 to 3 Cell or Unique".
-- The paper, local write: it activates Reserved, with and without interior mutability, to Unique; undefined behaviour for Frozen and Disabled
abbrev pub local_write : PermissionUnprot → Outcome PermissionUnprot
local_write Cell = becomes Cell
local_write Reserved = becomes Unique
local_write ReservedIm = becomes Unique
local_write Unique = becomes Unique
local_write Frozen = refused local_write_of_frozen
local_write Disabled = refused local_write_of_disabled

-- "foreign read makes 3 into 4".
-- The paper, foreign read: Unique is no longer alone and becomes Frozen; Reserved stays, as a two-phase borrow lets others read before its activation
abbrev pub foreign_read : PermissionUnprot → Outcome PermissionUnprot
foreign_read Cell = becomes Cell
foreign_read Reserved = becomes Reserved
foreign_read ReservedIm = becomes ReservedIm
foreign_read Unique = becomes Frozen
foreign_read Frozen = becomes Frozen
foreign_read Disabled = becomes Disabled

-- "foreign write leaves 0 and 2, else Disabled".
-- The paper, foreign write: Disabled, but for interior mutability, where others may write: Cell, and Reserved before its activation
abbrev pub foreign_write : PermissionUnprot → Outcome PermissionUnprot
foreign_write Cell = becomes Cell
foreign_write Reserved = becomes Disabled
foreign_write ReservedIm = becomes ReservedIm
foreign_write Unique = becomes Disabled
foreign_write Frozen = becomes Disabled
foreign_write Disabled = becomes Disabled

-- ---- the rules under a protector: "Protected ones as 000.", with numbers of their own for what 17 to 19 are without one (M-100). The paper: while a call
-- lasts, its reference arguments may be relied on. So where a byte has been accessed through the node, a foreign access that would take its permission
-- away is undefined behaviour; where it has not, it may still become Disabled, and a foreign read makes Reserved conflicted. There is no ReservedIm: a
-- protector overrides interior mutability
-- The paper, local read: the byte is accessed now; undefined behaviour for Disabled, 26 "in place of 17". "8 with local read", "d with local read"
abbrev pub local_read_prot : PermissionProt → Outcome PermissionProt
local_read_prot Cell = becomes Cell
local_read_prot (Reserved l f) = becomes (Reserved had_local_read f)
local_read_prot Unique = becomes Unique
local_read_prot (Frozen l) = becomes (Frozen had_local_read)
local_read_prot Disabled = refused local_read_of_protected_disabled

-- "Local write of protected Reserved that had a foreign read." is refused, and so are Frozen and Disabled, 27 and 28 "in place of .. 18 and 19".
-- The paper, local write: Reserved is activated to Unique, unless it is conflicted, for others have read what this call was to have for itself
abbrev pub local_write_prot : PermissionProt → Outcome PermissionProt
local_write_prot Cell = becomes Cell
local_write_prot (Reserved l no_foreign_read) = becomes Unique
local_write_prot (Reserved l had_foreign_read) = refused local_write_of_reserved
local_write_prot Unique = becomes Unique
local_write_prot (Frozen l) = refused local_write_of_protected_frozen
local_write_prot Disabled = refused local_write_of_protected_disabled

-- "Foreign read of protected Unique." is refused. "9 with foreign read".
-- The paper, foreign read: Reserved becomes conflicted; undefined behaviour for Unique, which would have to become Frozen
abbrev pub foreign_read_prot : PermissionProt → Outcome PermissionProt
foreign_read_prot Cell = becomes Cell
foreign_read_prot (Reserved l f) = becomes (Reserved l had_foreign_read)
foreign_read_prot Unique = refused foreign_read_of_unique
foreign_read_prot (Frozen l) = becomes (Frozen l)
foreign_read_prot Disabled = becomes Disabled

-- "Foreign write of protected Frozen or Reserved that had a local read." and "Foreign write of protected Unique .." are refused.
-- The paper, foreign write: undefined behaviour for a byte that was accessed; any other becomes Disabled, and Cell stays
abbrev pub foreign_write_prot : PermissionProt → Outcome PermissionProt
foreign_write_prot Cell = becomes Cell
foreign_write_prot (Reserved no_local_read f) = becomes Disabled
foreign_write_prot (Reserved had_local_read f) = refused foreign_write_of_read
foreign_write_prot Unique = refused foreign_write_of_unique
foreign_write_prot (Frozen no_local_read) = becomes Disabled
foreign_write_prot (Frozen had_local_read) = refused foreign_write_of_read
foreign_write_prot Disabled = becomes Disabled

-- ---- `transition`
abbrev pub transition_unprot : AccessKind → NodeRelation → PermissionUnprot → Outcome PermissionUnprot
transition_unprot Read Local u = local_read u
transition_unprot Write Local u = local_write u
transition_unprot Read Foreign u = foreign_read u
transition_unprot Write Foreign u = foreign_write u

abbrev pub transition_prot : AccessKind → NodeRelation → PermissionProt → Outcome PermissionProt
transition_prot Read Local p = local_read_prot p
transition_prot Write Local p = local_write_prot p
transition_prot Read Foreign p = foreign_read_prot p
transition_prot Write Foreign p = foreign_write_prot p

-- an access keeps whether there is a protector
abbrev pub wrapped : {P : Type 0} → (P → Permission) → Outcome P → Outcome Permission
wrapped wrap (becomes p) = becomes (wrap p)
wrapped wrap (refused n) = refused n

abbrev pub transition : AccessKind → NodeRelation → Permission → Outcome Permission
transition a r (Unprot u) = wrapped Unprot (transition_unprot a r u)
transition a r (Prot p) = wrapped Prot (transition_prot a r p)

-- an access's refusal, 0 for none
abbrev pub refusal_of : {P : Type 0} → Outcome P → ℕ
refusal_of (becomes p) = 0
refusal_of (refused n) = n

unfoldable pub refusal : AccessKind → NodeRelation → Permission → ℕ
refusal a r p = refusal_of (transition a r p)

-- the permission afterwards: itself where the access is refused
abbrev pub permission_after : {P : Type 0} → P → Outcome P → P
permission_after p (becomes q) = q
permission_after p (refused n) = p

unfoldable pub next : AccessKind → NodeRelation → Permission → Permission
next a r p = permission_after p (transition a r p)

-- the same where there may be no access
abbrev pub refusal_by : Option AccessKind → NodeRelation → Permission → ℕ
refusal_by none r p = 0
refusal_by (some a) r p = refusal a r p

abbrev pub next_by : Option AccessKind → NodeRelation → Permission → Permission
next_by none r p = p
next_by (some a) r p = next a r p

-- ---- the end of a protector (`unprotect`). The paper: when the call returns, the node goes on without its protector, and every byte that was accessed is
-- accessed once more, as if it had been used up to the end: a write where it is Unique, else a read. So it may be assumed that nobody touched it meanwhile
abbrev pub is_protected : Permission → Bool
is_protected (Unprot u) = false
is_protected (Prot p) = true

-- the permission without the protector: conflicted and accessed are forgotten, as nothing asks for them without one
abbrev pub unprotect : PermissionProt → PermissionUnprot
unprotect Cell = Cell
unprotect (Reserved l f) = Reserved
unprotect Unique = Unique
unprotect (Frozen l) = Frozen
unprotect Disabled = Disabled

abbrev pub unprotected : Permission → Permission
unprotected (Unprot u) = Unprot u
unprotected (Prot p) = Unprot (unprotect p)

-- the access that the protector's end makes: "b gives a write; 8, a, d a read; the rest none". Cell claims nothing and gives none; Disabled was not accessed
abbrev pub protector_end : PermissionProt → Option AccessKind
protector_end Cell = none
protector_end (Reserved no_local_read f) = none
protector_end (Reserved had_local_read f) = some Read
protector_end Unique = some Write
protector_end (Frozen no_local_read) = none
protector_end (Frozen had_local_read) = some Read
protector_end Disabled = none

abbrev pub end_access : Permission → Option AccessKind
end_access (Unprot u) = none
end_access (Prot p) = protector_end p

-- ---- `prevents_deallocation`: what was used locally under a protector, but for Cell. In the paper's words: the byte was accessed, so that a foreign write
-- of it is undefined behaviour
abbrev pub is_locally_used : PermissionProt → Bool
is_locally_used Cell = false
is_locally_used (Reserved no_local_read f) = false
is_locally_used (Reserved had_local_read f) = true
is_locally_used Unique = true
is_locally_used (Frozen no_local_read) = false
is_locally_used (Frozen had_local_read) = true
is_locally_used Disabled = false

abbrev pub prevents_deallocation : Permission → Bool
prevents_deallocation (Unprot u) = false
prevents_deallocation (Prot p) = is_locally_used p

-- ---- what a retag's bytes start with
-- a node's protector. A strong one forbids deallocation while the call lasts, a weak one, which a box has, does not
pub data Protected : Type 0 where
  No Weak Strong : Protected

-- `yes`
abbrev pub is_yes : Protected → Bool
is_yes No = false
is_yes Weak = true
is_yes Strong = true

abbrev pub is_strong : Protected → Bool
is_strong No = false
is_strong Weak = false
is_strong Strong = true

-- the pointers that a retag makes a node for: `PtrType::Ref`, shared or mutable, and `PtrType::Box`
pub data SafePointer : Type 0 where
  SharedRef MutableRef Box : SafePointer

-- `mk_perm`: the one without, or the one under a protector
abbrev pub mk_perm : Protected → PermissionUnprot → PermissionProt → Permission
mk_perm No u p = Unprot u
mk_perm Weak u p = Prot p
mk_perm Strong u p = Prot p

-- `no_cell_perm`: "Freeze bytes start Frozen (shared) or Reserved". The paper: a shared reference is Frozen, a mutable one Reserved, from the start on
abbrev pub no_cell_perm : SafePointer → Protected → Permission
no_cell_perm SharedRef protected = mk_perm protected Frozen (Frozen no_local_read)
no_cell_perm MutableRef protected = mk_perm protected Reserved (Reserved no_local_read no_foreign_read)
no_cell_perm Box protected = mk_perm protected Reserved (Reserved no_local_read no_foreign_read)

-- `cell_perm`: "cell bytes Cell (shared), else ReservedIm, or Reserved when protected". The paper: interior mutability weakens both, but a protector
-- overrides that of a mutable reference
abbrev pub cell_perm : SafePointer → Protected → Permission
cell_perm SharedRef protected = mk_perm protected Cell Cell
cell_perm MutableRef protected = mk_perm protected ReservedIm (Reserved no_local_read no_foreign_read)
cell_perm Box protected = mk_perm protected ReservedIm (Reserved no_local_read no_foreign_read)

-- `init_access`: "each inside byte but Cell is read". The paper: a retag reads what the new reference points to; Cell claims nothing of its bytes
abbrev pub init_access : Permission → Option AccessKind
init_access (Unprot Cell) = none
init_access (Unprot Reserved) = some Read
init_access (Unprot ReservedIm) = some Read
init_access (Unprot Unique) = some Read
init_access (Unprot Frozen) = some Read
init_access (Unprot Disabled) = some Read
init_access (Prot Cell) = none
init_access (Prot (Reserved l f)) = some Read
init_access (Prot Unique) = some Read
init_access (Prot (Frozen l)) = some Read
init_access (Prot Disabled) = some Read

-- ---- the codes, for the encoding and the output: "Codes: 0 Cell, 1 Reserved, 2 ReservedIm, 3 Unique, 4 Frozen, 5 Disabled;
-- protected 6 Cell, 7 Reserved, 8 with local read, 9 with foreign read, a with both, b Unique, c Frozen, d with local read, e Disabled."
abbrev pub permissions : List Permission
permissions =
    Unprot Cell
    ∷ Unprot Reserved
    ∷ Unprot ReservedIm
    ∷ Unprot Unique
    ∷ Unprot Frozen
    ∷ Unprot Disabled
    ∷ Prot Cell
    ∷ Prot (Reserved no_local_read no_foreign_read)
    ∷ Prot (Reserved had_local_read no_foreign_read)
    ∷ Prot (Reserved no_local_read had_foreign_read)
    ∷ Prot (Reserved had_local_read had_foreign_read)
    ∷ Prot Unique
    ∷ Prot (Frozen no_local_read)
    ∷ Prot (Frozen had_local_read)
    ∷ Prot Disabled
    ∷ []

-- a permission's place in that list
abbrev pub code : Permission → ℕ
code (Unprot Cell) = 0
code (Unprot Reserved) = 1
code (Unprot ReservedIm) = 2
code (Unprot Unique) = 3
code (Unprot Frozen) = 4
code (Unprot Disabled) = 5
code (Prot Cell) = 6
code (Prot (Reserved no_local_read no_foreign_read)) = 7
code (Prot (Reserved had_local_read no_foreign_read)) = 8
code (Prot (Reserved no_local_read had_foreign_read)) = 9
code (Prot (Reserved had_local_read had_foreign_read)) = 10
code (Prot Unique) = 11
code (Prot (Frozen no_local_read)) = 12
code (Prot (Frozen had_local_read)) = 13
code (Prot Disabled) = 14

-- and back; a number from 15 on is no code
abbrev pub permission : ℕ → Permission
permission c = get_or permissions c (Unprot Cell)
