-- What the code's settings and mask are in the definition, and the child that they make.
use Rattle.std.specs.Prelude.{ℕ, ◌-◌, Bool, not, List, map, eqb, replicate, if◌then◌else◌}
use Rattle.definition.specs.Notation.{write_at}
use Rattle.definition.specs.Permission.{next, code}
use Rattle.definition.specs.Permission.AccessKind.{Read}
use Rattle.definition.specs.Permission.NodeRelation.{Local}
use Rattle.definition.specs.Tree.{Node}
use Rattle.definition.specs.Layout.{FreezeMask}
use Rattle.definition.specs.Retag as definition
use Rattle.definition.specs.Retag.{start_perm, reborrow_settings}
use Rattle.permission.specs.declared.Protected.{Protected}
use Rattle.permission.specs.declared.SafePointer.{SafePointer}
use Rattle.permission.specs.Codes.{protector, safe_pointer}
use Rattle.retag.specs.declared.ReborrowSettings.{ReborrowSettings}

-- a cell byte is 0, all else are freeze bytes
abbrev pub is_freeze : ℕ → Bool
is_freeze b = not (eqb b 0)

abbrev pub mask_of : List ℕ → FreezeMask
mask_of bytes = map is_freeze bytes

abbrev pub settings_of : ReborrowSettings → FreezeMask → definition.ReborrowSettings
settings_of settings mask = reborrow_settings (safe_pointer settings.pointer) (protector settings.protected) mask settings.freeze

-- the code of a byte, by whether it is a cell byte
abbrev pub chosen_code : ℕ → ℕ → ℕ → ℕ
chosen_code freeze cell b = if eqb b 0 then cell else freeze

-- the codes of the inside bytes, which start with a permission and are read
unfoldable pub codes_for : SafePointer → Protected → FreezeMask → List ℕ
codes_for pointer protected mask = map code (map (next Read Local) (map (start_perm (safe_pointer pointer) (protector protected)) mask))

abbrev pub inside_codes : ReborrowSettings → FreezeMask → List ℕ
inside_codes settings mask = codes_for settings.pointer settings.protected mask

-- where the inside bytes start in a row; 0 where there are none, since a pointer may then lie behind the allocation
abbrev pub place_in : ℕ → ℕ → ℕ → ℕ
place_in address addr len = if eqb len 0 then 0 else addr - address

-- a child of so many bytes
abbrev pub child_at : definition.ReborrowSettings → ℕ → ℕ → ℕ → Node
child_at w parent from bytes =
    record { parent = parent; protected = w.protected; permissions = write_at from w.inside (replicate bytes w.outside) }
