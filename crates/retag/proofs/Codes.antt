-- The codes of a retag's bytes stand for its permissions, and a byte's code depends on that byte of the mask alone.
use Rattle.std.specs.Prelude.{if◌then◌else◌}
use Prim.Native.Nat.{ℕ, suc, ◌+◌, ◌≤◌, ◌<◌}
use mathlib.Core.Path.{◌≡◌, refl, sym, ap, ap₂, ◌∙◌}
use mathlib.Core.Bool.{Bool, true, false, not}
use mathlib.Core.List.{List, [], ◌∷◌, ◌++◌, map, append-nil}
use native.Mathlib.Omega.{arith}
use lib.ListN.{length, get_or, set, take, drop, replicate, length-map, length-replicate, drop_of_length-le, get_or-map}
use lib.Seq.{take_all}
use lib.Dec.{eqb}
use Rattle.definition.specs.Notation.{write_at}
use Rattle.definition.specs.Permission.{next, code, permission}
use Rattle.definition.specs.Permission.AccessKind.{Read}
use Rattle.definition.specs.Permission.NodeRelation.{Local}
use Rattle.definition.specs.Layout.{FreezeMask}
use Rattle.definition.specs.Retag as definition
use Rattle.definition.specs.Retag.{start_perm}
use Rattle.definition.proofs.Lists.{loop-get, loop-set}
use Rattle.definition.proofs.Retags.{settings_after_init}
use Rattle.definition.proofs.Writes.{write-length, map-write}
use Rattle.definition.proofs.Parts.{map-replicate}
use Rattle.permission.specs.declared.Protected.{Protected}
use Rattle.permission.specs.declared.SafePointer.{SafePointer}
use Rattle.permission.specs.Codes.{protector, safe_pointer}
use Rattle.tables.specs.Encoding.{row_of}
use Rattle.tables.proofs.ReadBack.{row_back}
use Rattle.retag.specs.declared.ReborrowSettings.{ReborrowSettings}
use Rattle.retag.specs.Settings.{mask_of, settings_of, chosen_code, codes_for, inside_codes, child_at}

module _ (settings : ReborrowSettings) (mask : FreezeMask) {codes : List ℕ} (e : codes ≡ inside_codes settings mask) where
  pub inside-length : length codes ≡ length (settings_of settings mask).inside
  unfolding codes_for
  inside-length = ap length e ∙ length-map (settings_after_init (settings_of settings mask)).inside code ∙ length-map (settings_of settings mask).inside (next Read Local)

  pub inside-permissions : map permission codes ≡ (settings_after_init (settings_of settings mask)).inside
  unfolding codes_for
  inside-permissions = ap (map permission) e ∙ row_back (settings_after_init (settings_of settings mask)).inside

-- ---- the loop over a mask
module _ (freeze cell : ℕ) (bytes : List ℕ) where
  abbrev new : List ℕ
  new = map (chosen_code freeze cell) bytes

  new-long : length new ≡ length bytes
  new-long = length-map bytes (chosen_code freeze cell)

  -- the codes before place i are made
  abbrev pub made_to : ℕ → List ℕ
  made_to i = take i new ++ drop i bytes

  pub next-made : (i c : ℕ) (row : List ℕ) → i < length bytes → row ≡ made_to i → c ≡ chosen_code freeze cell (get_or row i 0) → set row i c ≡ made_to (i + 1)
  next-made i c row l e f =
      let next : suc i ≡ i + 1 = omega arith in
      ap₂ (λ (r : List ℕ) (k : ℕ). set r i k) e
      (f ∙ ap (λ (r : List ℕ). chosen_code freeze cell (get_or r i 0)) e ∙ ap (chosen_code freeze cell) (loop-get new bytes 0 i new-long l)
      ∙ sym (get_or-map (chosen_code freeze cell) bytes i 0))
      ∙ loop-set new bytes (chosen_code freeze cell 0) i new-long l
      ∙ ap made_to next

  pub all_made : (i : ℕ) → length bytes ≤ i → made_to i ≡ new
  all_made i l =
      let k : length new ≤ i = omega (arith, new-long) in
      ap₂ (λ (xs ys : List ℕ). xs ++ ys) (take_all i new k) (drop_of_length-le bytes l) ∙ append-nil new

pub codes-chosen : (pointer : SafePointer) (protected : Protected) {freeze cell : ℕ} → freeze ≡ code (next Read Local (start_perm (safe_pointer pointer) (protector protected) true))
    → cell ≡ code (next Read Local (start_perm (safe_pointer pointer) (protector protected) false)) → (bytes : List ℕ) → map (chosen_code freeze cell) bytes ≡ codes_for pointer protected (mask_of bytes)
unfolding codes_for
codes-chosen pointer protected f e [] = refl
codes-chosen pointer protected {freeze} {cell} f e (b ∷ bytes) = ap₂ ◌∷◌ (go (eqb b 0)) (codes-chosen pointer protected f e bytes)
  where
    go : (is_zero : Bool) → (if is_zero then cell else freeze) ≡ code (next Read Local (start_perm (safe_pointer pointer) (protector protected) (not is_zero)))
    go true = e
    go false = f

-- ---- a child's row
-- it is the codes of the child's permissions
pub row-of-child : (settings : ReborrowSettings) (mask : FreezeMask) (node from bytes : ℕ) {codes : List ℕ} {outside : ℕ} → codes ≡ inside_codes settings mask
    → outside ≡ code (settings_of settings mask).outside → write_at from codes (replicate bytes outside) ≡ row_of (child_at (settings_after_init (settings_of settings mask)) node from bytes)
unfolding codes_for
row-of-child settings mask node from bytes {codes} {outside} e o =
    let w = settings_after_init (settings_of settings mask) in
    ap₂ (λ (ys : List ℕ) (x : ℕ). write_at from ys (replicate bytes x)) e o
    ∙ ap (write_at from (map code w.inside)) (sym (map-replicate code bytes w.outside))
    ∙ sym (map-write code from w.inside (replicate bytes w.outside))

permissions-long : (w : definition.ReborrowSettings) (node from bytes : ℕ) → length (child_at w node from bytes).permissions ≡ bytes
permissions-long w node from bytes = write-length from w.inside (replicate bytes w.outside) ∙ length-replicate bytes w.outside

pub row-long : (w : definition.ReborrowSettings) (node from bytes : ℕ) → length (row_of (child_at w node from bytes)) ≡ bytes
row-long w node from bytes = length-map (child_at w node from bytes).permissions code ∙ permissions-long w node from bytes
