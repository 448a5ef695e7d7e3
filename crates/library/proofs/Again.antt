-- Buffers that are well formed at a width are so after every entry: what an entry leaves can be lent to the next.
use Prim.Native.Nat.{ℕ}
use mathlib.Core.Path.{◌≡◌, refl, ap, ◌∙◌}
use mathlib.Core.Bool.{Bool, true, false}
use mathlib.Core.List.{List}
use Rattle.definition.specs.Memory.{ThinPointer, Memory, perform_access, allocate, deallocate}
use Rattle.definition.specs.Memory as definition
use Rattle.definition.specs.Request.{bad_byte, is_too_far}
use Rattle.definition.specs.Run.{IsWord}
use Rattle.definition.specs.Valid.{All, ValidByte, Valid, Narrow}
use Rattle.definition.proofs.Alls.{all_both, none_pass}
use Rattle.definition.proofs.ValidMemory.{valid-load-store, valid-allocate, valid-deallocate}
use Rattle.definition.proofs.NarrowRuns.{allocate-narrow, access-narrow, deallocate-narrow}
use Rattle.pointer.specs.Width.{width_at}
use Rattle.tables.specs.Encoding.{Buffers, encode}
use Rattle.tables.specs.Decoding.{view, allocation_kind}
use Rattle.wellformed.specs.AtWidth.{well_formed_at, HoldsAt}
use Rattle.wellformed.proofs.AtWidth.{holds_at, complete-at}
use Rattle.memory.specs.Access.{load_of, store_of}
use Rattle.library.specs.Fields.{bad_allocation, bad_load, bad_store}
use Rattle.library.specs.Entry.{served}
use Rattle.library.proofs.Served.{served-bad, served-held}
use Rattle.library.proofs.Fine.{allocation-exponent, store_bytes, store-near}

-- what an entry leaves of b is well formed
abbrev pub FormedAfter : ℕ → Buffers → Bool → (Memory → definition.Answer × Memory) → Type 0
FormedAfter width b bad request = well_formed_at width (served width bad request b).1 ≡ true

module _ (width : ℕ) (b : Buffers) (formed : well_formed_at width b ≡ true) where
  -- a request keeps a memory valid, and in the width's addresses and positions
  abbrev Keeps : (Memory → definition.Answer × Memory) → Type 0
  Keeps request = (m : Memory) → Valid m → Narrow (width_at width) m → Valid (request m).1 × Narrow (width_at width) (request m).1

  stays-formed : (bad : Bool) (request : Memory → definition.Answer × Memory) → (bad ≡ false → Keeps request) → FormedAfter width b bad request
  stays-formed true request keeps =
      ap (λ (o : definition.Answer × Buffers). well_formed_at width o.1) (served-bad width true request b (holds_at width b formed) refl) ∙ formed
  stays-formed false request keeps =
      let next = (request (view b)).1 in
      let h : HoldsAt width (view b) b = holds_at width b formed in
      let kept = keeps refl (view b) h.holds.valid h.narrow in
      ap (λ (o : definition.Answer × Buffers). well_formed_at width o.1) (served-held width false request b h refl)
      ∙ complete-at width (encode next) next (record { numbered = h.numbered; holds = record { valid = kept.0; equal = refl }; narrow = kept.1 })

  pub formed-allocate : (kind len exponent address : ℕ)
      → FormedAfter width b (bad_allocation width kind exponent address) (allocate (width_at width) (allocation_kind kind) len exponent address)
  formed-allocate kind len exponent address =
      stays-formed (bad_allocation width kind exponent address) (allocate (width_at width) (allocation_kind kind) len exponent address)
      (λ fine m v n. (
        valid-allocate (width_at width) (allocation_kind kind) len exponent address (allocation-exponent width kind exponent address fine) m v,
        allocate-narrow (width_at width) (allocation_kind kind) len exponent address m n,
      ))

  module _ (p : ThinPointer) where
    pub formed-deallocate : (kind len exponent : ℕ) → FormedAfter width b (bad_allocation width kind exponent p.address) (deallocate p (allocation_kind kind) len exponent)
    formed-deallocate kind len exponent =
        stays-formed (bad_allocation width kind exponent p.address) (deallocate p (allocation_kind kind) len exponent)
        (λ fine m v n. (valid-deallocate p (allocation_kind kind) len exponent m v, deallocate-narrow (width_at width) p (allocation_kind kind) len exponent m n))

    pub formed-load : (len exponent : ℕ) → FormedAfter width b (bad_load width exponent p.address) (perform_access (load_of p len exponent))
    formed-load len exponent =
        let load = load_of p len exponent in
        stays-formed (bad_load width exponent p.address) (perform_access load)
        (λ fine m v n. (valid-load-store load tt m v, access-narrow (width_at width) load tt m n))

    -- the lent bytes are 32-bit numbers
    pub formed-store : (bytes : List ℕ) (exponent : ℕ) → All IsWord bytes → FormedAfter width b (bad_store width bytes exponent p.address) (perform_access (store_of p bytes exponent))
    formed-store bytes exponent ws =
        let store = store_of p bytes exponent in
        stays-formed (bad_store width bytes exponent p.address) (perform_access store)
        (λ fine m v n. (
          valid-load-store store
              (all_both IsWord (λ w. bad_byte w ≡ false) ValidByte (λ w word good. record { word = word; well_formed = good }) bytes ws
              (none_pass bad_byte bytes (store_bytes width bytes exponent p.address fine))) m v,
          access-narrow (width_at width) store (none_pass (is_too_far (width_at width)) bytes (store-near width bytes exponent p.address fine)) m n,
        ))
