-- What is known of fields that pass 2, and that 2 is the definition's.
use Prim.Native.Nat.{ℕ, ◌≤◌, ◌<◌}
use mathlib.Core.Path.{◌≡◌, refl, sym, ap, ap₂, ◌∙◌}
use mathlib.Core.Bool.{Bool, true, false, ◌||◌}
use mathlib.Core.List.{List, []}
use native.Mathlib.Omega.{arith}
use lib.Dec.{ltb}
use borrow.Author.Tests.{ltb-false}
use Rattle.definition.specs.Notation.{any}
use Rattle.definition.specs.Memory.{kind_number}
use Rattle.definition.specs.Frame.{State}
use Rattle.definition.specs.Request.{Kind, Request, any_name, stray_name, nonzero, bad_byte, is_malformed, is_too_far, stored_bytes, is_too_big}
use Rattle.definition.specs.Request.Kind.{Allocate, Deallocate, Load, Store}
use Rattle.definition.proofs.Booleans.{or-neither, or-skip}
use Rattle.pointer.specs.Width.{width_at}
use Rattle.tables.specs.Decoding.{allocation_kind}
use Rattle.wellformed.proofs.Numbers.{kind-number}
use Rattle.library.specs.Fields.{bad_exponent, bad_address, bad_allocation, bad_load, bad_store}

pub exponent-fine : (exponent : ℕ) → bad_exponent exponent ≡ false → exponent ≤ 29
exponent-fine exponent e = ltb-false 29 exponent e

pub exponent-shifts : (exponent : ℕ) → bad_exponent exponent ≡ false → exponent < 64
exponent-shifts exponent e = omega (arith, exponent-fine exponent e)

module _ (width kind exponent address : ℕ) (e : bad_allocation width kind exponent address ≡ false) where
  tests : (bad_exponent exponent ≡ false) × (ltb 4 kind ≡ false)
  unfolding bad_allocation
  tests = or-neither (bad_exponent exponent) (ltb 4 kind) (or-neither (bad_exponent exponent || ltb 4 kind) (bad_address width address) e).0

  pub allocation-kind : kind ≡ kind_number (allocation_kind kind)
  allocation-kind = sym (kind-number kind (ltb-false 4 kind tests.1))

  pub allocation-exponent : exponent ≤ 29
  allocation-exponent = exponent-fine exponent tests.0

pub load-exponent : (width exponent address : ℕ) → bad_load width exponent address ≡ false → bad_exponent exponent ≡ false
unfolding bad_load
load-exponent width exponent address e = (or-neither (bad_exponent exponent) (bad_address width address) e).0

module _ (width : ℕ) (bytes : List ℕ) (exponent address : ℕ) (e : bad_store width bytes exponent address ≡ false) where
  abbrev far : Bool
  far = any (is_too_far (width_at width)) bytes

  store-tests : (bad_exponent exponent || any bad_byte bytes ≡ false) × (bad_address width address || far ≡ false)
  unfolding bad_store
  store-tests = or-neither (bad_exponent exponent || any bad_byte bytes) (bad_address width address || far) e

  pub store-exponent : bad_exponent exponent ≡ false
  store-exponent = (or-neither (bad_exponent exponent) (any bad_byte bytes) store-tests.0).0

  pub store_bytes : any bad_byte bytes ≡ false
  store_bytes = (or-neither (bad_exponent exponent) (any bad_byte bytes) store-tests.0).1

  pub store-near : far ≡ false
  store-near = (or-neither (bad_address width address) far store-tests.1).1

-- ---- these tests are the definition's of a request's words, where the fields that have no use are zero: `is_malformed`, and `is_too_big` at the width
or-none : (a b : Bool) → b ≡ false → a || b ≡ a
or-none true b e = refl
or-none false b e = e

module _ (width : ℕ) (s : State) (q : Request) where
  abbrev big : Bool
  big = is_too_big (width_at width) q

  abbrev high : Bool
  high = bad_address width q.address

  abbrev far-among : List ℕ → Bool
  far-among bytes = any (is_too_far (width_at width)) bytes

  -- a request that stores nothing
  pub only_high : {k : Kind} → q.kind ≡ k → stored_bytes k q.following ≡ [] → big ≡ high
  unfolding is_too_big any
  only_high e none = or-none high (far-among (stored_bytes q.kind q.following)) (ap (λ (k : Kind). far-among (stored_bytes k q.following)) e ∙ ap far-among none)

  pub allocate-fields : q.kind ≡ Allocate → any_name q ≡ false → is_malformed Allocate s q || big ≡ bad_allocation width q.extra q.exponent q.address
  unfolding is_malformed bad_allocation
  allocate-fields k e = ap₂ ◌||◌ (ap (λ (t : Bool). t || ltb 4 q.extra) (or-skip (any_name q) (bad_exponent q.exponent) e)) (only_high k refl)

  module _ (named : stray_name q ≡ false) where
    pub deallocate-fields : q.kind ≡ Deallocate → is_malformed Deallocate s q || big ≡ bad_allocation width q.extra q.exponent q.address
    unfolding is_malformed bad_allocation
    deallocate-fields k = ap₂ ◌||◌ (ap (λ (t : Bool). t || ltb 4 q.extra) (or-skip (stray_name q) (bad_exponent q.exponent) named)) (only_high k refl)

    module _ (unused : nonzero q.extra ≡ false) where
      access-fields : (stray_name q || bad_exponent q.exponent) || nonzero q.extra ≡ bad_exponent q.exponent
      access-fields = or-none (stray_name q || bad_exponent q.exponent) (nonzero q.extra) unused ∙ or-skip (stray_name q) (bad_exponent q.exponent) named

      pub load_fields : q.kind ≡ Load → is_malformed Load s q || big ≡ bad_load width q.exponent q.address
      unfolding is_malformed bad_load
      load_fields k = ap₂ ◌||◌ access-fields (only_high k refl)

      pub store-fields : q.kind ≡ Store → is_malformed Store s q || big ≡ bad_store width q.following q.exponent q.address
      unfolding is_malformed bad_store is_too_big
      store-fields k =
          ap₂ ◌||◌ (ap (λ (t : Bool). t || any bad_byte q.following) access-fields)
          (ap (λ (k : Kind). high || far-among (stored_bytes k q.following)) k)
