-- What holds of a request that is not malformed, kind by kind.
use Prim.Native.Nat.{ℕ, zero, suc, ◌≤◌, ◌<◌}
use mathlib.Core.Path.{◌≡◌, refl, sym}
use mathlib.Core.Bool.{Bool, true, false, not, ◌||◌, false≢true}
use native.Mathlib.Omega.{arith}
use lib.Dec.{ltb}
use lib.ListN.{get_or}
use borrow.Author.Tests.{ltb-true, ltb-false}
use Rattle.definition.specs.Notation.{any}
use Rattle.definition.specs.Memory.{allocation_kinds, kind_number}
use Rattle.definition.specs.Memory.AllocationKind.{Stack}
use Rattle.definition.specs.Frame.{State}
use Rattle.definition.specs.Request.{Request, nonzero, any_name, stray_name, bad_exponent, bad_byte, bad_call, is_malformed}
use Rattle.definition.specs.Request.Kind.{Allocate, Deallocate, Load, Store, NewCall, EndCall, Unused}
use Rattle.definition.proofs.Booleans.{or-neither, not-not-false}
use Rattle.request.specs.Fields.{any_field, open_in}

-- the middle one of three tests, and the last one, that a number exceeds a bound
middle-bound : (a b : Bool) (n k : ℕ) → a || ltb n k || b ≡ false → k ≤ n
middle-bound a b n k e = ltb-false n k (or-neither a (ltb n k) (or-neither (a || ltb n k) b e).0).1

last-bound : (a : Bool) (n k : ℕ) → a || ltb n k ≡ false → k ≤ n
last-bound a n k e = ltb-false n k (or-neither a (ltb n k) e).1

module _ (s : State) (q : Request) where
  pub allocate-bounds : is_malformed Allocate s q ≡ false → (q.exponent ≤ 29) × (q.extra ≤ 4)
  unfolding is_malformed
  allocate-bounds e =
      (middle-bound (any_name q) (ltb 4 q.extra) 29 q.exponent e, last-bound (any_name q || bad_exponent q) 4 q.extra e)

  pub deallocate-bounds : is_malformed Deallocate s q ≡ false → (q.exponent ≤ 29) × (q.extra ≤ 4)
  unfolding is_malformed
  deallocate-bounds e =
      (middle-bound (stray_name q) (ltb 4 q.extra) 29 q.exponent e, last-bound (stray_name q || bad_exponent q) 4 q.extra e)

  pub load-bound : is_malformed Load s q ≡ false → q.exponent ≤ 29
  unfolding is_malformed
  load-bound e = middle-bound (stray_name q) (nonzero q.extra) 29 q.exponent e

  -- a store is a load and its bytes
  pub store-parts : is_malformed Store s q ≡ false → (is_malformed Load s q ≡ false) × (any bad_byte q.following ≡ false)
  unfolding is_malformed
  store-parts e = or-neither (stray_name q || bad_exponent q || nonzero q.extra) (any bad_byte q.following) e

  call-frame : bad_call q ≡ false → q.fourth < 32
  call-frame e = ltb-true q.fourth 32 (not-not-false (ltb q.fourth 32) (or-neither (any_field q) (not (ltb q.fourth 32)) e).1)

  pub new-call-frame : is_malformed NewCall s q ≡ false → (q.fourth < 32) × (open_in s q.fourth ≡ false)
  unfolding is_malformed
  new-call-frame e = let b = or-neither (bad_call q) (open_in s q.fourth) e in (call-frame b.0, b.1)

  pub end-call-frame : is_malformed EndCall s q ≡ false → (q.fourth < 32) × (open_in s q.fourth ≡ true)
  unfolding is_malformed
  end-call-frame e =
      let b = or-neither (bad_call q) (not (open_in s q.fourth)) e in (call-frame b.0, not-not-false (open_in s q.fourth) b.1)

  pub not-unused : is_malformed Unused s q ≡ false → ⊥
  unfolding is_malformed
  not-unused e = false≢true (sym e)

-- an allocation kind's number
pub kind-number : (x : ℕ) → x ≤ 4 → kind_number (get_or allocation_kinds x Stack) ≡ x
kind-number zero h = refl
kind-number (suc zero) h = refl
kind-number (suc (suc zero)) h = refl
kind-number (suc (suc (suc zero))) h = refl
kind-number (suc (suc (suc (suc zero)))) h = refl
kind-number (suc (suc (suc (suc (suc x))))) h = absurd (omega arith)
