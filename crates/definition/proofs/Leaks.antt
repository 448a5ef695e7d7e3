-- A leak check names the live heap allocation with the lowest number, and nothing where there is none.
use Rattle.std.specs.Prelude.{if◌then◌else◌}
use Prim.Native.Nat.{ℕ, zero, suc, ◌+◌, ◌<◌}
use mathlib.Core.Path.{◌≡◌, refl, ap, subst, ◌∙◌}
use mathlib.Core.Bool.{Bool, true, false}
use mathlib.Core.Option.{Option, none, some}
use mathlib.Core.List.{[], ◌∷◌}
use native.Mathlib.Omega.{arith}
use lib.ListN.{length}
use Rattle.definition.specs.Memory.{Allocation, Memory, allocation_at, is_live_heap, first_leak}

-- none of the first i allocations leaks
abbrev pub NoneBelow : Memory → ℕ → Type 0
NoneBelow m i = (k : ℕ) → k < i → is_live_heap (allocation_at m k) ≡ false

-- allocation i leaks, and none with a lower number
pub record Lowest (m : Memory) (i : ℕ) : Type 0 where
  pub made : i < length m
  pub leaks : is_live_heap (allocation_at m i) ≡ true
  pub below : NoneBelow m i

-- what is to be named, where the first allocation of m has number n
abbrev FromOn : ℕ → Memory → Option ℕ → Type 0
FromOn n m none = NoneBelow m (length m)
FromOn n m (some j) = (i : ℕ) × ((j ≡ n + i) × Lowest m i)

-- the lowest leak of m, or none
abbrev pub IsLowest : Memory → Option ℕ → Type 0
IsLowest m none = NoneBelow m (length m)
IsLowest m (some i) = Lowest m i

-- ---- an allocation in front that does not leak
module _ (a : Allocation) (m : Memory) (dry : is_live_heap a ≡ false) where
  none-behind : (i : ℕ) → NoneBelow m i → NoneBelow (a ∷ m) (suc i)
  none-behind i l zero s = dry
  none-behind i l (suc k) s = l k (omega arith)

  behind : (n : ℕ) (o : Option ℕ) → FromOn (suc n) m o → FromOn n (a ∷ m) o
  behind n none l = none-behind (length m) l
  behind n (some j) (i, (e, l)) =
      (suc i, (omega (arith, e), record { made = omega (arith, l.made); leaks = l.leaks; below = none-behind i l.below }))

-- ---- what is named is the lowest
named-from : (n : ℕ) (m : Memory) → FromOn n m (first_leak n m)
unfolding first_leak
named-from n [] = λ k s. absurd (omega arith)
named-from n (a ∷ m) = by (named-from (suc n) m) (is_live_heap a) refl
  where
    by : FromOn (suc n) m (first_leak (suc n) m) → (t : Bool) → is_live_heap a ≡ t → FromOn n (a ∷ m) (if t then some n else first_leak (suc n) m)
    by later true e = (0, (omega arith, record { made = omega arith; leaks = e; below = λ k s. absurd (omega arith) }))
    by later false e = behind a m e n (first_leak (suc n) m) later

pub first-is-lowest : (m : Memory) → IsLowest m (first_leak 0 m)
first-is-lowest m = by (first_leak 0 m) (named-from 0 m)
  where
    by : (o : Option ℕ) → FromOn 0 m o → IsLowest m o
    by none l = l
    by (some j) (i, (e, l)) = let same : i ≡ j = omega (arith, e) in subst (Lowest m) same l

-- ---- and the lowest is named
lowest-from : (n : ℕ) (m : Memory) (i : ℕ) → Lowest m i → first_leak n m ≡ some (n + i)
unfolding first_leak
lowest-from n [] i l = absurd (omega (arith, l.made))
lowest-from n (a ∷ m) zero l = rw l.leaks (ap some (omega arith))
lowest-from n (a ∷ m) (suc i) l =
    let later : Lowest m i = record { made = omega (arith, l.made); leaks = l.leaks; below = λ k s. l.below (suc k) (omega arith) } in
    rw (l.below 0 (omega arith)) (lowest-from (suc n) m i later ∙ ap some (omega arith))

none_from : (n : ℕ) (m : Memory) → NoneBelow m (length m) → first_leak n m ≡ none
unfolding first_leak
none_from n [] l = refl
none_from n (a ∷ m) l = rw (l 0 (omega arith)) (none_from (suc n) m (λ k s. l (suc k) (omega arith)))

pub lowest-is-first : (m : Memory) (o : Option ℕ) → IsLowest m o → first_leak 0 m ≡ o
lowest-is-first m none l = none_from 0 m l
lowest-is-first m (some i) l = lowest-from 0 m i l ∙ ap some (omega arith)
