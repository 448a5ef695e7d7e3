-- A `match` over the codes, arm by arm: that an arm's answer is right at each number that reaches the arm is one test, which is computed.
--     keys     an arm of single numbers, as `5 | 14 =>`
--     arm      an arm of a range: the numbers from lo on, n of them, but for those of the arms in `kss`
--     rest     the arm `_`: the numbers from lo on
-- `kss` has the keys of every arm of single numbers, the last arm first: `c.match.rest` is then a `None kss code`.
use Prim.Native.Nat.{ℕ, ◌+◌, ◌≤◌, ◌<◌}
use mathlib.Core.Path.{◌≡◌}
use mathlib.Core.Bool.{Bool, true, false, ◌&&◌, ◌||◌}
use mathlib.Core.Logic.{◌⊎◌, ⊎_elim, inl, inr}
use mathlib.Core.List.{List, [], ◌∷◌}
use native.Mathlib.Decide.{dec_lt}
use native.Mathlib.Omega.{arith}
use lib.Dec.{T}
use mir.Val.{has_key}
use types.Run.{OneOf, hit}
use Rattle.definition.proofs.Booleans.{T-left, T-right, every, in-range}

either : (a b : Bool) → T (a || b) → T a ⊎ T b
either true b t = inl tt
either false b t = inr t

-- x is no key of any of the arms
abbrev pub None : List (List ℕ) → ℕ → Type 0
None [] x = Unit {0}
None (ks ∷ kss) x = None kss x × (OneOf ks x → ⊥)

abbrev pub any_key : List (List ℕ) → ℕ → Bool
any_key [] x = false
any_key (ks ∷ kss) x = has_key ks x || any_key kss x

no_key : (kss : List (List ℕ)) (x : ℕ) → None kss x → T (any_key kss x) → ⊥
no_key [] x h t = t
no_key (ks ∷ kss) x h t =
    ⊎_elim (λ a. h.1 (hit ks x a)) (λ b. no_key kss x h.0 b) (either (has_key ks x) (any_key kss x) t)

module _ {A : Type 0} (same : A → A → Bool) (same-eq : (x y : A) → T (same x y) → x ≡ y) (f g : ℕ → A) where
  abbrev pub agree : List ℕ → Bool
  agree [] = true
  agree (k ∷ ks) = same (f k) (g k) && agree ks

  here : (k x : ℕ) → x ≡ k → T (same (f k) (g k)) → f x ≡ g x
  here k x e t = rw e (same-eq (f k) (g k) t)

  pub keys : (ks : List ℕ) → T (agree ks) → (x : ℕ) → OneOf ks x → f x ≡ g x
  keys [] t x h = absurd h
  keys (k ∷ []) t x h = here k x h (T-left (same (f k) (g k)) true t)
  keys (k ∷ k' ∷ ks) t x (inl e) = here k x e (T-left (same (f k) (g k)) (agree (k' ∷ ks)) t)
  keys (k ∷ k' ∷ ks) t x (inr r) = keys (k' ∷ ks) (T-right (same (f k) (g k)) (agree (k' ∷ ks)) t) x r

  pub arm : (kss : List (List ℕ)) (lo n : ℕ) → T (every (λ k. any_key kss k || same (f k) (g k)) lo n)
      → (k : ℕ) → None kss k → lo ≤ k → k < lo + n → f k ≡ g k
  arm kss lo n t k h a b =
      ⊎_elim (λ s. absurd (no_key kss k h s)) (λ s. same-eq (f k) (g k) s)
      (either (any_key kss k) (same (f k) (g k)) (in-range (λ j. any_key kss j || same (f j) (g j)) lo n t k a b))

  pub rest : ((k : ℕ) → 15 ≤ k → f k ≡ g k) → (kss : List (List ℕ)) (lo n : ℕ) → T (every (λ k. any_key kss k || same (f k) (g k)) lo n)
      → 15 ≤ lo + n → (k : ℕ) → None kss k → lo ≤ k → f k ≡ g k
  rest past kss lo n t e k h l =
      elim (dec_lt k (lo + n)) [ yes lt ↦ arm kss lo n t k h l lt | no ge ↦ past k (omega arith) ]
