-- A visit of the descendants of n among the nodes from m on, at node m: what is left of it from m on is m with its own descendants, if it is a child
-- of n and not spared, and what is left from m + 1 on.
use Prim.Native.Nat.{ℕ, suc, ◌+◌, ◌≤◌, ◌<◌}
use mathlib.Core.Path.{◌≡◌, ap, ◌∙◌}
use mathlib.Core.List.{List, [], ◌++◌}
use native.Mathlib.Numerals.{add-one}
use lib.ListN.{length, get_or, drop, drop_of_length-le}
use lib.Seq.{drop-cons}
use Rattle.definition.proofs.Order.{walk, walk-child, walk-spared, walk-other}
use Rattle.visit.specs.Walk.{subtree}

-- ---- the nodes
module _ (s : ℕ) (ps : List ℕ) (n m : ℕ) where
  pub at-child : m < length ps → get_or ps m 0 ≡ n → (m ≡ s → ⊥) → walk s n m (drop m ps) ≡ subtree s m ps ++ walk s n (m + 1) (drop (m + 1) ps)
  at-child l e f = rw (add-one m) (ap (walk s n m) (drop-cons ps m 0 l) ∙ walk-child s n m (get_or ps m 0) (drop (suc m) ps) e f)

  pub at-spared : m < length ps → get_or ps m 0 ≡ n → m ≡ s → walk s n m (drop m ps) ≡ walk s n (m + 1) (drop (m + 1) ps)
  at-spared l e f = rw (add-one m) (ap (walk s n m) (drop-cons ps m 0 l) ∙ walk-spared s n m (get_or ps m 0) (drop (suc m) ps) e f)

  pub at_other : m < length ps → (get_or ps m 0 ≡ n → ⊥) → walk s n m (drop m ps) ≡ walk s n (m + 1) (drop (m + 1) ps)
  at_other l e = rw (add-one m) (ap (walk s n m) (drop-cons ps m 0 l) ∙ walk-other s n m (get_or ps m 0) (drop (suc m) ps) e)

  pub at-end : length ps ≤ m → walk s n m (drop m ps) ≡ []
  unfolding walk
  at-end l = ap (walk s n m) (drop_of_length-le ps l)
