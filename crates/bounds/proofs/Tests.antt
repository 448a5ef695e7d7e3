-- The definition's tests, said without a sum that could pass 2^64.
use Prim.Native.Nat.{ℕ, ◌+◌, ◌-◌, ◌≤◌, ◌<◌}
use mathlib.Core.Path.{◌≡◌, refl, sym}
use mathlib.Core.Bool.{Bool, true, false, not}
use native.Mathlib.Omega.{arith}
use borrow.Author.Tests.{lt-ltb, le-ltb, ltb-true, ltb-false}
use lib.Dec.{leb, ltb}
use lib.ListN.{length}
use Rattle.definition.specs.Notation.{sum_of}
use Rattle.definition.specs.Memory.{Memory, Sizes, size, node_count, exceeds_bounds}
use Rattle.definition.proofs.Booleans.{ltb-leb}
use Rattle.tables.specs.Held.{Used}

-- ---- more than what is left of a bound
pub over : (used bound more : ℕ) → used ≤ bound → ltb (bound - used) more ≡ ltb bound (used + more)
over used bound more h = go (ltb (bound - used) more) refl
  where
    go : (t : Bool) → ltb (bound - used) more ≡ t → t ≡ ltb bound (used + more)
    go true e = sym (lt-ltb bound (used + more) (omega (arith, ltb-true (bound - used) more e)))
    go false e = sym (le-ltb bound (used + more) (omega (arith, ltb-false (bound - used) more e)))

pub leb-ltb : (a b : ℕ) → leb a b ≡ not (ltb b a)
leb-ltb a b = sym (rw (ltb-leb b a) (twice (leb a b)))
  where
    twice : (t : Bool) → not (not t) ≡ t
    twice true = refl
    twice false = refl

-- ---- 15, bound by bound
module _ (m : Memory) (more : Sizes) where
  module _ (a : length m + more.allocations ≤ 128) {w n c : ℕ} (u : Used m w n c) where
    pub exceeds-nodes : w + more.words ≤ 4096 → 1024 < n + more.nodes → exceeds_bounds m more ≡ true
    unfolding exceeds_bounds
    exceeds-nodes k h =
        rw (
          le-ltb 128 (length m + more.allocations) a,
          le-ltb 4096 (sum_of size m + more.words) (omega (arith, u.words)),
          lt-ltb 1024 (sum_of node_count m + more.nodes) (omega (arith, u.nodes)),
        )

    pub exceeds-codes : w + more.words ≤ 4096 → n + more.nodes ≤ 1024 → ltb 32768 (c + more.codes) ≡ exceeds_bounds m more
    unfolding exceeds_bounds
    exceeds-codes k l =
        rw (
          le-ltb 128 (length m + more.allocations) a,
          le-ltb 4096 (sum_of size m + more.words) (omega (arith, u.words)),
          le-ltb 1024 (sum_of node_count m + more.nodes) (omega (arith, u.nodes)),
          u.codes,
        )
