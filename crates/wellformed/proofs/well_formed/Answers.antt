-- Each return is the test with what precedes it decided; what the test decides is `decides`.
use Prim.Native.Nat.{ℕ}
use mathlib.Core.Bool.{not, false, ◌&&◌}
use mathlib.Core.List.{List}
use mathlib.Core.Path.{◌≡◌, sym}
use native.Mathlib.Omega.{arith}
use borrow.Author.Tests.{eq-eqb, ne_eqb}
use lib.ListN.{length}
use Rattle.std.proofs.Common.{◌⊎◌, inl, inr}
use Rattle.tables.specs.Held.{buffers}
use Rattle.tables.specs.Decoding.{made_in}
use Rattle.wellformed.proofs.Complete.{decided}
use Rattle.wellformed.proofs.Sound.{made-small}
use Rattle.wellformed.specs.WellFormed.{any_clash, bad_allocations, well_formed}
use Rattle.wellformed.proofs.well_formed.Goals as goal

module _ (A P R W C : List ℕ) where
  -- one of the five has another length
  short : (length A ≡ 1152 → ⊥)
      ⊎ (((length A ≡ 1152) × (length P ≡ 1024 → ⊥))
      ⊎ (((length A ≡ 1152) × (length P ≡ 1024) × (length R ≡ 1024 → ⊥))
      ⊎ (((length A ≡ 1152) × (length P ≡ 1024) × (length R ≡ 1024) × (length W ≡ 4096 → ⊥))
      ⊎ ((length A ≡ 1152) × (length P ≡ 1024) × (length R ≡ 1024) × (length W ≡ 4096) × (length C ≡ 32768 → ⊥)))))
      → well_formed (buffers A P R W C) ≡ false
  unfolding well_formed
  short (inl n) = rw (ne_eqb _ _ n)
  short (inr (inl (a, n))) = rw (eq-eqb _ _ a, ne_eqb _ _ n)
  short (inr (inr (inl (a, p, n)))) = rw (eq-eqb _ _ a, eq-eqb _ _ p, ne_eqb _ _ n)
  short (inr (inr (inr (inl (a, p, r, n))))) = rw (eq-eqb _ _ a, eq-eqb _ _ p, eq-eqb _ _ r, ne_eqb _ _ n)
  short (inr (inr (inr (inr (a, p, r, w, n))))) = rw (eq-eqb _ _ a, eq-eqb _ _ p, eq-eqb _ _ r, eq-eqb _ _ w, ne_eqb _ _ n)

  -- none has, and so many allocations were made
  whole : length A ≡ 1152 → length P ≡ 1024 → length R ≡ 1024 → length W ≡ 4096 → length C ≡ 32768 → (made : ℕ) → made ≡ made_in 128 A
      → not (any_clash made A) && not (bad_allocations made 0 0 0 A P R W C) ≡ well_formed (buffers A P R W C)
  unfolding well_formed
  whole a p r w c made m = rw (m, eq-eqb _ _ a, eq-eqb _ _ p, eq-eqb _ _ r, eq-eqb _ _ w, eq-eqb _ _ c)

pub returns-then-allocs-ne1152 : goal.returns-then-allocs-ne1152
returns-then-allocs-ne1152 c = let a = c.args in
    decided false _ (sym (short a.allocs.now a.parents.now a.protectors.now a.words.now a.codes.now c.then-allocs-ne1152.either))

pub any_clash-requires : goal.any_clash-requires
any_clash-requires c = omega (arith, made-small 128 c.args.allocs.now)

pub bad_allocations-requires : goal.bad_allocations-requires
bad_allocations-requires c = (omega (arith, made-small 128 c.args.allocs.now), (omega arith, omega arith))

pub returns-then-not-any_clash : goal.returns-then-not-any_clash
returns-then-not-any_clash c = let a = c.args in
    decided _ _
    (rw (c.bad_allocations.ensures, ← whole a.allocs.now a.parents.now a.protectors.now a.words.now a.codes.now c.if-allocs-ne1152.false c.if-parents-ne1024.false c.if-protectors-ne1024.false c.if-words-ne4096.false c.if-codes-ne32768.false c.made_count-count.result c.made_count-count.ensures, ← c.any_clash.ensures, c.if-not-any_clash.true))

pub returns-else-not-any_clash : goal.returns-else-not-any_clash
returns-else-not-any_clash c = let a = c.args in
    decided _ _
    (rw (← whole a.allocs.now a.parents.now a.protectors.now a.words.now a.codes.now c.if-allocs-ne1152.false c.if-parents-ne1024.false c.if-protectors-ne1024.false c.if-words-ne4096.false c.if-codes-ne32768.false c.made_count-count.result c.made_count-count.ensures, ← c.any_clash.ensures, c.if-not-any_clash.false))
