-- The walk over the allocations: what its calls say of the lists that are left, at allocation i with so many nodes, words and codes before it.
use Prim.Native.Nat.{ℕ, ◌+◌, ◌-◌, ◌*◌, ◌≤◌, ◌<◌}
use mathlib.Core.Path.{◌≡◌, sym, ap₂, ◌∙◌}
use mathlib.Core.Bool.{Bool, true, false}
use mathlib.Core.List.{List}
use native.Mathlib.Omega.{arith}
use lib.ListN.{length, get_or, take, drop, length-drop}
use Rattle.tables.proofs.Lookup.{front_at}
use Rattle.definition.proofs.Parts.{part-rest}
use Rattle.definition.proofs.Booleans.{or-taken, or-skip}
use Rattle.wellformed.specs.WellFormed.{Front, bad_allocation_at, bad_rest, bad_allocations}
use Rattle.wellformed.proofs.Turns.{allocations-turn, allocations-end}
use Rattle.wellformed.proofs.Sound.{Tested, tested_at}

-- at allocation i: the parts before it are within the buffers, and the answer is that for the allocations from i on
pub record Walked (A P R W C : List ℕ) (count i node word code : ℕ) : Type 0 where
  pub parents : node ≤ length P
  pub protectors : node ≤ length R
  pub words : word ≤ length W
  pub codes : code ≤ length C
  pub answer : bad_allocations (count - i) word node code (drop (i * 9) A) (drop node P) (drop node R) (drop word W) (drop code C)
      ≡ bad_allocations count 0 0 0 A P R W C

-- there is room for the parts of allocation i
pub record PartsFit (A P R W C : List ℕ) (i node word code : ℕ) : Type 0 where
  pub parents : node + get_or A (i * 9 + 5) 0 ≤ length P
  pub protectors : node + get_or A (i * 9 + 5) 0 ≤ length R
  pub words : word + get_or A (i * 9 + 4) 0 ≤ length W
  pub codes : code + get_or A (i * 9 + 5) 0 * get_or A (i * 9 + 4) 0 ≤ length C

-- the front is a record's
pub walk-front : {A P R W C : List ℕ} {count i node word code : ℕ} → Walked A P R W C count i node word code → i * 9 + 9 ≤ length A → length P ≤ 1024 → length W ≤ 4096
    → Front (take (length A - i * 9) (drop (i * 9) A)) (take (length P - node) (drop node P)) (take (length W - word) (drop word W))
walk-front {A} {P} {R} {W} {C} {count} {i} {node} {word} w la lp lw =
    rw (part-rest (i * 9) A, part-rest node P, part-rest word W)
    (record { allocs = simp length-drop (omega arith); parents = simp length-drop (omega arith); words = simp length-drop (omega arith) })

-- allocation i is tested: a part goes on to the end, as the callee has it
module _ {A P R W C : List ℕ} {count i node word code : ℕ} (w : Walked A P R W C count i node word code) {r : Bool}
    (answer : r
    ≡ bad_allocation_at word node code (take (length A - i * 9) (drop (i * 9) A)) (take (length P - node) (drop node P)) (take (length R - node) (drop node R))
    (take (length W - word) (drop word W)) (take (length C - code) (drop code C))) where
  front : bad_allocation_at word node code (drop (i * 9) A) (drop node P) (drop node R) (drop word W) (drop code C) ≡ r
  front = sym (answer ∙ rw (part-rest (i * 9) A, part-rest node P, part-rest node R, part-rest word W, part-rest code C))

  pub walk-bad : i < count → r ≡ true → true ≡ bad_allocations count 0 0 0 A P R W C
  walk-bad h e = sym (allocations-turn count i node word code A P R W C h ∙ or-taken _ _ (front ∙ e)) ∙ w.answer

  module _ (e : r ≡ false) where
    test : Tested (drop (i * 9) A) (drop node P) (drop node R) (drop word W) (drop code C)
    test = (tested_at word node code (drop (i * 9) A) (drop node P) (drop node R) (drop word W) (drop code C) (front ∙ e)).1

    pub walk-fits : PartsFit A P R W C i node word code
    walk-fits =
        record {
          parents = omega (arith, front_at A i 5, test.room_parents, length-drop node P, w.parents);
          protectors = omega (arith, front_at A i 5, test.room_protectors, length-drop node R, w.protectors);
          words = omega (arith, front_at A i 4, test.room_words, length-drop word W, w.words);
          codes = omega (arith, ap₂ ◌*◌ (front_at A i 5) (front_at A i 4), test.room_codes, length-drop code C, w.codes);
        }

    pub walk-on : i < count
        → Walked A P R W C count (i + 1) (node + get_or A (i * 9 + 5) 0) (word + get_or A (i * 9 + 4) 0) (code + get_or A (i * 9 + 5) 0 * get_or A (i * 9 + 4) 0)
    walk-on h =
        record {
          parents = walk-fits.parents;
          protectors = walk-fits.protectors;
          words = walk-fits.words;
          codes = walk-fits.codes;
          answer = sym (allocations-turn count i node word code A P R W C h ∙ or-skip _ _ (front ∙ e)) ∙ w.answer;
        }

-- behind the last
pub walk-rest : {A P R W C : List ℕ} {count i node word code : ℕ} → Walked A P R W C count i node word code → (p : ℕ) → p ≡ i * 9 → count ≤ i
    → bad_rest (take (length A - p) (drop p A)) (take (length P - node) (drop node P)) (take (length R - node) (drop node R))
    (take (length W - word) (drop word W)) (take (length C - code) (drop code C))
    ≡ bad_allocations count 0 0 0 A P R W C
walk-rest {A} {P} {R} {W} {C} {count} {i} {node} {word} {code} w p e h =
    rw (e, part-rest (i * 9) A, part-rest node P, part-rest node R, part-rest word W, part-rest code C)
    (sym (allocations-end count i word node code (drop (i * 9) A) (drop node P) (drop node R) (drop word W) (drop code C) h) ∙ w.answer)
