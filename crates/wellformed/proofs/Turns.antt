-- What one turn of each loop says: the test of what is left is the test of the next one, or that of the rest.
use Prim.Native.Nat.{ℕ, suc, ◌+◌, ◌-◌, ◌*◌, ◌≤◌, ◌<◌}
use mathlib.Core.Path.{◌≡◌}
use mathlib.Core.Bool.{Bool, false, ◌||◌}
use mathlib.Core.List.{List}
use native.Mathlib.Nat.{suc-mul}
use native.Mathlib.Numerals.{add-one}
use native.Mathlib.Omega.{arith}
use borrow.Author.Tests.{eq-eqb, ne_eqb}
use lib.ListN.{get_or, take, drop}
use lib.Seq.{drop-drop}
use Rattle.definition.specs.Notation.{any}
use Rattle.definition.specs.Memory.{ranges_overlap}
use Rattle.definition.proofs.Parts.{get_d-first}
use Rattle.tables.proofs.Lookup.{front_at, front-state, next-record}
use Rattle.wellformed.specs.WellFormed.{bad_place, bad_code, bad_nodes, bad_allocation_at, bad_rest, bad_allocations, clashes, clashes_later, clashes_first, any_clash}

-- ---- nodes
pub nodes-turn : (live : Bool) (size count n : ℕ) (P R C : List ℕ) → n < count
    → bad_nodes live size n (count - n) (drop n P) (drop n R) (drop (n * size) C)
    ≡ (bad_place n (get_or P n 0) (get_or R n 0) || any (bad_code live (get_or R n 0)) (take (n * size + size - n * size) (drop (n * size) C)))
    || bad_nodes live size (n + 1) (count - (n + 1)) (drop (n + 1) P) (drop (n + 1) R) (drop ((n + 1) * size) C)
unfolding bad_nodes
nodes-turn live size count n P R C h =
    let k : count - n ≡ suc (count - (n + 1)) = omega arith in
    let row : n * size + size - n * size ≡ size = omega arith in
    let next : (n + 1) * size ≡ n * size + size = rw add-one (suc-mul n size) in
    rw (k, row, next, get_d-first P n 0, get_d-first R n 0, drop-drop 1 n P, drop-drop 1 n R, drop-drop size (n * size) C, add-one)

pub nodes-end : (live : Bool) (size count n : ℕ) (P R C : List ℕ) → count ≤ n → bad_nodes live size n (count - n) P R C ≡ false
unfolding bad_nodes
nodes-end live size count n P R C h = let k : count - n ≡ 0 = omega arith in rw k

-- ---- allocations
pub allocations-turn : (count i node word code : ℕ) (A P R W C : List ℕ) → i < count
    → bad_allocations (count - i) word node code (drop (i * 9) A) (drop node P) (drop node R) (drop word W) (drop code C)
    ≡ bad_allocation_at word node code (drop (i * 9) A) (drop node P) (drop node R) (drop word W) (drop code C)
    || bad_allocations (count - (i + 1)) (word + get_or A (i * 9 + 4) 0) (node + get_or A (i * 9 + 5) 0) (code + get_or A (i * 9 + 5) 0 * get_or A (i * 9 + 4) 0) (drop ((i + 1) * 9) A) (drop (node + get_or A (i * 9 + 5) 0) P) (drop (node + get_or A (i * 9 + 5) 0) R)
    (drop (word + get_or A (i * 9 + 4) 0) W) (drop (code + get_or A (i * 9 + 5) 0 * get_or A (i * 9 + 4) 0) C)
unfolding bad_allocations
allocations-turn count i node word code A P R W C h =
    let k : count - i ≡ suc (count - (i + 1)) = omega arith in
    rw (
      k,
      front_at A i 5,
      front_at A i 4,
      next-record A i,
      drop-drop (get_or A (i * 9 + 5) 0) node P,
      drop-drop (get_or A (i * 9 + 5) 0) node R,
      drop-drop (get_or A (i * 9 + 4) 0) word W,
      drop-drop (get_or A (i * 9 + 5) 0 * get_or A (i * 9 + 4) 0) code C,
    )

pub allocations-end : (count i word node code : ℕ) (A P R W C : List ℕ) → count ≤ i → bad_allocations (count - i) word node code A P R W C ≡ bad_rest A P R W C
unfolding bad_allocations
allocations-end count i word node code A P R W C h = let k : count - i ≡ 0 = omega arith in rw k

-- ---- pairs
pub later-turn : (count j address size : ℕ) (A : List ℕ) → j < count
    → clashes_later (count - j) address size (drop (j * 9) A)
    ≡ clashes address size (drop (j * 9) A) || clashes_later (count - (j + 1)) address size (drop ((j + 1) * 9) A)
unfolding clashes_later
later-turn count j address size A h =
    let k : count - j ≡ suc (count - (j + 1)) = omega arith in
    rw (k, next-record A j)

pub later-end : (count j address size : ℕ) (A : List ℕ) → count ≤ j → clashes_later (count - j) address size A ≡ false
unfolding clashes_later
later-end count j address size A h = let k : count - j ≡ 0 = omega arith in rw k

pub first-dead : (k i : ℕ) (A : List ℕ) → (get_or A (i * 9) 0 ≡ 1 → ⊥) → clashes_first k (drop (i * 9) A) ≡ false
unfolding clashes_first
first-dead k i A h = rw (front-state A i, ne_eqb (get_or A (i * 9) 0) 1 h)

pub first_live : (k i : ℕ) (A : List ℕ) → get_or A (i * 9) 0 ≡ 1
    → clashes_first k (drop (i * 9) A) ≡ clashes_later k (get_or A (i * 9 + 3) 0) (get_or A (i * 9 + 4) 0) (drop ((i + 1) * 9) A)
unfolding clashes_first
first_live k i A h = rw (front-state A i, eq-eqb (get_or A (i * 9) 0) 1 h, front_at A i 3, front_at A i 4, next-record A i)

pub clash-dead : (address size j : ℕ) (A : List ℕ) → (get_or A (j * 9) 0 ≡ 1 → ⊥) → clashes address size (drop (j * 9) A) ≡ false
unfolding clashes
clash-dead address size j A h = rw (front-state A j, ne_eqb (get_or A (j * 9) 0) 1 h)

pub clash-live : (address size j : ℕ) (A : List ℕ) → get_or A (j * 9) 0 ≡ 1
    → clashes address size (drop (j * 9) A) ≡ ranges_overlap address size (get_or A (j * 9 + 3) 0) (get_or A (j * 9 + 4) 0)
unfolding clashes
clash-live address size j A h = rw (front-state A j, eq-eqb (get_or A (j * 9) 0) 1 h, front_at A j 3, front_at A j 4)

pub clash-turn : (count i : ℕ) (A : List ℕ) → i < count
    → any_clash (count - i) (drop (i * 9) A) ≡ clashes_first (count - (i + 1)) (drop (i * 9) A) || any_clash (count - (i + 1)) (drop ((i + 1) * 9) A)
unfolding any_clash
clash-turn count i A h =
    let k : count - i ≡ suc (count - (i + 1)) = omega arith in
    rw (k, next-record A i)

pub clash-end : (count i : ℕ) (A : List ℕ) → count ≤ i → any_clash (count - i) A ≡ false
unfolding any_clash
clash-end count i A h = let k : count - i ≡ 0 = omega arith in rw k
