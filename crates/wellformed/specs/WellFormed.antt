-- When five lent buffers hold some valid memory (refusal 1), as a test of their numbers. Document 01: "Well formed: ..".
use Rattle.std.specs.Prelude.{ℕ, zero, suc, ◌+◌, ◌*◌, ◌^◌, ◌≤◌, ◌≡◌, Bool, true, false, not, ◌&&◌, ◌||◌, List, eqb, leb, ltb, length, get_or, take, drop, if◌then◌else◌}
use Rattle.definition.specs.Notation.{any}
use Rattle.definition.specs.Memory.{Memory, is_misaligned, ranges_overlap}
use Rattle.definition.specs.Request.{nonzero, bad_byte}
use Rattle.tables.specs.Encoding.{Buffers}
use Rattle.tables.specs.Decoding.{made_in}
use Rattle.tables.specs.Held.{Holds, WellFormed}

-- what the test decides
pub record Decides (r : Bool) (b : Buffers) : Type 0 where
  pub sound : r ≡ true → WellFormed b
  pub complete : (m : Memory) → Holds m b → r ≡ true

-- ---- one allocation, at the front of the five lists
-- "addresses `pick` could have accepted"; a state, a kind and an exponent that there is (decision 48); a root
unfoldable pub bad_record : ℕ → ℕ → ℕ → ℕ → ℕ → ℕ → Bool
bad_record state kind exponent address size nodes =
    eqb state 0
    || ltb 2 state
    || ltb 4 kind
    || ltb 29 exponent
    || eqb address 0
    || is_misaligned address exponent
    || leb (2 ^ 64) (address + size)
    || eqb nodes 0

-- "valid words"
unfoldable pub bad_word : ℕ → Bool
bad_word w = leb (2 ^ 32) w || bad_byte w

-- "parents earlier in the same allocation; root unprotected": of node n, its parent and its protector
unfoldable pub bad_place : ℕ → ℕ → ℕ → Bool
bad_place n parent protector =
    if eqb n 0 then nonzero parent || nonzero protector else leb n parent || ltb 2 protector

-- "valid words and codes; on a live allocation, codes 6 to e exactly in protected rows"
unfoldable pub bad_code : Bool → ℕ → ℕ → Bool
bad_code live protector c = ltb 14 c || (live && (if eqb protector 0 then ltb 5 c else ltb c 6))

-- so many nodes, from number n on
unfoldable pub bad_nodes : Bool → ℕ → ℕ → ℕ → List ℕ → List ℕ → List ℕ → Bool
bad_nodes live bytes n zero P R C = false
bad_nodes live bytes n (suc count) P R C =
    bad_place n (get_or P 0 0) (get_or R 0 0)
    || any (bad_code live (get_or R 0 0)) (take bytes C)
    || bad_nodes live bytes (suc n) count (drop 1 P) (drop 1 R) (drop bytes C)

-- there are so many nodes
pub record Nodes (count bytes : ℕ) (P R C : List ℕ) : Type 0 where
  pub parents : count ≤ length P
  pub protectors : count ≤ length R
  pub codes : count * bytes ≤ length C

-- the record, room for what it announces, its words, its nodes
unfoldable pub bad_allocation : List ℕ → List ℕ → List ℕ → List ℕ → List ℕ → Bool
bad_allocation A P R W C =
    bad_record (get_or A 0 0) (get_or A 1 0) (get_or A 2 0) (get_or A 3 0) (get_or A 4 0) (get_or A 5 0)
    || ltb (length P) (get_or A 5 0)
    || ltb (length R) (get_or A 5 0)
    || ltb (length W) (get_or A 4 0)
    || ltb (length C) (get_or A 5 0 * get_or A 4 0)
    || any bad_word (take (get_or A 4 0) W)
    || bad_nodes (eqb (get_or A 0 0) 1) (get_or A 4 0) 0 (get_or A 5 0) P R C

-- "ranges consecutive": its parts start behind so many words, nodes and codes, where those of the one before end
unfoldable pub bad_starts : ℕ → ℕ → ℕ → List ℕ → Bool
bad_starts word node code A =
    not (eqb (get_or A 6 0) word) || not (eqb (get_or A 7 0) node) || not (eqb (get_or A 8 0) code)

unfoldable pub bad_allocation_at : ℕ → ℕ → ℕ → List ℕ → List ℕ → List ℕ → List ℕ → List ℕ → Bool
bad_allocation_at word node code A P R W C = bad_starts word node code A || bad_allocation A P R W C

-- there is a record, and no part is longer than a buffer
pub record Front (A P W : List ℕ) : Type 0 where
  pub allocs : 9 ≤ length A
  pub parents : length P ≤ 1024
  pub words : length W ≤ 4096

-- ---- all of them
-- something other than zero
unfoldable pub bad_rest : List ℕ → List ℕ → List ℕ → List ℕ → List ℕ → Bool
bad_rest A P R W C = any nonzero A || any nonzero P || any nonzero R || any nonzero W || any nonzero C

-- so many allocations, each behind the one before, and zero behind the last
unfoldable pub bad_allocations : ℕ → ℕ → ℕ → ℕ → List ℕ → List ℕ → List ℕ → List ℕ → List ℕ → Bool
bad_allocations zero word node code A P R W C = bad_rest A P R W C
bad_allocations (suc count) word node code A P R W C =
    bad_allocation_at word node code A P R W C
    || bad_allocations count (word + get_or A 4 0) (node + get_or A 5 0) (code + get_or A 5 0 * get_or A 4 0) (drop 9 A) (drop (get_or A 5 0) P) (drop (get_or A 5 0) R) (drop (get_or A 4 0) W) (drop (get_or A 5 0 * get_or A 4 0) C)

-- ---- "live ones not overlapping"
-- the record at the front is of a live allocation that overlaps the range
unfoldable pub clashes : ℕ → ℕ → List ℕ → Bool
clashes address size A = eqb (get_or A 0 0) 1 && ranges_overlap address size (get_or A 3 0) (get_or A 4 0)

-- one of so many records
unfoldable pub clashes_later : ℕ → ℕ → ℕ → List ℕ → Bool
clashes_later zero address size A = false
clashes_later (suc count) address size A = clashes address size A || clashes_later count address size (drop 9 A)

-- the record at the front is of a live allocation, and a later one clashes with it
unfoldable pub clashes_first : ℕ → List ℕ → Bool
clashes_first count A = eqb (get_or A 0 0) 1 && clashes_later count (get_or A 3 0) (get_or A 4 0) (drop 9 A)

unfoldable pub any_clash : ℕ → List ℕ → Bool
any_clash zero A = false
any_clash (suc count) A = clashes_first count A || any_clash count (drop 9 A)

-- ---- the five buffers
unfoldable pub well_formed : Buffers → Bool
well_formed b =
    eqb (length b.allocs) 1152
    && eqb (length b.parents) 1024
    && eqb (length b.protectors) 1024
    && eqb (length b.words) 4096
    && eqb (length b.codes) 32768
    && not (any_clash (made_in 128 b.allocs) b.allocs)
    && not (bad_allocations (made_in 128 b.allocs) 0 0 0 b.allocs b.parents b.protectors b.words b.codes)
