-- What the records say of the memory that they are the records of.
use Prim.Native.Nat.{ℕ, zero, suc, ◌+◌, ◌-◌, ◌*◌, ◌≤◌, ◌<◌}
use mathlib.Core.Path.{◌≡◌, refl, sym, ap, ap₂, ◌∙◌}
use mathlib.Core.List.{List, [], ◌∷◌, ◌++◌, append-nil}
use native.Mathlib.Nat.{add-zero}
use native.Mathlib.Numerals.{add-one}
use native.Mathlib.Omega.{arith}
use borrow.Author.Tests.{eq-eqb, ne_eqb}
use lib.ListN.{length, take, drop, get_or, replicate, length-append}
use lib.Seq.{take-suc, take-length, get_or-append-add, get_or-drop, drop-drop}
use Rattle.definition.specs.Memory.{Liveness, Allocation, Memory, no_allocation, allocation_at, kind_number, size, node_count, is_live}
use Rattle.definition.specs.Memory.Liveness.{Live, Dead}
use Rattle.definition.specs.Valid.{Valid}
use Rattle.definition.proofs.Parts.{get_d-first, zero-at}
use Rattle.tables.specs.declared.Starts.{Starts}
use Rattle.tables.specs.Encoding.{first_starts, next_starts, state_number, record_of, words_of, parents_of, protectors_of, codes_of, concat_map, pad, records_from, held_records}
use Rattle.tables.specs.declared.Allocation as code
use Rattle.tables.specs.Decoding.{made_in}
use Rattle.tables.specs.Held.{start_of, Records, StartsAt, Used}
use Rattle.tables.proofs.Focus.{concat-append, focus-used}
use Rattle.tables.proofs.Sizes.{length-parents, length-protectors, words-used, parents-used, codes-used, words-fit, parents-fit, codes-fit, codes_at}
use Rattle.tables.proofs.Records.{starts_behind, length-records, length-held-records, starts-after, record-get}
use lib.Dec.{eqb}

pub state-made : (s : Liveness) → state_number s ≡ 0 → ⊥
state-made Live e = omega arith
state-made Dead e = omega arith

pub live_state : (s : Liveness) → eqb (state_number s) 1 ≡ is_live s
live_state Live = refl
live_state Dead = refl

made-records : (p : Starts) (m : Memory) (k z : ℕ) → length m ≤ k → made_in k (records_from p m ++ replicate z 0) ≡ length m
unfolding made_in records_from
made-records p [] zero z h = refl
made-records p [] (suc k) z h = rw (eq-eqb _ _ (zero-at z 0))
made-records p (a ∷ m) zero z h = absurd (omega arith)
made-records p (a ∷ m) (suc k) z h =
    rw (ne_eqb (state_number a.state) 0 (state-made a.state)) (ap suc (made-records (next_starts p a) m k z (omega arith)))

module _ {m : Memory} {A : List ℕ} (h : Records m A) where
  pub allocs-length : length A ≡ 1152
  allocs-length = ap length h.allocs ∙ length-held-records m h.valid.bounded.allocations

  pub made-count : made_in 128 A ≡ length m
  unfolding held_records pad
  made-count =
      ap (made_in 128) h.allocs ∙ made-records first_starts m 128 (1152 - length (records_from first_starts m)) h.valid.bounded.allocations

  -- behind the last record
  pub zero-behind : (k : ℕ) → length m * 9 ≤ k → get_or A k 0 ≡ 0
  unfolding held_records pad
  zero-behind k l =
      let X = records_from first_starts m in
      let n = length X in
      let e : k ≡ n + (k - n) = omega (arith, length-records first_starts m) in
      ap₂ (λ (t : List ℕ) (i : ℕ). get_or t i 0) h.allocs e
      ∙ get_or-append-add X (replicate (1152 - n) 0) (k - n) 0 ∙ zero-at (1152 - n) (k - n)

  -- the numbers of one
  module _ (a : ℕ) (made : a < length m) where
    field_at : (q : ℕ) → q < 9 → get_or A (a * 9 + q) 0 ≡ get_or (record_of (starts_behind first_starts (take a m)) (allocation_at m a)) q 0
    field_at q k = ap (λ (t : List ℕ). get_or t (a * 9 + q) 0) h.allocs ∙ record-get m a made q k

    pub state-at : get_or A (a * 9) 0 ≡ state_number (allocation_at m a).state
    state-at = ap (λ (k : ℕ). get_or A k 0) (sym (add-zero (a * 9))) ∙ field_at 0 (omega arith)

    pub kind_at : get_or A (a * 9 + 1) 0 ≡ kind_number (allocation_at m a).kind
    kind_at = field_at 1 (omega arith)

    pub exponent-at : get_or A (a * 9 + 2) 0 ≡ (allocation_at m a).exponent
    exponent-at = field_at 2 (omega arith)

    pub address-at : get_or A (a * 9 + 3) 0 ≡ (allocation_at m a).address
    address-at = field_at 3 (omega arith)

    pub size-at : get_or A (a * 9 + 4) 0 ≡ size (allocation_at m a)
    size-at = field_at 4 (omega arith)

    pub nodes-at : get_or A (a * 9 + 5) 0 ≡ node_count (allocation_at m a)
    nodes-at = field_at 5 (omega arith)

    -- where its parts start
    pub starts-in-record : StartsAt m a (get_or A (a * 9 + 6) 0) (get_or A (a * 9 + 7) 0) (get_or A (a * 9 + 8) 0)
    starts-in-record = rw (field_at 6 (omega arith), field_at 7 (omega arith), field_at 8 (omega arith)) (starts-after m a h.valid)

    -- it was made
    pub state-nonzero : get_or A (a * 9) 0 ≡ 0 → ⊥
    state-nonzero e = state-made (allocation_at m a).state (sym state-at ∙ e)

    pub record-in : a * 9 + 9 ≤ length A
    record-in = omega (arith, allocs-length, h.valid.bounded.allocations)

-- ---- the loop that counts the records made: at i it counts those from record i on
pub front_at : (A : List ℕ) (i q : ℕ) → get_or (drop (i * 9) A) q 0 ≡ get_or A (i * 9 + q) 0
front_at A i q = get_or-drop (i * 9) A q 0

pub front-state : (A : List ℕ) (i : ℕ) → get_or (drop (i * 9) A) 0 0 ≡ get_or A (i * 9) 0
front-state A i = get_d-first A (i * 9) 0

pub next-record : (A : List ℕ) (i : ℕ) → drop 9 (drop (i * 9) A) ≡ drop ((i + 1) * 9) A
next-record A i = let e : i * 9 + 9 ≡ (i + 1) * 9 = omega arith in drop-drop 9 (i * 9) A ∙ ap (λ (k : ℕ). drop k A) e

pub made-here : (A : List ℕ) (i : ℕ) → i < 128 → get_or A (i * 9) 0 ≡ 0 → made_in (128 - i) (drop (i * 9) A) ≡ 0
unfolding made_in
made-here A i h e =
    let k : 128 - i ≡ suc (128 - (i + 1)) = omega arith in
    rw (k, eq-eqb (get_or (drop (i * 9) A) 0 0) 0 (front-state A i ∙ e))

pub made-next : (A : List ℕ) (i : ℕ) → i < 128 → (get_or A (i * 9) 0 ≡ 0 → ⊥)
    → made_in (128 - i) (drop (i * 9) A) ≡ suc (made_in (128 - (i + 1)) (drop ((i + 1) * 9) A))
unfolding made_in
made-next A i h e =
    let k : 128 - i ≡ suc (128 - (i + 1)) = omega arith in
    rw (k, ne_eqb (get_or (drop (i * 9) A) 0 0) 0 (λ q. e (sym (front-state A i) ∙ q))) (ap (λ (l : List ℕ). suc (made_in (128 - (i + 1)) l)) (next-record A i))

-- of those from a place on that is not behind the last
pub counted-from : {m : Memory} {A : List ℕ} → Records m A → (i : ℕ) → i ≤ length m → i + made_in (128 - i) (drop (i * 9) A) ≡ length m
counted-from h zero l = omega (arith, made-count h)
counted-from {m} {A} h (suc i) l =
    let e = made-next A i (omega (arith, h.valid.bounded.allocations)) (state-nonzero h i (omega arith)) in
    rw (← add-one i) (omega (arith, e, counted-from h i (omega arith)))

-- ---- the memory of a buffer's records
pub same_count : {m m' : Memory} {A : List ℕ} → Records m A → Records m' A → length m ≡ length m'
same_count h h' = sym (made-count h) ∙ made-count h'

-- the record before a place in one of them is that of an allocation in the other
pub made-last : {m m' : Memory} {A : List ℕ} → Records m' A → (a : ℕ) → a ≤ length m' → (a ≡ 0 → ⊥) → Records m A → a - 1 < length m
made-last h' a l n h = omega (arith, same_count h h')

pub start-more : (f : Allocation → List ℕ) (m : Memory) (i : ℕ) → i < length m → start_of f m (i + 1) ≡ start_of f m i + length (f (allocation_at m i))
unfolding concat_map
start-more f m i h =
    rw (add-one, take-suc m i no_allocation, concat-append f (take i m) (allocation_at m i ∷ []), append-nil (f (allocation_at m i)))
    (length-append (concat_map f (take i m)) (f (allocation_at m i)))

pub start-all : (f : Allocation → List ℕ) (m : Memory) → start_of f m (length m) ≡ length (concat_map f m)
start-all f m = ap (λ (l : Memory). length (concat_map f l)) (take-length m)

pub starts_none : (m : Memory) → StartsAt m 0 0 0 0
unfolding concat_map
starts_none m = record { words = refl; parents = refl; protectors = refl; codes = refl }

module _ {m : Memory} {A : List ℕ} (h : Records m A) {i w n c : ℕ} (made : i < length m) (s : StartsAt m i w n c) where
  row-codes : get_or A (i * 9 + 5) 0 * get_or A (i * 9 + 4) 0 ≡ length (codes_of (allocation_at m i))
  row-codes = rw (nodes-at h i made, size-at h i made) (sym (codes_at m h.valid i made))

  pub starts_more : StartsAt m (i + 1) (w + get_or A (i * 9 + 4) 0) (n + get_or A (i * 9 + 5) 0) (c + get_or A (i * 9 + 5) 0 * get_or A (i * 9 + 4) 0)
  starts_more = record {
    words = omega (arith, s.words, size-at h i made, start-more words_of m i made);
    parents = omega (arith, s.parents, nodes-at h i made, start-more parents_of m i made, length-parents (allocation_at m i));
    protectors = omega (arith, s.protectors, nodes-at h i made, start-more protectors_of m i made, length-protectors (allocation_at m i));
    codes = omega (arith, s.codes, row-codes, start-more codes_of m i made);
  }

  -- within the buffers
  pub words-within : w + get_or A (i * 9 + 4) 0 ≤ 4096
  words-within = omega (arith, s.words, size-at h i made, focus-used 4096 words_of m i made, words-fit m h.valid)

  pub nodes-within : n + get_or A (i * 9 + 5) 0 ≤ 1024
  nodes-within = omega (arith, s.parents, nodes-at h i made, length-parents (allocation_at m i), focus-used 1024 parents_of m i made, parents-fit m h.valid)

  pub codes-within : c + get_or A (i * 9 + 5) 0 * get_or A (i * 9 + 4) 0 ≤ 32768
  codes-within = omega (arith, s.codes, row-codes, focus-used 32768 codes_of m i made, codes-fit m h.valid)

-- ---- what is read of a record: where the parts of the next one start
abbrev pub record_at : List ℕ → ℕ → code.Allocation
record_at A a = record {
  state = get_or A (a * 9) 0;
  kind = get_or A (a * 9 + 1) 0;
  exponent = get_or A (a * 9 + 2) 0;
  address = get_or A (a * 9 + 3) 0;
  size = get_or A (a * 9 + 4) 0;
  nodes = get_or A (a * 9 + 5) 0;
  starts = record { words = get_or A (a * 9 + 6) 0; nodes = get_or A (a * 9 + 7) 0; codes = get_or A (a * 9 + 8) 0 };
}

module _ {m : Memory} {A : List ℕ} (h : Records m A) {i : ℕ} (made : i < length m) {x : code.Allocation} (read : x ≡ record_at A i) where
  pub read-starts : StartsAt m i x.starts.words x.starts.nodes x.starts.codes
  read-starts = rw read (starts-in-record h i made)

  pub read_next : StartsAt m (i + 1) (x.starts.words + x.size) (x.starts.nodes + x.nodes) (x.starts.codes + x.nodes * x.size)
  read_next = rw read (starts_more h made (starts-in-record h i made))

  pub read-words : x.starts.words + x.size ≤ 4096
  read-words = rw read (words-within h made (starts-in-record h i made))

  pub read-nodes : x.starts.nodes + x.nodes ≤ 1024
  read-nodes = rw read (nodes-within h made (starts-in-record h i made))

  pub read-codes : x.starts.codes + x.nodes * x.size ≤ 32768
  read-codes = rw read (codes-within h made (starts-in-record h i made))

-- where the parts of as many allocations as were made end
pub at-end : {m : Memory} {A : List ℕ} {a w n c : ℕ} → Records m A → a ≡ made_in 128 A → StartsAt m a w n c → StartsAt m (length m) w n c
at-end h e s = rw (e ∙ made-count h) at s

pub used_all : (m : Memory) (w n c : ℕ) → Valid m → StartsAt m (length m) w n c → Used m w n c
used_all m w n c v s = record {
  words = s.words ∙ start-all words_of m ∙ words-used m;
  nodes = s.parents ∙ start-all parents_of m ∙ parents-used m;
  codes = s.codes ∙ start-all codes_of m ∙ codes-used m v.each;
}
