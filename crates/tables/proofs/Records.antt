-- The records one behind the other: where each stands, what it says of where its parts start, and what a change of one allocation is to them.
use Prim.Native.Nat.{ℕ, zero, suc, ◌+◌, ◌-◌, ◌*◌, ◌≤◌, ◌<◌}
use mathlib.Core.Path.{◌≡◌, refl, sym, ap, ◌∙◌}
use mathlib.Core.List.{List, [], ◌∷◌, ◌++◌, append_assoc, append-nil}
use native.Mathlib.Omega.{arith}
use lib.ListN.{length, take, drop, get_or, set, replicate, length-append, length-replicate}
use lib.Seq.{take-append_seam, drop-append-add, split_at, length-take-le, paste}
use Rattle.definition.specs.Notation.{mutate_at, sum_of}
use Rattle.definition.specs.Memory.{Allocation, Memory, no_allocation, allocation_at, size, node_count, code_count}
use Rattle.definition.specs.Valid.{ValidAllocation, Valid}
use Rattle.definition.proofs.Alls.{all_take}
use Rattle.definition.proofs.Lists.{mutate-split, mutate-length}
use Rattle.definition.proofs.Parts.{set-mid, get-mid, drop-zeros}
use Rattle.tables.specs.declared.Starts.{Starts}
use Rattle.tables.specs.Encoding.{first_starts, next_starts, record_of, records_from, held_records, pad}
use Rattle.tables.specs.Held.{StartsAt}
use Rattle.tables.proofs.Sizes.{words-used, parents-used, protectors-used, codes-used}

-- where the parts behind those of m start
pub starts_behind : Starts → Memory → Starts
starts_behind p [] = p
starts_behind p (a ∷ m) = starts_behind (next_starts p a) m

-- where those of allocation a start
abbrev pub starts_of : Memory → ℕ → Starts
starts_of m a = starts_behind first_starts (take a m)

-- ---- how many they are, and where they start
pub length-records : (p : Starts) (m : Memory) → length (records_from p m) ≡ length m * 9
unfolding records_from
length-records p [] = refl
length-records p (a ∷ m) = omega (arith, length-records (next_starts p a) m)

pub after-words : (p : Starts) (m : Memory) → (starts_behind p m).words ≡ p.words + sum_of size m
unfolding starts_behind sum_of
after-words p [] = omega arith
after-words p (a ∷ m) = after-words (next_starts p a) m ∙ omega arith

pub after-nodes : (p : Starts) (m : Memory) → (starts_behind p m).nodes ≡ p.nodes + sum_of node_count m
unfolding starts_behind sum_of
after-nodes p [] = omega arith
after-nodes p (a ∷ m) = after-nodes (next_starts p a) m ∙ omega arith

pub after-codes : (p : Starts) (m : Memory) → (starts_behind p m).codes ≡ p.codes + sum_of code_count m
unfolding starts_behind sum_of
after-codes p [] = omega arith
after-codes p (a ∷ m) = after-codes (next_starts p a) m ∙ omega arith

pub after-append : (p : Starts) (l r : Memory) → starts_behind p (l ++ r) ≡ starts_behind (starts_behind p l) r
unfolding starts_behind
after-append p [] r = refl
after-append p (a ∷ l) r = after-append (next_starts p a) l r

-- where those of allocation a of a valid memory start
pub starts-after : (m : Memory) (a : ℕ) → Valid m
    → StartsAt m a (starts_of m a).words (starts_of m a).nodes (starts_of m a).codes
starts-after m a v = record {
  words = omega (arith, after-words first_starts (take a m), words-used (take a m));
  parents = omega (arith, after-nodes first_starts (take a m), parents-used (take a m));
  protectors = omega (arith, after-nodes first_starts (take a m), protectors-used (take a m));
  codes = omega (arith, after-codes first_starts (take a m), codes-used (take a m) (all_take ValidAllocation a m v.each));
}

pub starts-equal : (m : Memory) (a : ℕ) {w n c : ℕ} → Valid m → StartsAt m a w n c → record { words = w; nodes = n; codes = c } ≡ starts_of m a
starts-equal m a v s =
    let t = starts-after m a v in
    λ i. record { words = (s.words ∙ sym t.words) i; nodes = (s.parents ∙ sym t.parents) i; codes = (s.codes ∙ sym t.codes) i }

-- ---- one behind the other
pub records-append : (p : Starts) (l r : Memory) → records_from p (l ++ r) ≡ records_from p l ++ records_from (starts_behind p l) r
unfolding records_from starts_behind
records-append p [] r = refl
records-append p (a ∷ l) r =
    ap (λ (t : List ℕ). record_of p a ++ t) (records-append (next_starts p a) l r)

-- ---- a change that keeps size and number of nodes
pub next-kept : (p : Starts) (a b : Allocation) → size b ≡ size a → node_count b ≡ node_count a → next_starts p b ≡ next_starts p a
next-kept p a b s n = λ i. record { words = p.words + s i; nodes = p.nodes + n i; codes = p.codes + n i * s i }

records-kept : (g : Allocation → Allocation) → ((p : Starts) (a : Allocation) → record_of p (g a) ≡ record_of p a) → (n : ℕ) (p : Starts) (m : Memory)
    → records_from p (mutate_at n g m) ≡ records_from p m
unfolding records_from mutate_at
records-kept g e n p [] = refl
records-kept g e zero p (a ∷ m) =
    ap (λ (l : List ℕ). l ++ records_from (next_starts p (g a)) m) (e p a)
    ∙ ap (λ (q : Starts). record_of p a ++ records_from q m) (next-kept p a (g a) (ap (λ (l : List ℕ). get_or l 4 0) (e p a)) (ap (λ (l : List ℕ). get_or l 5 0) (e p a)))
records-kept g e (suc n) p (a ∷ m) = ap (λ (l : List ℕ). record_of p a ++ l) (records-kept g e n (next_starts p a) m)

pub held-records-kept : (g : Allocation → Allocation) → ((p : Starts) (a : Allocation) → record_of p (g a) ≡ record_of p a) → (n : ℕ) (m : Memory)
    → held_records (mutate_at n g m) ≡ held_records m
unfolding held_records
held-records-kept g e n m = ap (pad 1152) (records-kept g e n first_starts m)

pub length-held-records : (m : Memory) → length m ≤ 128 → length (held_records m) ≡ 1152
unfolding held_records pad
length-held-records m h = simp (length-append, length-replicate) (omega (arith, length-records first_starts m))

-- ---- around allocation a
module _ (m : Memory) (a : ℕ) (made : a < length m) where
  abbrev starts : Starts
  starts = starts_of m a

  abbrev x : Allocation
  x = allocation_at m a

  abbrev before : List ℕ
  before = records_from first_starts (take a m)

  -- zeros behind the last
  abbrev rest : List ℕ
  rest = replicate (1152 - length m * 9) 0

  pub length_before : length before ≡ a * 9
  length_before = length-records first_starts (take a m) ∙ omega (arith, length-take-le a m (omega arith))

  records-split : (y : Allocation) → records_from first_starts (take a m ++ (y ∷ drop (suc a) m))
      ≡ before ++ (record_of starts y ++ records_from (next_starts starts y) (drop (suc a) m))
  unfolding records_from
  records-split y = records-append first_starts (take a m) (y ∷ drop (suc a) m)

  records-at : records_from first_starts m ≡ before ++ (record_of starts x ++ records_from (next_starts starts x) (drop (suc a) m))
  records-at = ap (records_from first_starts) (split_at m a no_allocation made) ∙ records-split x

  pub records-mutate : (g : Allocation → Allocation)
      → records_from first_starts (mutate_at a g m) ≡ before ++ (record_of starts (g x) ++ records_from (next_starts starts (g x)) (drop (suc a) m))
  records-mutate g = ap (records_from first_starts) (mutate-split a g m no_allocation made) ∙ records-split (g x)

  -- where the parts of the last end
  pub after-at : starts_behind (next_starts starts x) (drop (suc a) m) ≡ starts_behind first_starts m
  unfolding starts_behind
  after-at = sym (ap (starts_behind first_starts) (split_at m a no_allocation made) ∙ after-append first_starts (take a m) (x ∷ drop (suc a) m))

  -- the buffer, with a record y and records r behind those before it
  pub around : (n : Memory) (y r : List ℕ) → records_from first_starts n ≡ before ++ (y ++ r) → length n ≡ length m → held_records n ≡ before ++ (y ++ (r ++ rest))
  unfolding held_records pad
  around n y r e l =
      let z : 1152 - length (records_from first_starts n) ≡ 1152 - length m * 9 = omega (arith, length-records first_starts n) in
      ap (λ (k : ℕ). records_from first_starts n ++ replicate k 0) z
      ∙ ap (λ (t : List ℕ). t ++ rest) e
      ∙ append_assoc before (y ++ r) rest ∙ ap (λ (t : List ℕ). before ++ t) (append_assoc y r rest)

  pub held-around : held_records m ≡ before ++ (record_of starts x ++ (records_from (next_starts starts x) (drop (suc a) m) ++ rest))
  held-around = around m (record_of starts x) (records_from (next_starts starts x) (drop (suc a) m)) records-at refl

  -- ---- reading
  pub record-get : (q : ℕ) → q < 9 → get_or (held_records m) (a * 9 + q) 0 ≡ get_or (record_of starts x) q 0
  record-get q h =
      ap (λ (t : List ℕ). get_or t (a * 9 + q) 0) held-around
      ∙ get-mid before (record_of starts x) _ (a * 9 + q) q 0 (omega (arith, length_before)) h

  -- ---- writing: g changes the state alone
  pub record-state : (g : Allocation → Allocation) (v : ℕ) → ((p : Starts) → record_of p (g x) ≡ set (record_of p x) 0 v)
      → set (held_records m) (a * 9) v ≡ held_records (mutate_at a g m)
  record-state g v e =
      let same : next_starts starts (g x) ≡ next_starts starts x = next-kept starts x (g x) (ap (λ (l : List ℕ). get_or l 4 0) (e starts)) (ap (λ (l : List ℕ). get_or l 5 0) (e starts)) in
      let R : List ℕ = records_from (next_starts starts x) (drop (suc a) m) in
      ap (λ (t : List ℕ). set t (a * 9) v) held-around
      ∙ set-mid before (record_of starts x) (R ++ rest) (a * 9) 0 v (omega (arith, length_before)) (omega arith)
      ∙ ap (λ (t : List ℕ). before ++ (t ++ (R ++ rest))) (sym (e starts))
      ∙ sym (around (mutate_at a g m) (record_of starts (g x)) R (records-mutate g ∙ ap (λ (p : Starts). before ++ (record_of starts (g x) ++ records_from p (drop (suc a) m))) same) (mutate-length a g m))

-- ---- an allocation behind the others
pub record-append : (m : Memory) (x : Allocation) → length m < 128
    → paste (held_records m) (length m * 9) (record_of (starts_behind first_starts m) x) 9 ≡ held_records (m ++ (x ∷ []))
unfolding held_records pad records_from
record-append m x h =
    let X = records_from first_starts m in
    let r = record_of (starts_behind first_starts m) x in
    let l : length X ≡ length m * 9 = length-records first_starts m in
    let z = 1152 - length X in
    let n : z - 9 ≡ 1152 - length (X ++ r) = simp length-append (omega arith) in
    let s : records_from first_starts (m ++ (x ∷ [])) ≡ X ++ r = records-append first_starts m (x ∷ []) ∙ ap (λ (t : List ℕ). X ++ t) (append-nil r) in
    rw (← l, s, take-append_seam X (replicate z 0), drop-append-add X (replicate z 0) 9, drop-zeros 9 z, n)
