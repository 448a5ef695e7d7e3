-- The loop that moves the starts of the later records: what it has done at each turn. Before record i they are moved, from it on as they were.
use Prim.Native.Nat.{ℕ, ◌+◌, ◌*◌, ◌≤◌}
use mathlib.Core.Path.{◌≡◌, refl, sym, ap, ap₂, ◌∙◌}
use mathlib.Core.List.{List, [], ◌∷◌, ◌++◌, append_assoc}
use native.Mathlib.Omega.{arith}
use lib.ListN.{length, get_or, set, replicate, length-append, length-replicate}
use lib.Seq.{get_or-append-add}
use Rattle.definition.specs.Notation.{sum_of}
use Rattle.definition.specs.Memory.{Allocation, Memory, node_count, code_count}
use Rattle.definition.proofs.Parts.{set-mid, get-mid, zero-at}
use Rattle.tables.specs.declared.Starts.{Starts}
use Rattle.tables.specs.Encoding.{next_starts, record_of, records_from}
use Rattle.tables.specs.Held.{moved_starts, RecordsBehind}
use Rattle.tables.proofs.Records.{length-records}
use Rattle.tables.proofs.Lookup.{state-made}

-- the buffer with all of them moved
abbrev pub moved_from : List ℕ → Starts → Memory → ℕ → ℕ → List ℕ
moved_from l p m z width = l ++ (records_from (moved_starts width p) m ++ replicate z 0)

-- what is left to do at record i leads to the same
pub record Moving (i : ℕ) (l : List ℕ) (p : Starts) (m : Memory) (z width : ℕ) (A : List ℕ) : Type 0 where
  pub done : List ℕ
  pub starts : Starts
  pub left : Memory
  pub behind : RecordsBehind i done starts left z width A
  pub same : moved_from done starts left z width ≡ moved_from l p m z width

pub moving-start : {k : ℕ} {l : List ℕ} {p : Starts} {m : Memory} {z width : ℕ} {A : List ℕ} → RecordsBehind k l p m z width A → Moving k l p m z width A
moving-start {k} {l} {p} {m} h = record { done = l; starts = p; left = m; behind = h; same = refl }

pub behind-length : {i : ℕ} {l : List ℕ} {p : Starts} {m : Memory} {z width : ℕ} {A : List ℕ} → RecordsBehind i l p m z width A → length A ≡ 1152
behind-length {i} {l} {p} {m} {z} h =
    ap length h.allocs ∙ length-append l (records_from p m ++ replicate z 0)
    ∙ omega (arith, length-append (records_from p m) (replicate z 0), length-records p m, length-replicate {A = ℕ} z 0, h.before, h.whole)

-- ---- a record more
module _ {i : ℕ} {l : List ℕ} {p : Starts} {x : Allocation} {m : Memory} {z width : ℕ} {A : List ℕ} (h : RecordsBehind i l p (x ∷ m) z width A) where
  abbrev rest : List ℕ
  rest = records_from (next_starts p x) m ++ replicate z 0

  first-record : A ≡ l ++ (record_of p x ++ rest)
  unfolding records_from
  first-record = h.allocs

  first-nodes : get_or A (i * 9 + 7) 0 ≡ p.nodes
  first-nodes =
      ap (λ (t : List ℕ). get_or t (i * 9 + 7) 0) first-record ∙ get-mid l (record_of p x) rest (i * 9 + 7) 7 0 (omega (arith, h.before)) (omega arith)

  once : set A (i * 9 + 7) (get_or A (i * 9 + 7) 0 + 1) ≡ l ++ (set (record_of p x) 7 (p.nodes + 1) ++ rest)
  once =
      ap₂ (λ (t : List ℕ) (v : ℕ). set t (i * 9 + 7) (v + 1)) first-record first-nodes
      ∙ set-mid l (record_of p x) rest (i * 9 + 7) 7 (p.nodes + 1) (omega (arith, h.before)) (omega arith)

  first-codes : get_or (set A (i * 9 + 7) (get_or A (i * 9 + 7) 0 + 1)) (i * 9 + 8) 0 ≡ p.codes
  first-codes =
      ap (λ (t : List ℕ). get_or t (i * 9 + 8) 0) once
      ∙ get-mid l (set (record_of p x) 7 (p.nodes + 1)) rest (i * 9 + 8) 8 0 (omega (arith, h.before)) (omega arith)

  abbrev twice : List ℕ
  twice = set (set A (i * 9 + 7) (get_or A (i * 9 + 7) 0 + 1)) (i * 9 + 8) (get_or (set A (i * 9 + 7) (get_or A (i * 9 + 7) 0 + 1)) (i * 9 + 8) 0 + width)

  moved-record : twice ≡ l ++ (record_of (moved_starts width p) x ++ rest)
  moved-record =
      ap₂ (λ (t : List ℕ) (v : ℕ). set t (i * 9 + 8) (v + width)) once first-codes
      ∙ set-mid l (set (record_of p x) 7 (p.nodes + 1)) rest (i * 9 + 8) 8 (p.codes + width) (omega (arith, h.before)) (omega arith)

  next-moved : next_starts (moved_starts width p) x ≡ moved_starts width (next_starts p x)
  next-moved =
      let n : p.nodes + 1 + node_count x ≡ p.nodes + node_count x + 1 = omega arith in
      let c : p.codes + width + code_count x ≡ p.codes + code_count x + width = omega arith in
      λ i. record { words = p.words + length x.words; nodes = n i; codes = c i }

  one_more : RecordsBehind (i + 1) (l ++ record_of (moved_starts width p) x) (next_starts p x) m z width twice
  unfolding sum_of
  one_more = record {
    before = simp length-append (omega (arith, h.before));
    allocs = moved-record ∙ sym (append_assoc l (record_of (moved_starts width p) x) rest);
    whole = omega (arith, h.whole);
    nodes = omega (arith, h.nodes);
    codes = omega (arith, h.codes);
  }

  same_more : moved_from (l ++ record_of (moved_starts width p) x) (next_starts p x) m z width ≡ moved_from l p (x ∷ m) z width
  unfolding records_from
  same_more =
      append_assoc l (record_of (moved_starts width p) x) (records_from (moved_starts width (next_starts p x)) m ++ replicate z 0)
      ∙ ap (λ (q : Starts). l ++ (record_of (moved_starts width p) x ++ (records_from q m ++ replicate z 0))) (sym next-moved)

  nodes-room : get_or A (i * 9 + 7) 0 + 1 ≤ 1024
  nodes-room = omega (arith, first-nodes, h.nodes)

  codes-room : get_or (set A (i * 9 + 7) (get_or A (i * 9 + 7) 0 + 1)) (i * 9 + 8) 0 + width ≤ 32768
  codes-room = omega (arith, first-codes, h.codes)

  made-first : get_or A (i * 9) 0 ≡ 0 → ⊥
  made-first e =
      state-made x.state (sym (ap (λ (t : List ℕ). get_or t (i * 9) 0) first-record ∙ get-mid l (record_of p x) rest (i * 9) 0 0 (omega (arith, h.before)) (omega arith)) ∙ e)

-- none is left
unmade-first : {i : ℕ} {l : List ℕ} {p : Starts} {z width : ℕ} {A : List ℕ} → RecordsBehind i l p [] z width A → get_or A (i * 9) 0 ≡ 0
unfolding records_from
unmade-first {i} {l} {p} {z} h =
    let e : i * 9 ≡ length l + 0 = omega (arith, h.before) in
    ap₂ (λ (t : List ℕ) (k : ℕ). get_or t k 0) h.allocs e ∙ get_or-append-add l (replicate z 0) 0 0 ∙ zero-at z 0

module _ {i : ℕ} {l : List ℕ} {p : Starts} {m : Memory} {z width : ℕ} {A : List ℕ} (s : Moving i l p m z width A) where
  -- ---- a turn
  module _ (e : get_or A (i * 9) 0 ≡ 0 → ⊥) where
    pub moving-turn : Moving (i + 1) l p m z width (set (set A (i * 9 + 7) (get_or A (i * 9 + 7) 0 + 1)) (i * 9 + 8) (get_or (set A (i * 9 + 7) (get_or A (i * 9 + 7) 0 + 1)) (i * 9 + 8) 0 + width))
    moving-turn = go s.left s.behind s.same
      where
        go : (n : Memory) → RecordsBehind i s.done s.starts n z width A → moved_from s.done s.starts n z width ≡ moved_from l p m z width
            → Moving (i + 1) l p m z width (set (set A (i * 9 + 7) (get_or A (i * 9 + 7) 0 + 1)) (i * 9 + 8) (get_or (set A (i * 9 + 7) (get_or A (i * 9 + 7) 0 + 1)) (i * 9 + 8) 0 + width))
        go [] h q = absurd (e (unmade-first h))
        go (x ∷ n) h q = record { done = s.done ++ record_of (moved_starts width s.starts) x; starts = next_starts s.starts x; left = n; behind = one_more h; same = same_more h ∙ q }

    pub moving-nodes : get_or A (i * 9 + 7) 0 + 1 ≤ 1024
    moving-nodes = go s.left s.behind
      where
        go : (n : Memory) → RecordsBehind i s.done s.starts n z width A → get_or A (i * 9 + 7) 0 + 1 ≤ 1024
        go [] h = absurd (e (unmade-first h))
        go (x ∷ n) h = nodes-room h

    pub moving-codes : get_or (set A (i * 9 + 7) (get_or A (i * 9 + 7) 0 + 1)) (i * 9 + 8) 0 + width ≤ 32768
    moving-codes = go s.left s.behind
      where
        go : (n : Memory) → RecordsBehind i s.done s.starts n z width A → get_or (set A (i * 9 + 7) (get_or A (i * 9 + 7) 0 + 1)) (i * 9 + 8) 0 + width ≤ 32768
        go [] h = absurd (e (unmade-first h))
        go (x ∷ n) h = codes-room h

  -- ---- the end
  none_left : s.left ≡ [] → A ≡ moved_from l p m z width
  unfolding records_from
  none_left e =
      s.behind.allocs
      ∙ ap (λ (n : Memory). s.done ++ (records_from s.starts n ++ replicate z 0)) e
      ∙ ap (λ (n : Memory). s.done ++ (records_from (moved_starts width s.starts) n ++ replicate z 0)) (sym e)
      ∙ s.same

  pub moving-end : get_or A (i * 9) 0 ≡ 0 → A ≡ moved_from l p m z width
  moving-end e = none_left (go s.left s.behind)
    where
      go : (n : Memory) → RecordsBehind i s.done s.starts n z width A → n ≡ []
      go [] h = refl
      go (x ∷ n) h = absurd (made-first h e)

  pub moving-all : 128 ≤ i → A ≡ moved_from l p m z width
  moving-all e = none_left (go s.left s.behind)
    where
      go : (n : Memory) → RecordsBehind i s.done s.starts n z width A → n ≡ []
      go [] h = refl
      go (x ∷ n) h = absurd (omega (arith, h.whole))

  pub moving-length : length A ≡ 1152
  moving-length = behind-length s.behind
