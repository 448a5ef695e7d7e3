-- Buffers that pass the test are those of a valid memory: the one that they are read as. Node by node, allocation by allocation:
-- what is read at the front is valid and has the front as its parts.
use Rattle.std.specs.Prelude.{if◌then◌else◌}
use Prim.Native.Nat.{ℕ, zero, suc, ◌+◌, ◌-◌, ◌*◌, ◌^◌, ◌≤◌, ◌<◌}
use mathlib.Core.Path.{◌≡◌, refl, sym, ap, ap₂, subst, ◌∙◌}
use mathlib.Core.Bool.{Bool, true, false, not, ◌&&◌, ◌||◌}
use mathlib.Core.List.{List, [], ◌∷◌, ◌++◌, append_assoc, map}
use native.Mathlib.Nat.{suc-mul, zero-mul}
use native.Mathlib.Omega.{arith}
use borrow.Author.Tests.{eqb-true, eqb-false, ltb-false, leb-false, not-true, not-false, ne_eqb}
use lib.Dec.{eqb, leb, ltb}
use lib.ListN.{length, get_or, take, drop, replicate, length-append, length-drop, length-replicate, length-map, take-append-drop}
use lib.Seq.{length-take-le, take-add, take-suc}
use Rattle.definition.specs.Notation.{any}
use Rattle.definition.specs.Permission.{Permission, is_protected, is_yes, code, permission}
use Rattle.definition.specs.Tree.{Node}
use Rattle.definition.specs.Memory.{Allocation, Memory, size, node_count, is_live, is_misaligned, ranges_overlap, overlaps}
use Rattle.definition.specs.Request.{nonzero, bad_byte}
use Rattle.definition.specs.Valid.{All, AllFrom, Placed, ValidNode, ValidByte, ValidAllocation, Separate}
use Rattle.definition.proofs.Alls.{none_pass}
use Rattle.definition.proofs.Booleans.{or-neither, and_left, and_right}
use Rattle.definition.proofs.Permissions.{code-permission}
use Rattle.definition.proofs.Parts.{take-one}
use Rattle.tables.specs.declared.Starts.{Starts}
use Rattle.tables.specs.Encoding.{Buffers, first_starts, next_starts, state_number, protector_number, record_of, parents_of, protectors_of, words_of, row_of, codes_of, concat_map, pad, records_from, held_records, held, encode}
use Rattle.tables.specs.Decoding.{protector, nodes_in, allocation_in, allocations_in, made_in, view}
use Rattle.tables.specs.Held.{Holds}
use Rattle.tables.proofs.Sizes.{words-used, parents-used, codes-used}
use Rattle.tables.proofs.Lookup.{live_state}
use Rattle.wellformed.specs.WellFormed.{bad_record, bad_word, bad_place, bad_code, bad_nodes, bad_allocation, bad_starts, bad_allocation_at, bad_rest, bad_allocations, clashes, clashes_later, clashes_first, any_clash, well_formed}
use Rattle.wellformed.proofs.Tests.{zeros-only}
use Rattle.wellformed.proofs.Numbers.{state-number, live-number, kind-number, protector-number, code-good, mark-good}

-- ---- a row
row_number : (live : Bool) (r : ℕ) (row : List ℕ) → All (λ c. bad_code live r c ≡ false) row → map code (map permission row) ≡ row
row_number live r [] h = refl
row_number live r (c ∷ row) h = ap₂ ◌∷◌ (code-permission c (code-good live r c h.0)) (row_number live r row h.1)

row-marked : (r : ℕ) (row : List ℕ) → r ≤ 2 → All (λ c. bad_code true r c ≡ false) row
    → All (λ p. is_protected p ≡ is_yes (protector r)) (map permission row)
row-marked r [] l h = tt
row-marked r (c ∷ row) l h = (mark-good r c l h.0, row-marked r row l h.1)

-- ---- a node
place-good : (n p r : ℕ) → bad_place n p r ≡ false → r ≤ 2
unfolding bad_place
place-good zero p r h = omega (arith, eqb-true r 0 (not-false (eqb r 0) (or-neither (nonzero p) (nonzero r) h).1))
place-good (suc n) p r h = ltb-false 2 r (or-neither (leb (suc n) p) (ltb 2 r) (rw (ne_eqb (suc n) 0 (λ e. omega arith)) at h)).1

placed : (n p r : ℕ) (row : List Permission) → bad_place n p r ≡ false → Placed n (record { parent = p; protected = protector r; permissions = row })
unfolding bad_place
placed zero p r row h =
    let e : (nonzero p ≡ false) × (nonzero r ≡ false) = or-neither (nonzero p) (nonzero r) h in
    (eqb-true p 0 (not-false (eqb p 0) e.0), ap (λ (k : ℕ). is_yes (protector k)) (eqb-true r 0 (not-false (eqb r 0) e.1)))
placed (suc n) p r row h = let l : p < suc n = leb-false (suc n) p (or-neither (leb (suc n) p) (ltb 2 r) (rw (ne_eqb (suc n) 0 (λ e. omega arith)) at h)).0 in omega arith

node-valid : (live : Bool) (bytes n p r : ℕ) (row : List ℕ) → bad_place n p r ≡ false → length row ≡ bytes → All (λ c. bad_code live r c ≡ false) row
    → ValidNode bytes live n (record { parent = p; protected = protector r; permissions = map permission row })
node-valid live bytes n p r row place wide codes = record {
  placed = placed n p r (map permission row) place;
  wide = length-map row permission ∙ wide;
  marked = λ e. row-marked r row (place-good n p r place) (subst (λ (t : Bool). All (λ c. bad_code t r c ≡ false) row) e codes);
}

-- the nodes that are read at the front, and the parts that they are read from
record NodesRead (live : Bool) (bytes n k : ℕ) (P R C : List ℕ) (nodes : List Node) : Type 0 where
  count : length nodes ≡ k
  valid : AllFrom n (ValidNode bytes live) nodes
  parents : map (λ (x : Node). x.parent) nodes ≡ take k P
  protectors : map (λ (x : Node). protector_number x.protected) nodes ≡ take k R
  codes : concat_map row_of nodes ≡ take (k * bytes) C

nodes-read : (live : Bool) (bytes n k : ℕ) (P R C : List ℕ) → bad_nodes live bytes n k P R C ≡ false
    → k ≤ length P → k ≤ length R → k * bytes ≤ length C → NodesRead live bytes n k P R C (nodes_in k bytes P R C)
unfolding bad_nodes nodes_in concat_map
nodes-read live bytes n zero P R C h lp lr lc =
    record { count = refl; valid = tt; parents = refl; protectors = refl; codes = ap (λ (j : ℕ). take j C) (sym (zero-mul bytes)) }
nodes-read live bytes n (suc k) P R C h lp lr lc =
    let p = get_or P 0 0 in
    let r = get_or R 0 0 in
    let row = take bytes C in
    let rest = bad_nodes live bytes (suc n) k (drop 1 P) (drop 1 R) (drop bytes C) in
    let e1 : (bad_place n p r || any (bad_code live r) row ≡ false) × (rest ≡ false) = or-neither (bad_place n p r || any (bad_code live r) row) rest h in
    let e2 : (bad_place n p r ≡ false) × (any (bad_code live r) row ≡ false) = or-neither (bad_place n p r) (any (bad_code live r) row) e1.0 in
    let codes : All (λ c. bad_code live r c ≡ false) row = none_pass (bad_code live r) row e2.1 in
    let m : suc k * bytes ≡ bytes + k * bytes = suc-mul k bytes ∙ omega arith in
    let s : NodesRead live bytes (suc n) k (drop 1 P) (drop 1 R) (drop bytes C) (nodes_in k bytes (drop 1 P) (drop 1 R) (drop bytes C)) =
    nodes-read live bytes (suc n) k (drop 1 P) (drop 1 R) (drop bytes C) e1.1 (simp length-drop (omega arith)) (simp length-drop (omega arith)) (simp length-drop (omega arith)) in
    record {
      count = ap suc s.count;
      valid = (node-valid live bytes n p r row e2.0 (length-take-le bytes C (omega arith)) codes, s.valid);
      parents = ap (λ (t : List ℕ). p ∷ t) s.parents ∙ take-one P k 0 lp;
      protectors = ap₂ ◌∷◌ (protector-number r (place-good n p r e2.0)) s.protectors ∙ take-one R k 0 lr;
      codes = ap₂ ◌++◌ (row_number live r row codes) s.codes ∙ sym (take-add bytes (k * bytes) C) ∙ ap (λ (j : ℕ). take j C) (sym m);
    }

-- ---- an allocation
words-valid : (l : List ℕ) → All (λ w. bad_word w ≡ false) l → All ValidByte l
unfolding bad_word
words-valid [] h = tt
words-valid (w ∷ l) h =
    let e : (leb (2 ^ 32) w ≡ false) × (bad_byte w ≡ false) = or-neither (leb (2 ^ 32) w) (bad_byte w) h.0 in
    (record { word = leb-false (2 ^ 32) w e.0; well_formed = e.1 }, words-valid l h.1)

-- what the record's test says
pub record Record (s k e a z n : ℕ) : Type 0 where
  pub made : s ≡ 0 → ⊥
  pub state : s ≤ 2
  pub kind : k ≤ 4
  pub exponent : e ≤ 29
  pub positive : 0 < a
  pub aligned : is_misaligned a e ≡ false
  pub in_space : a + z < 2 ^ 64
  pub root : 0 < n

record-good : (s k e a z n : ℕ) → bad_record s k e a z n ≡ false → Record s k e a z n
unfolding bad_record
record-good s k e a z n h =
    let t1 = eqb s 0 in
    let t2 = t1 || ltb 2 s in
    let t3 = t2 || ltb 4 k in
    let t4 = t3 || ltb 29 e in
    let t5 = t4 || eqb a 0 in
    let t6 = t5 || is_misaligned a e in
    let t7 = t6 || leb (2 ^ 64) (a + z) in
    let h8 : (t7 ≡ false) × (eqb n 0 ≡ false) = or-neither t7 (eqb n 0) h in
    let h7 : (t6 ≡ false) × (leb (2 ^ 64) (a + z) ≡ false) = or-neither t6 (leb (2 ^ 64) (a + z)) h8.0 in
    let h6 : (t5 ≡ false) × (is_misaligned a e ≡ false) = or-neither t5 (is_misaligned a e) h7.0 in
    let h5 : (t4 ≡ false) × (eqb a 0 ≡ false) = or-neither t4 (eqb a 0) h6.0 in
    let h4 : (t3 ≡ false) × (ltb 29 e ≡ false) = or-neither t3 (ltb 29 e) h5.0 in
    let h3 : (t2 ≡ false) × (ltb 4 k ≡ false) = or-neither t2 (ltb 4 k) h4.0 in
    let h2 : (t1 ≡ false) × (ltb 2 s ≡ false) = or-neither t1 (ltb 2 s) h3.0 in
    record {
      made = eqb-false s 0 h2.0;
      state = ltb-false 2 s h2.1;
      kind = ltb-false 4 k h3.1;
      exponent = ltb-false 29 e h4.1;
      positive = let q : a ≡ 0 → ⊥ = eqb-false a 0 h5.1 in omega arith;
      aligned = h6.1;
      in_space = leb-false (2 ^ 64) (a + z) h7.1;
      root = let q : n ≡ 0 → ⊥ = eqb-false n 0 h8.1 in omega arith;
    }

-- what the allocation's test says
pub record Tested (A P R W C : List ℕ) : Type 0 where
  pub fields : Record (get_or A 0 0) (get_or A 1 0) (get_or A 2 0) (get_or A 3 0) (get_or A 4 0) (get_or A 5 0)
  pub room_parents : get_or A 5 0 ≤ length P
  pub room_protectors : get_or A 5 0 ≤ length R
  pub room_words : get_or A 4 0 ≤ length W
  pub room_codes : get_or A 5 0 * get_or A 4 0 ≤ length C
  pub words : any bad_word (take (get_or A 4 0) W) ≡ false
  pub nodes : bad_nodes (eqb (get_or A 0 0) 1) (get_or A 4 0) 0 (get_or A 5 0) P R C ≡ false

pub tested : (A P R W C : List ℕ) → bad_allocation A P R W C ≡ false → Tested A P R W C
unfolding bad_allocation
tested A P R W C h =
    let n = get_or A 5 0 in
    let z = get_or A 4 0 in
    let b = bad_nodes (eqb (get_or A 0 0) 1) z 0 n P R C in
    let t1 = bad_record (get_or A 0 0) (get_or A 1 0) (get_or A 2 0) (get_or A 3 0) z n in
    let t2 = t1 || ltb (length P) n in
    let t3 = t2 || ltb (length R) n in
    let t4 = t3 || ltb (length W) z in
    let t5 = t4 || ltb (length C) (n * z) in
    let t6 = t5 || any bad_word (take z W) in
    let h7 : (t6 ≡ false) × (b ≡ false) = or-neither t6 b h in
    let h6 : (t5 ≡ false) × (any bad_word (take z W) ≡ false) = or-neither t5 (any bad_word (take z W)) h7.0 in
    let h5 : (t4 ≡ false) × (ltb (length C) (n * z) ≡ false) = or-neither t4 (ltb (length C) (n * z)) h6.0 in
    let h4 : (t3 ≡ false) × (ltb (length W) z ≡ false) = or-neither t3 (ltb (length W) z) h5.0 in
    let h3 : (t2 ≡ false) × (ltb (length R) n ≡ false) = or-neither t2 (ltb (length R) n) h4.0 in
    let h2 : (t1 ≡ false) × (ltb (length P) n ≡ false) = or-neither t1 (ltb (length P) n) h3.0 in
    record {
      fields = record-good _ _ _ _ _ _ h2.0;
      room_parents = ltb-false (length P) n h2.1;
      room_protectors = ltb-false (length R) n h3.1;
      room_words = ltb-false (length W) z h4.1;
      room_codes = ltb-false (length C) (n * z) h5.1;
      words = h6.1;
      nodes = h7.1;
    }

-- what the test of its starts says
pub record StartsRead (p : Starts) (A : List ℕ) : Type 0 where
  words : get_or A 6 0 ≡ p.words
  nodes : get_or A 7 0 ≡ p.nodes
  codes : get_or A 8 0 ≡ p.codes

starts-read : (w n c : ℕ) (A : List ℕ) → bad_starts w n c A ≡ false → StartsRead (record { words = w; nodes = n; codes = c }) A
unfolding bad_starts
starts-read w n c A h =
    let e1 = eqb (get_or A 6 0) w in
    let e2 = eqb (get_or A 7 0) n in
    let e3 = eqb (get_or A 8 0) c in
    let h3 : (not e1 || not e2 ≡ false) × (not e3 ≡ false) = or-neither (not e1 || not e2) (not e3) h in
    let h2 : (not e1 ≡ false) × (not e2 ≡ false) = or-neither (not e1) (not e2) h3.0 in
    record {
      words = eqb-true _ _ (not-false e1 h2.0);
      nodes = eqb-true _ _ (not-false e2 h2.1);
      codes = eqb-true _ _ (not-false e3 h3.1);
    }

pub tested_at : (w n c : ℕ) (A P R W C : List ℕ) → bad_allocation_at w n c A P R W C ≡ false
    → StartsRead (record { words = w; nodes = n; codes = c }) A × Tested A P R W C
unfolding bad_allocation_at
tested_at w n c A P R W C h =
    let e : (bad_starts w n c A ≡ false) × (bad_allocation A P R W C ≡ false) = or-neither (bad_starts w n c A) (bad_allocation A P R W C) h in
    (starts-read w n c A e.0, tested A P R W C e.1)

-- the allocation that is read at the front, and the parts that it is read from
record FrontRead (p : Starts) (A P R W C : List ℕ) (a : Allocation) : Type 0 where
  valid : ValidAllocation a
  long : size a ≡ get_or A 4 0
  count : node_count a ≡ get_or A 5 0
  allocs : record_of p a ≡ take 9 A
  parents : parents_of a ≡ take (get_or A 5 0) P
  protectors : protectors_of a ≡ take (get_or A 5 0) R
  words : words_of a ≡ take (get_or A 4 0) W
  codes : codes_of a ≡ take (get_or A 5 0 * get_or A 4 0) C

-- one number after the other
take-nine : (A : List ℕ) → 9 ≤ length A
    → take 9 A ≡ get_or A 0 0 ∷ get_or A 1 0 ∷ get_or A 2 0 ∷ get_or A 3 0 ∷ get_or A 4 0 ∷ get_or A 5 0 ∷ get_or A 6 0 ∷ get_or A 7 0 ∷ get_or A 8 0 ∷ []
take-nine A h =
    rw (
      take-suc A 8 0 (omega arith),
      take-suc A 7 0 (omega arith),
      take-suc A 6 0 (omega arith),
      take-suc A 5 0 (omega arith),
      take-suc A 4 0 (omega arith),
      take-suc A 3 0 (omega arith),
      take-suc A 2 0 (omega arith),
      take-suc A 1 0 (omega arith),
      take-suc A 0 0 (omega arith),
    )

front_read : (p : Starts) (A P R W C : List ℕ) → StartsRead p A → Tested A P R W C → 9 ≤ length A → FrontRead p A P R W C (allocation_in A P R W C)
unfolding parents_of protectors_of codes_of
front_read p A P R W C s t nine =
    let z = get_or A 4 0 in
    let k = get_or A 5 0 in
    let live = eqb (get_or A 0 0) 1 in
    let f = t.fields in
    let lz : length (take z W) ≡ z = length-take-le z W t.room_words in
    let ns : NodesRead live z 0 k P R C (nodes_in k z P R C) = nodes-read live z 0 k P R C t.nodes t.room_parents t.room_protectors t.room_codes in
    record {
      valid = record {
        exponent = f.exponent;
        positive = f.positive;
        aligned = f.aligned;
        in_space = rw lz f.in_space;
        words = words-valid (take z W) (none_pass bad_word (take z W) t.words);
        root = rw ns.count f.root;
        nodes = rw (lz, live-number (get_or A 0 0)) ns.valid;
      };
      long = lz;
      count = ns.count;
      allocs =
          rw (
            take-nine A nine,
            state-number (get_or A 0 0) f.made f.state,
            kind-number (get_or A 1 0) f.kind,
            lz,
            ns.count,
            s.words,
            s.nodes,
            s.codes,
          );
      parents = ns.parents;
      protectors = ns.protectors;
      words = refl;
      codes = ns.codes;
    }

-- ---- all allocations
-- b is x, and zeros behind
abbrev Padded : List ℕ → List ℕ → Type 0
Padded b x = (z : ℕ) × (b ≡ x ++ replicate z 0)

padded-none : (b : List ℕ) → any nonzero b ≡ false → Padded b []
padded-none b h = (length b, zeros-only b h)

padded-more : (b x rest : List ℕ) (n : ℕ) → x ≡ take n b → Padded (drop n b) rest → Padded b (x ++ rest)
padded-more b x rest n e (z, p) =
    (z, sym (take-append-drop n b) ∙ ap₂ ◌++◌ (sym e) p ∙ sym (append_assoc x rest (replicate z 0)))

-- the buffers hold the parts of m, of which the first one's start at p
record Whole (p : Starts) (A P R W C : List ℕ) (m : Memory) : Type 0 where
  each : All ValidAllocation m
  allocs : Padded A (records_from p m)
  parents : Padded P (concat_map parents_of m)
  protectors : Padded R (concat_map protectors_of m)
  words : Padded W (concat_map words_of m)
  codes : Padded C (concat_map codes_of m)

whole-none : (q : Starts) (A P R W C : List ℕ) → bad_rest A P R W C ≡ false → Whole q A P R W C []
unfolding bad_rest records_from concat_map
whole-none q A P R W C h =
    let a = any nonzero A in
    let p = any nonzero P in
    let r = any nonzero R in
    let w = any nonzero W in
    let c = any nonzero C in
    let h5 : (((a || p) || r) || w ≡ false) × (c ≡ false) = or-neither (((a || p) || r) || w) c h in
    let h4 : ((a || p) || r ≡ false) × (w ≡ false) = or-neither ((a || p) || r) w h5.0 in
    let h3 : (a || p ≡ false) × (r ≡ false) = or-neither (a || p) r h4.0 in
    let h2 : (a ≡ false) × (p ≡ false) = or-neither a p h3.0 in
    record {
      each = tt;
      allocs = padded-none A h2.0;
      parents = padded-none P h2.1;
      protectors = padded-none R h3.1;
      words = padded-none W h4.1;
      codes = padded-none C h5.1;
    }

whole-read : (k w b c : ℕ) (A P R W C : List ℕ) → bad_allocations k w b c A P R W C ≡ false → k * 9 ≤ length A
    → Whole (record { words = w; nodes = b; codes = c }) A P R W C (allocations_in k A P R W C)
unfolding bad_allocations allocations_in records_from concat_map
whole-read zero w b c A P R W C h l = whole-none (record { words = w; nodes = b; codes = c }) A P R W C h
whole-read (suc k) w b c A P R W C h l =
    let n = get_or A 5 0 in
    let z = get_or A 4 0 in
    let p : Starts = record { words = w; nodes = b; codes = c } in
    let x = allocation_in A P R W C in
    let rest = bad_allocations k (w + z) (b + n) (c + n * z) (drop 9 A) (drop n P) (drop n R) (drop z W) (drop (n * z) C) in
    let e : (bad_allocation_at w b c A P R W C ≡ false) × (rest ≡ false) = or-neither (bad_allocation_at w b c A P R W C) rest h in
    let t : StartsRead p A × Tested A P R W C = tested_at w b c A P R W C e.0 in
    let f : FrontRead p A P R W C x = front_read p A P R W C t.0 t.1 (omega arith) in
    let m = allocations_in k (drop 9 A) (drop n P) (drop n R) (drop z W) (drop (n * z) C) in
    let q : Starts = record { words = w + z; nodes = b + n; codes = c + n * z } in
    let next : q ≡ next_starts p x = sym (λ i. record { words = w + f.long i; nodes = b + f.count i; codes = c + f.count i * f.long i }) in
    let s : Whole q (drop 9 A) (drop n P) (drop n R) (drop z W) (drop (n * z) C) m =
    whole-read k (w + z) (b + n) (c + n * z) (drop 9 A) (drop n P) (drop n R) (drop z W) (drop (n * z) C) e.1 (simp length-drop (omega arith)) in
    record {
      each = (f.valid, s.each);
      allocs = padded-more A (record_of p x) (records_from (next_starts p x) m) 9 f.allocs (subst (λ (t : Starts). Padded (drop 9 A) (records_from t m)) next s.allocs);
      parents = padded-more P (parents_of x) (concat_map parents_of m) n f.parents s.parents;
      protectors = padded-more R (protectors_of x) (concat_map protectors_of m) n f.protectors s.protectors;
      words = padded-more W (words_of x) (concat_map words_of m) z f.words s.words;
      codes = padded-more C (codes_of x) (concat_map codes_of m) (n * z) f.codes s.codes;
    }

-- ---- live ones not overlapping
abbrev Apart : Allocation → Allocation → Type 0
Apart a b = is_live b.state ≡ true → overlaps b.address (size b) a ≡ false

apart-dead : (a : Allocation) → is_live a.state ≡ false → (m : Memory) → All (Apart a) m
apart-dead a e [] = tt
apart-dead a e (b ∷ m) = ((λ l. rw e), apart-dead a e m)

apart-live : (a : Allocation) → (p : Starts) (m : Memory) (Z : List ℕ) → clashes_later (length m) a.address (size a) (records_from p m ++ Z) ≡ false → All (Apart a) m
unfolding clashes_later clashes records_from
apart-live a p [] Z h = tt
apart-live a p (b ∷ m) Z h =
    let o = ranges_overlap a.address (size a) b.address (size b) in
    let t = eqb (state_number b.state) 1 in
    let rest = clashes_later (length m) a.address (size a) (records_from (next_starts p b) m ++ Z) in
    let e : (t && o ≡ false) × (rest ≡ false) = or-neither (t && o) rest h in
    ((λ l. and-later (is_live a.state) o (rw (live_state b.state ∙ l) at e.0)), apart-live a (next_starts p b) m Z e.1)
  where
    and-later : (t o : Bool) → o ≡ false → t && o ≡ false
    and-later true o e = e
    and-later false o e = refl

separate : (p : Starts) (m : Memory) (Z : List ℕ) → any_clash (length m) (records_from p m ++ Z) ≡ false → Separate m
unfolding any_clash clashes_first records_from
separate p [] Z h = tt
separate p (a ∷ m) Z h =
    let t = eqb (state_number a.state) 1 in
    let later = clashes_later (length m) a.address (size a) (records_from (next_starts p a) m ++ Z) in
    let rest = any_clash (length m) (records_from (next_starts p a) m ++ Z) in
    let e : (t && later ≡ false) × (rest ≡ false) = or-neither (t && later) rest h in
    (go (is_live a.state) refl (rw (live_state a.state) at e.0), separate (next_starts p a) m Z e.1)
  where
    go : (t : Bool) → is_live a.state ≡ t → t && clashes_later (length m) a.address (size a) (records_from (next_starts p a) m ++ Z) ≡ false → All (Apart a) m
    go true l q = apart-live a (next_starts p a) m Z q
    go false l q = apart-dead a l m

-- ---- the five buffers
count-read : (k : ℕ) (A P R W C : List ℕ) → length (allocations_in k A P R W C) ≡ k
unfolding allocations_in
count-read zero A P R W C = refl
count-read (suc k) A P R W C =
    ap suc (count-read k (drop 9 A) (drop (get_or A 5 0) P) (drop (get_or A 5 0) R) (drop (get_or A 4 0) W) (drop (get_or A 5 0 * get_or A 4 0) C))

pub made-small : (k : ℕ) (A : List ℕ) → made_in k A ≤ k
unfolding made_in
made-small zero A = omega arith
made-small (suc k) A = go (eqb (get_or A 0 0) 0) (made-small k (drop 9 A))
  where
    go : (t : Bool) → made_in k (drop 9 A) ≤ k → (if t then 0 else suc (made_in k (drop 9 A))) ≤ suc k
    go true l = omega arith
    go false l = omega arith

padded-length : (b x : List ℕ) (n : ℕ) → length b ≡ n → Padded b x → length x ≤ n
padded-length b x n l (z, e) = omega (arith, simp length-append at (ap length e))

padded-pad : (b x : List ℕ) (n : ℕ) → length b ≡ n → Padded b x → b ≡ pad n x
unfolding pad
padded-pad b x n l (z, e) =
    let q : z ≡ n - length x = omega (arith, simp (length-append, length-replicate) at (ap length e)) in
    e ∙ ap (λ (k : ℕ). x ++ replicate k 0) q

pub sound : (b : Buffers) → well_formed b ≡ true → Holds (view b) b
unfolding well_formed view encode held_records held
sound b h =
    let k = made_in 128 b.allocs in
    let clash = any_clash k b.allocs in
    let bad = bad_allocations k 0 0 0 b.allocs b.parents b.protectors b.words b.codes in
    let t1 = eqb (length b.allocs) 1152 in
    let t2 = t1 && eqb (length b.parents) 1024 in
    let t3 = t2 && eqb (length b.protectors) 1024 in
    let t4 = t3 && eqb (length b.words) 4096 in
    let t5 = t4 && eqb (length b.codes) 32768 in
    let t6 = t5 && not clash in
    let h6 : t6 ≡ true = and_left t6 (not bad) h in
    let h5 : t5 ≡ true = and_left t5 (not clash) h6 in
    let h4 : t4 ≡ true = and_left t4 (eqb (length b.codes) 32768) h5 in
    let h3 : t3 ≡ true = and_left t3 (eqb (length b.words) 4096) h4 in
    let h2 : t2 ≡ true = and_left t2 (eqb (length b.protectors) 1024) h3 in
    let h1 : t1 ≡ true = and_left t1 (eqb (length b.parents) 1024) h2 in
    let la : length b.allocs ≡ 1152 = eqb-true _ _ h1 in
    let lp : length b.parents ≡ 1024 = eqb-true _ _ (and_right t1 (eqb (length b.parents) 1024) h2) in
    let lr : length b.protectors ≡ 1024 = eqb-true _ _ (and_right t2 (eqb (length b.protectors) 1024) h3) in
    let lw : length b.words ≡ 4096 = eqb-true _ _ (and_right t3 (eqb (length b.words) 4096) h4) in
    let lc : length b.codes ≡ 32768 = eqb-true _ _ (and_right t4 (eqb (length b.codes) 32768) h5) in
    let m = allocations_in k b.allocs b.parents b.protectors b.words b.codes in
    let s : Whole first_starts b.allocs b.parents b.protectors b.words b.codes m =
    whole-read k 0 0 0 b.allocs b.parents b.protectors b.words b.codes (not-true bad (and_right t6 (not bad) h)) (omega (arith, made-small 128 b.allocs)) in
    let n : length m ≡ k = count-read k b.allocs b.parents b.protectors b.words b.codes in
    let apart : any_clash (length m) (records_from first_starts m ++ replicate s.allocs.0 0) ≡ false =
    ap₂ any_clash n (sym s.allocs.1) ∙ not-true clash (and_right t5 (not clash) h6) in
    record {
      valid = record {
        each = s.each;
        separate = separate first_starts m (replicate s.allocs.0 0) apart;
        bounded = record {
          allocations = omega (arith, n, made-small 128 b.allocs);
          words = omega (arith, words-used m, padded-length b.words (concat_map words_of m) 4096 lw s.words);
          nodes = omega (arith, parents-used m, padded-length b.parents (concat_map parents_of m) 1024 lp s.parents);
          codes = omega (arith, codes-used m s.each, padded-length b.codes (concat_map codes_of m) 32768 lc s.codes);
        };
      };
      equal = λ i. record {
        allocs = padded-pad b.allocs (records_from first_starts m) 1152 la s.allocs i;
        parents = padded-pad b.parents (concat_map parents_of m) 1024 lp s.parents i;
        protectors = padded-pad b.protectors (concat_map protectors_of m) 1024 lr s.protectors i;
        words = padded-pad b.words (concat_map words_of m) 4096 lw s.words i;
        codes = padded-pad b.codes (concat_map codes_of m) 32768 lc s.codes i;
      };
    }
