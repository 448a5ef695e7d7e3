-- What a new allocation and a new node do to the buffers: each buffer by its focus law.
use Prim.Native.Nat.{ℕ, suc, ◌+◌, ◌-◌, ◌*◌, ◌≤◌, ◌<◌}
use mathlib.Core.Path.{◌≡◌, refl, sym, ap, ◌∙◌}
use mathlib.Core.Bool.{false}
use mathlib.Core.List.{List, [], ◌∷◌, ◌++◌, append_assoc, append-nil, map-append}
use native.Mathlib.Nat.{suc-mul}
use native.Mathlib.Omega.{arith}
use borrow.Rule.Slice.PartMut.{put_mid}
use lib.ListN.{length, take, drop, get_or, set, replicate, length-append, length-drop, length-replicate}
use lib.Seq.{paste, take-length}
use Rattle.definition.specs.Notation.{mutate_at}
use Rattle.definition.specs.Permission.{code}
use Rattle.definition.specs.Permission.Permission.{Unprot}
use Rattle.definition.specs.Permission.PermissionUnprot.{Unique}
use Rattle.definition.specs.Tree.{Node}
use Rattle.definition.specs.Memory.{AllocationKind, Allocation, Memory, allocation_at, kind_number, size, node_count, exceeds_bounds, of_allocation, new_allocation}
use Rattle.definition.specs.Retag.{of_node}
use Rattle.definition.proofs.ValidMemory.{Room, room}
use Rattle.definition.proofs.Lists.{mutate-length}
use Rattle.definition.proofs.Parts.{map-replicate, set-mid}
use Rattle.tables.specs.declared.Starts.{Starts}
use Rattle.tables.specs.Encoding.{first_starts, next_starts, protector_number, record_of, parents_of, protectors_of, words_of, row_of, codes_of, concat_map, records_from, held_records, held, encode}
use Rattle.tables.specs.Held.{buffers, Holds, start_of, Records, StartsAt, AllocationFits, Appended, inserted, with_node, moved_starts, RecordsBehind, Trees, NodeFits, Used, ZerosFrom}
use Rattle.tables.proofs.Inserts.{held-zeros}
use Rattle.tables.proofs.Parts.{put_whole}
use Rattle.tables.proofs.Focus.{concat-append, length-held, focus-used, focus-insert, focus-append, focus-append-zeros}
use Rattle.tables.proofs.Sizes.{length-parents, words-used, parents-used, protectors-used, codes-used}
use Rattle.tables.proofs.Records.{starts_behind, starts_of, after-nodes, after-codes, after-at, starts-equal, length_before, around, held-around, records-mutate, record-append}
use Rattle.tables.proofs.Lookup.{start-more, start-all, allocs-length, nodes-at}
use Rattle.tables.proofs.ReadBack.{holds-parents, holds-protectors, holds-words, encode-of}

-- ---- an allocation more
-- its row, and what else it has is zeros
module _ (k : AllocationKind) (bytes exponent address : ℕ) where
  new_row : codes_of (new_allocation k bytes exponent address) ≡ replicate bytes 3
  unfolding codes_of concat_map new_allocation
  new_row = append-nil _ ∙ map-replicate code bytes (Unprot Unique)

  new-record : (p : Starts) → record_of p (new_allocation k bytes exponent address)
      ≡ 1 ∷ kind_number k ∷ exponent ∷ address ∷ bytes ∷ 1 ∷ p.words ∷ p.nodes ∷ p.codes ∷ []
  unfolding new_allocation
  new-record p = ap (λ (z : ℕ). 1 ∷ kind_number k ∷ exponent ∷ address ∷ z ∷ 1 ∷ p.words ∷ p.nodes ∷ p.codes ∷ []) (length-replicate bytes 0)

  new-zeros : (words_of (new_allocation k bytes exponent address) ≡ replicate bytes 0)
      × (parents_of (new_allocation k bytes exponent address) ≡ replicate 1 0)
      × (protectors_of (new_allocation k bytes exponent address) ≡ replicate 1 0)
  unfolding new_allocation parents_of protectors_of
  new-zeros = (refl, refl, refl)

module _ {m : Memory} {A C : List ℕ} {bytes : ℕ} (ok : AllocationFits m A C bytes) where
  allocation-room : Room m (of_allocation bytes)
  allocation-room = room m (of_allocation bytes) ok.room

  pub record-room : length m * 9 + 9 ≤ length A
  record-room = omega (arith, allocs-length ok.records, allocation-room.allocations)

  module _ {w n c : ℕ} (s : StartsAt m (length m) w n c) where
    new-starts : record { words = w; nodes = n; codes = c } ≡ starts_behind first_starts m
    new-starts = starts-equal m (length m) ok.records.valid s ∙ ap (starts_behind first_starts) (take-length m)

    pub append-record : (k : AllocationKind) (exponent address : ℕ)
        → paste A (length m * 9) (1 ∷ kind_number k ∷ exponent ∷ address ∷ bytes ∷ 1 ∷ w ∷ n ∷ c ∷ []) 9 ≡ held_records (m ++ (new_allocation k bytes exponent address ∷ []))
    append-record k exponent address =
        let x = new_allocation k bytes exponent address in
        let p : Starts = record { words = w; nodes = n; codes = c } in
        ap (λ (t : List ℕ). paste A (length m * 9) t 9) (sym (new-record k bytes exponent address p))
        ∙ ap (λ (t : List ℕ). paste t (length m * 9) (record_of p x) 9) ok.records.allocs
        ∙ ap (λ (q : Starts). paste (held_records m) (length m * 9) (record_of q x) 9) new-starts
        ∙ record-append m x (omega (arith, allocation-room.allocations))

    code-start : c ≡ length (concat_map codes_of m)
    code-start = s.codes ∙ start-all codes_of m

    code-room : length (concat_map codes_of m) + bytes ≤ 32768
    code-room = omega (arith, codes-used m ok.records.valid.each, allocation-room.codes)

    pub row_room : c + bytes ≤ length C
    row_room = omega (arith, code-start, code-room, ap length ok.codes, length-held 32768 codes_of m (omega (arith, code-room)))

    pub append-row : (k : AllocationKind) (exponent address : ℕ) {b : ℕ} → b ≡ bytes → put_mid c b C (replicate bytes 3)
        ≡ held 32768 codes_of (m ++ (new_allocation k bytes exponent address ∷ []))
    append-row k exponent address e =
        let x = new_allocation k bytes exponent address in
        let r : List ℕ = replicate bytes 3 in
        let lr : length r ≡ bytes = length-replicate bytes 3 in
        let cx : codes_of x ≡ r = new_row k bytes exponent address in
        put_whole C r c _ (e ∙ sym lr)
        ∙ ap (λ (t : List ℕ). paste t c r (length r)) ok.codes
        ∙ ap (λ (z : ℕ). paste (held 32768 codes_of m) z r (length r)) code-start
        ∙ ap (λ (t : List ℕ). paste (held 32768 codes_of m) (length (concat_map codes_of m)) t (length t)) (sym cx)
        ∙ focus-append 32768 codes_of m x (omega (arith, ap length cx, code-room))

-- the five buffers after it: three stay as they are
pub append-encode : (m : Memory) (A P R W C A' C' : List ℕ) (n : ℕ) (k : AllocationKind) (bytes exponent address : ℕ) → Holds m (buffers A P R W C)
    → exceeds_bounds m (of_allocation bytes) ≡ false → Appended m (new_allocation k bytes exponent address) n A' C'
    → buffers A' P R W C' ≡ encode (m ++ (new_allocation k bytes exponent address ∷ []))
append-encode m A P R W C A' C' n k bytes exponent address h e s =
    let x = new_allocation k bytes exponent address in
    let r : Room m (of_allocation bytes) = room m (of_allocation bytes) e in
    let z = new-zeros k bytes exponent address in
    let lw : length (concat_map words_of m) + bytes ≤ 4096 = omega (arith, words-used m, r.words) in
    let lp : length (concat_map parents_of m) + 1 ≤ 1024 = omega (arith, parents-used m, r.nodes) in
    let lr : length (concat_map protectors_of m) + 1 ≤ 1024 = omega (arith, protectors-used m, r.nodes) in
    encode-of (m ++ (x ∷ []))
    s.allocs
    (holds-parents h ∙ sym (focus-append-zeros 1024 parents_of m x 1 z.1 lp))
    (holds-protectors h ∙ sym (focus-append-zeros 1024 protectors_of m x 1 z.2 lr))
    (holds-words h ∙ sym (focus-append-zeros 4096 words_of m x bytes z.0 lw))
    s.codes

-- ---- a node more
module _ {m : Memory} {a : ℕ} {x : Node} {A P R C : List ℕ} {pa pr : ℕ} (row : List ℕ) (ok : NodeFits m a x A P R C pa pr row) where
  pub fits-records : Records m A
  fits-records = record { valid = ok.valid; allocs = ok.trees.allocs }

  node-room : Room m (of_node (allocation_at m a))
  node-room = room m (of_node (allocation_at m a)) ok.room

  parents-room : length (concat_map parents_of m) + 1 ≤ 1024
  parents-room = omega (arith, parents-used m, node-room.nodes)

  protectors-room : length (concat_map protectors_of m) + 1 ≤ 1024
  protectors-room = omega (arith, protectors-used m, node-room.nodes)

  codes-room : length (concat_map codes_of m) + length row ≤ 32768
  codes-room = omega (arith, codes-used m ok.valid.each, node-room.codes, ok.wide)

  pub count-in : a * 9 + 5 < length A
  count-in = omega (arith, allocs-length fits-records, ok.made, ok.valid.bounded.allocations)

  pub count_small : get_or A (a * 9 + 5) 0 ≤ 1024
  count_small = omega (arith, nodes-at fits-records a ok.made, length-parents (allocation_at m a), focus-used 1024 parents_of m a ok.made, parents-room)

  -- the records before allocation a's and its own, with a node more
  abbrev counted : List ℕ
  counted = records_from first_starts (take a m) ++ record_of (starts_of m a) (with_node x (allocation_at m a))

  -- where the parts behind its own start, as they did
  abbrev later : Starts
  later = next_starts (starts_of m a) (allocation_at m a)

  pub count-behind : {width : ℕ} → length row ≡ width → RecordsBehind (a + 1) counted later (drop (suc a) m) (1152 - length m * 9) width (set A (a * 9 + 5) (get_or A (a * 9 + 5) 0 + 1))
  count-behind is = record {
    before = simp length-append (omega (arith, length_before m a ok.made));
    allocs = new-count;
    whole = omega (arith, length-drop (suc a) m, ok.made, ok.valid.bounded.allocations);
    nodes = omega (arith, after-nodes later rest, after-nodes first_starts m, ap (λ (p : Starts). p.nodes) end, node-room.nodes);
    codes = omega (arith, after-codes later rest, after-codes first_starts m, ap (λ (p : Starts). p.codes) end, node-room.codes, ok.wide, is);
  }
    where
      y : Allocation
      y = allocation_at m a

      rest : Memory
      rest = drop (suc a) m

      end : starts_behind later rest ≡ starts_behind first_starts m
      end = after-at m a ok.made

      Z : List ℕ
      Z = records_from later (drop (suc a) m) ++ replicate (1152 - length m * 9) 0

      n : length (y.nodes ++ (x ∷ [])) ≡ get_or A (a * 9 + 5) 0 + 1
      n = length-append y.nodes (x ∷ []) ∙ omega (arith, nodes-at fits-records a ok.made)

      new-count : set A (a * 9 + 5) (get_or A (a * 9 + 5) 0 + 1) ≡ counted ++ Z
      new-count =
          ap (λ (v : ℕ). set A (a * 9 + 5) v) (sym n)
          ∙ ap (λ (t : List ℕ). set t (a * 9 + 5) (length (y.nodes ++ (x ∷ [])))) (ok.trees.allocs ∙ held-around m a ok.made)
          ∙ set-mid (records_from first_starts (take a m)) (record_of (starts_of m a) y) Z (a * 9 + 5) 5 (length (y.nodes ++ (x ∷ []))) (omega (arith, length_before m a ok.made)) (omega arith)
          ∙ sym (append_assoc (records_from first_starts (take a m)) (record_of (starts_of m a) (with_node x y)) Z)

  -- and as they do
  pub moved-records : counted ++ (records_from (moved_starts (length row) later) (drop (suc a) m) ++ replicate (1152 - length m * 9) 0) ≡ held_records (mutate_at a (with_node x) m)
  moved-records =
      let y : Allocation = allocation_at m a in
      let g : Allocation → Allocation = with_node x in
      let p : Starts = starts_of m a in
      let n : length (y.nodes ++ (x ∷ [])) ≡ suc (node_count y) = length-append y.nodes (x ∷ []) ∙ omega arith in
      let c : length (y.nodes ++ (x ∷ [])) * size y ≡ node_count y * size y + length row = ap (λ (k : ℕ). k * size y) n ∙ omega (arith, suc-mul (node_count y) (size y), ok.wide) in
      let n' : p.nodes + length (y.nodes ++ (x ∷ [])) ≡ p.nodes + node_count y + 1 = omega arith in
      let c' : p.codes + length (y.nodes ++ (x ∷ [])) * size y ≡ p.codes + node_count y * size y + length row = omega arith in
      let moved : next_starts p (g y) ≡ moved_starts (length row) later = λ i. record { words = p.words + size y; nodes = n' i; codes = c' i } in
      append_assoc (records_from first_starts (take a m)) (record_of p (g y)) _
      ∙ sym (around m a ok.made (mutate_at a g m) (record_of p (g y)) (records_from (moved_starts (length row) later) (drop (suc a) m))
      (records-mutate m a ok.made g ∙ ap (λ (q : Starts). records_from first_starts (take a m) ++ (record_of p (g y) ++ records_from q (drop (suc a) m))) moved) (mutate-length a g m))

  module _ {w n c : ℕ} (s : StartsAt m (a + 1) w n c) where
    parents-place : n ≡ start_of parents_of m a + length (parents_of (allocation_at m a))
    parents-place = s.parents ∙ start-more parents_of m a ok.made

    protectors-place : n ≡ start_of protectors_of m a + length (protectors_of (allocation_at m a))
    protectors-place = s.protectors ∙ start-more protectors_of m a ok.made

    codes-place : c ≡ start_of codes_of m a + length (codes_of (allocation_at m a))
    codes-place = s.codes ∙ start-more codes_of m a ok.made

    -- what is used, where only that moves
    module _ {tw tn tc : ℕ} (u : Used m tw tn tc) where
      parents-all : tn ≡ length (concat_map parents_of m)
      parents-all = u.nodes ∙ sym (parents-used m)

      protectors-all : tn ≡ length (concat_map protectors_of m)
      protectors-all = u.nodes ∙ sym (protectors-used m)

      codes_all : tc ≡ length (concat_map codes_of m)
      codes_all = u.codes ∙ sym (codes-used m ok.valid.each)

      pub parents-moved : ZerosFrom tn P × ((n ≤ tn) × (tn + 1 ≤ length P))
      parents-moved =
          let l = ap length ok.trees.parents ∙ length-held 1024 parents_of m (omega (arith, parents-room)) in (
            held-zeros 1024 parents_of m ok.trees.parents parents-all (omega (arith, parents-all, parents-room)),
            (omega (arith, parents-place, focus-used 1024 parents_of m a ok.made, parents-all), omega (arith, parents-all, parents-room, l)),
          )

      pub protectors-moved : ZerosFrom tn R × ((n ≤ tn) × (tn + 1 ≤ length R))
      protectors-moved =
          let l = ap length ok.trees.protectors ∙ length-held 1024 protectors_of m (omega (arith, protectors-room)) in (
            held-zeros 1024 protectors_of m ok.trees.protectors protectors-all (omega (arith, protectors-all, protectors-room)),
            (omega (arith, protectors-place, focus-used 1024 protectors_of m a ok.made, protectors-all), omega (arith, protectors-all, protectors-room, l)),
          )

      pub codes-moved : ZerosFrom tc C × ((c ≤ tc) × (tc + length row ≤ length C))
      codes-moved =
          let l = ap length ok.trees.codes ∙ length-held 32768 codes_of m (omega (arith, codes-room)) in (
            held-zeros 32768 codes_of m ok.trees.codes codes_all (omega (arith, codes_all, codes-room)),
            (omega (arith, codes-place, focus-used 32768 codes_of m a ok.made, codes_all), omega (arith, codes_all, codes-room, l)),
          )

    new-parents : inserted P n (pa ∷ []) ≡ held 1024 parents_of (mutate_at a (with_node x) m)
    unfolding parents_of
    new-parents =
        rw (ok.trees.parents, parents-place, ok.is_parent)
        (focus-insert 1024 parents_of m a ok.made (with_node x) (x.parent ∷ []) parents-room (map-append (λ (t : Node). t.parent) (allocation_at m a).nodes (x ∷ [])))

    new-protectors : inserted R n (pr ∷ []) ≡ held 1024 protectors_of (mutate_at a (with_node x) m)
    unfolding protectors_of
    new-protectors =
        rw (ok.trees.protectors, protectors-place, ok.is_protector)
        (focus-insert 1024 protectors_of m a ok.made (with_node x) (protector_number x.protected ∷ []) protectors-room
        (map-append (λ (t : Node). protector_number t.protected) (allocation_at m a).nodes (x ∷ [])))

    new-codes : inserted C c row ≡ held 32768 codes_of (mutate_at a (with_node x) m)
    unfolding codes_of concat_map
    new-codes =
        rw (ok.trees.codes, codes-place)
        (focus-insert 32768 codes_of m a ok.made (with_node x) row codes-room
        (concat-append row_of (allocation_at m a).nodes (x ∷ [])
        ∙ ap (λ (t : List ℕ). codes_of (allocation_at m a) ++ t) (append-nil (row_of x) ∙ sym ok.is_row)))

    pub new-trees : {A' : List ℕ} {width : ℕ} → length row ≡ width → A' ≡ counted ++ (records_from (moved_starts width later) (drop (suc a) m) ++ replicate (1152 - length m * 9) 0)
        → Trees (mutate_at a (with_node x) m) A' (inserted P n (pa ∷ [])) (inserted R n (pr ∷ [])) (inserted C c row)
    new-trees is e = record { allocs = e ∙ ap (λ (w : ℕ). counted ++ (records_from (moved_starts w later) (drop (suc a) m) ++ replicate (1152 - length m * 9) 0)) (sym is) ∙ moved-records; parents = new-parents; protectors = new-protectors; codes = new-codes }
