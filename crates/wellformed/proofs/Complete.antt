-- The buffers of a valid memory pass the test: each allocation stands at the front of what is left, and each test finds its part.
use Prim.Native.Nat.{ℕ, zero, suc, ◌+◌, ◌-◌, ◌^◌}
use mathlib.Core.Path.{◌≡◌, refl, sym, ap, subst, ◌∙◌}
use mathlib.Core.Bool.{Bool, true, false, ◌&&◌}
use mathlib.Core.List.{List, [], ◌∷◌, ◌++◌, append_assoc, map}
use native.Mathlib.Omega.{arith}
use borrow.Author.Tests.{eq-eqb, ne_eqb, le-ltb, lt-leb}
use lib.ListN.{length, replicate, length-append, length-map}
use lib.Seq.{take_at, drop_at, take-append_seam, drop-append_seam}
use Rattle.definition.specs.Permission.{Permission, Protected, is_protected, is_yes, code}
use Rattle.definition.specs.Tree.{Node}
use Rattle.definition.specs.Memory.{Allocation, Memory, kind_number, size, node_count, code_count, is_live, ranges_overlap, overlaps}
use Rattle.definition.specs.Valid.{All, AllFrom, Placed, ValidNode, ValidByte, ValidAllocation, Separate, Valid}
use Rattle.definition.proofs.Any.{none_any}
use Rattle.tables.specs.declared.Starts.{Starts}
use Rattle.tables.specs.Encoding.{Buffers, first_starts, next_starts, state_number, protector_number, record_of, parents_of, protectors_of, words_of, row_of, codes_of, concat_map, pad, records_from, held_records, held, encode}
use Rattle.tables.specs.Decoding.{made_in}
use Rattle.tables.specs.Held.{Records, Holds}
use Rattle.tables.proofs.Focus.{length-held}
use Rattle.tables.proofs.Sizes.{length-parents, length-protectors, length-codes, words-fit, parents-fit, protectors-fit, codes-fit}
use Rattle.tables.proofs.Records.{length-held-records}
use Rattle.tables.proofs.Lookup.{made-count, state-made, live_state}
use Rattle.wellformed.specs.WellFormed.{Decides, bad_record, bad_word, bad_place, bad_code, bad_nodes, bad_allocation, bad_starts, bad_allocation_at, bad_rest, bad_allocations, clashes, clashes_later, clashes_first, any_clash, well_formed}
use Rattle.wellformed.proofs.Tests.{only-zeros}
use Rattle.wellformed.proofs.Numbers.{state-small, kind-small, protector-small, unprotected-zero, code-passes}
use Rattle.wellformed.proofs.Sound.{sound}

-- ---- a node
row-passes : (live : Bool) (r : Protected) (row : List Permission) → (live ≡ true → All (λ p. is_protected p ≡ is_yes r) row)
    → All (λ c. bad_code live (protector_number r) c ≡ false) (map code row)
row-passes live r [] h = tt
row-passes live r (p ∷ row) h = (code-passes live r p (λ e. (h e).0), row-passes live r row (λ e. (h e).1))

place-passes : (n : ℕ) (x : Node) → Placed n x → bad_place n x.parent (protector_number x.protected) ≡ false
unfolding bad_place
place-passes zero x h = rw (eq-eqb x.parent 0 h.0, eq-eqb (protector_number x.protected) 0 (unprotected-zero x.protected h.1))
place-passes (suc n) x h =
    rw (
      ne_eqb (suc n) 0 (λ e. omega arith),
      lt-leb (suc n) x.parent (omega arith),
      le-ltb 2 (protector_number x.protected) (protector-small x.protected),
    )

nodes-pass : (live : Bool) (bytes n : ℕ) (nodes : List Node) (P R C : List ℕ) → AllFrom n (ValidNode bytes live) nodes
    → bad_nodes live bytes n (length nodes) (map (λ (x : Node). x.parent) nodes ++ P) (map (λ (x : Node). protector_number x.protected) nodes ++ R)
    (concat_map row_of nodes ++ C) ≡ false
unfolding bad_nodes concat_map
nodes-pass live bytes n [] P R C v = refl
nodes-pass live bytes n (x ∷ nodes) P R C v =
    let l : length (row_of x) ≡ bytes = length-map x.permissions code ∙ v.0.wide in
    rw (
      append_assoc (row_of x) (concat_map row_of nodes) C,
      take_at (row_of x) (concat_map row_of nodes ++ C) bytes l,
      drop_at (row_of x) (concat_map row_of nodes ++ C) bytes l,
      place-passes n x v.0.placed,
      none_any (bad_code live (protector_number x.protected)) (row_of x) (row-passes live x.protected x.permissions v.0.marked),
    )
    (nodes-pass live bytes (suc n) nodes P R C v.1)

-- ---- an allocation
words-pass : (l : List ℕ) → All ValidByte l → All (λ w. bad_word w ≡ false) l
unfolding bad_word
words-pass [] v = tt
words-pass (w ∷ l) v = (rw (lt-leb (2 ^ 32) w v.0.word, v.0.well_formed), words-pass l v.1)

record-passes : (a : Allocation) → ValidAllocation a
    → bad_record (state_number a.state) (kind_number a.kind) a.exponent a.address (size a) (node_count a) ≡ false
unfolding bad_record
record-passes a v =
    rw (
      ne_eqb (state_number a.state) 0 (state-made a.state),
      le-ltb 2 (state_number a.state) (state-small a.state),
      le-ltb 4 (kind_number a.kind) (kind-small a.kind),
      le-ltb 29 a.exponent v.exponent,
      ne_eqb a.address 0 (λ e. omega (arith, v.positive)),
      v.aligned,
      lt-leb (2 ^ 64) (a.address + size a) v.in_space,
      ne_eqb (node_count a) 0 (λ e. omega (arith, v.root)),
    )

allocation-passes : (p : Starts) (a : Allocation) (A P R W C : List ℕ) → ValidAllocation a
    → bad_allocation (record_of p a ++ A) (parents_of a ++ P) (protectors_of a ++ R) (words_of a ++ W) (codes_of a ++ C) ≡ false
unfolding bad_allocation parents_of protectors_of codes_of
allocation-passes p a A P R W C v =
    let lp : length (parents_of a ++ P) ≡ node_count a + length P = length-append (parents_of a) P ∙ omega (arith, length-parents a) in
    let lr : length (protectors_of a ++ R) ≡ node_count a + length R = length-append (protectors_of a) R ∙ omega (arith, length-protectors a) in
    let lw : length (words_of a ++ W) ≡ size a + length W = length-append (words_of a) W in
    let lc : length (codes_of a ++ C) ≡ code_count a + length C = length-append (codes_of a) C ∙ omega (arith, length-codes a v) in
    rw (
      record-passes a v,
      le-ltb (length (parents_of a ++ P)) (node_count a) (omega arith),
      le-ltb (length (protectors_of a ++ R)) (node_count a) (omega arith),
      le-ltb (length (words_of a ++ W)) (size a) (omega arith),
      le-ltb (length (codes_of a ++ C)) (code_count a) (omega arith),
      take-append_seam (words_of a) W,
      none_any bad_word (words_of a) (words-pass (words_of a) v.words),
      live_state a.state,
    )
    (nodes-pass (is_live a.state) (size a) 0 a.nodes P R C v.nodes)

starts-pass : (p : Starts) (a : Allocation) (A : List ℕ) → bad_starts p.words p.nodes p.codes (record_of p a ++ A) ≡ false
unfolding bad_starts
starts-pass p a A = rw (eq-eqb p.words p.words refl, eq-eqb p.nodes p.nodes refl, eq-eqb p.codes p.codes refl)

-- ---- all of them
allocations-pass : (q : Starts) (m : Memory) (a p r w c : ℕ) → All ValidAllocation m
    → bad_allocations (length m) q.words q.nodes q.codes (records_from q m ++ replicate a 0) (concat_map parents_of m ++ replicate p 0) (concat_map protectors_of m ++ replicate r 0)
    (concat_map words_of m ++ replicate w 0) (concat_map codes_of m ++ replicate c 0) ≡ false
unfolding bad_allocations bad_allocation_at bad_rest records_from concat_map
allocations-pass q [] a p r w c v = rw (only-zeros a, only-zeros p, only-zeros r, only-zeros w, only-zeros c)
allocations-pass q (x ∷ m) a p r w c v =
    let A : List ℕ = records_from (next_starts q x) m ++ replicate a 0 in
    let P : List ℕ = concat_map parents_of m ++ replicate p 0 in
    let R : List ℕ = concat_map protectors_of m ++ replicate r 0 in
    let W : List ℕ = concat_map words_of m ++ replicate w 0 in
    let C : List ℕ = concat_map codes_of m ++ replicate c 0 in
    rw (
      append_assoc (parents_of x) (concat_map parents_of m) (replicate p 0),
      append_assoc (protectors_of x) (concat_map protectors_of m) (replicate r 0),
      append_assoc (words_of x) (concat_map words_of m) (replicate w 0),
      append_assoc (codes_of x) (concat_map codes_of m) (replicate c 0),
      starts-pass q x A,
      allocation-passes q x A P R W C v.0,
      drop_at (parents_of x) P (node_count x) (length-parents x),
      drop_at (protectors_of x) R (node_count x) (length-protectors x),
      drop-append_seam (words_of x) W,
      drop_at (codes_of x) C (code_count x) (length-codes x v.0),
    )
    (allocations-pass (next_starts q x) m a p r w c v.1)

-- ---- live ones not overlapping
later-pass : (a : Allocation) → is_live a.state ≡ true → (p : Starts) (m : Memory) (Z : List ℕ)
    → All (λ b. is_live b.state ≡ true → overlaps b.address (size b) a ≡ false) m
    → clashes_later (length m) a.address (size a) (records_from p m ++ Z) ≡ false
unfolding clashes_later clashes records_from
later-pass a l p [] Z h = refl
later-pass a l p (b ∷ m) Z h =
    rw (live_state b.state, go (is_live b.state) (λ e. rw l at (h.0 e))) (later-pass a l (next_starts p b) m Z h.1)
  where
    go : (t : Bool) → (t ≡ true → ranges_overlap a.address (size a) b.address (size b) ≡ false)
        → t && ranges_overlap a.address (size a) b.address (size b) ≡ false
    go true q = q refl
    go false q = refl

clash-none : (p : Starts) (m : Memory) (Z : List ℕ) → Separate m → any_clash (length m) (records_from p m ++ Z) ≡ false
unfolding any_clash clashes_first records_from
clash-none p [] Z h = refl
clash-none p (a ∷ m) Z h = rw (live_state a.state, go (is_live a.state) refl) (clash-none (next_starts p a) m Z h.1)
  where
    go : (t : Bool) → is_live a.state ≡ t → t && clashes_later (length m) a.address (size a) (records_from (next_starts p a) m ++ Z) ≡ false
    go true l = later-pass a l (next_starts p a) m Z h.0
    go false l = refl

-- ---- the five buffers
module _ (m : Memory) (v : Valid m) where
  clash-held : any_clash (length m) (held_records m) ≡ false
  unfolding held_records pad
  clash-held = clash-none first_starts m (replicate (1152 - length (records_from first_starts m)) 0) v.separate

  bad-held : bad_allocations (length m) 0 0 0 (held_records m) (held 1024 parents_of m) (held 1024 protectors_of m) (held 4096 words_of m) (held 32768 codes_of m) ≡ false
  unfolding held_records held pad
  bad-held =
      allocations-pass first_starts m (1152 - length (records_from first_starts m)) (1024 - length (concat_map parents_of m)) (1024 - length (concat_map protectors_of m))
      (4096 - length (concat_map words_of m)) (32768 - length (concat_map codes_of m)) v.each

  made_held : made_in 128 (held_records m) ≡ length m
  made_held = let h : Records m (held_records m) = record { valid = v; allocs = refl } in made-count h

  encoded : well_formed (encode m) ≡ true
  unfolding well_formed encode
  encoded =
      rw (
        made_held,
        eq-eqb (length (held_records m)) 1152 (length-held-records m v.bounded.allocations),
        eq-eqb (length (held 1024 parents_of m)) 1024 (length-held 1024 parents_of m (parents-fit m v)),
        eq-eqb (length (held 1024 protectors_of m)) 1024 (length-held 1024 protectors_of m (protectors-fit m v)),
        eq-eqb (length (held 4096 words_of m)) 4096 (length-held 4096 words_of m (words-fit m v)),
        eq-eqb (length (held 32768 codes_of m)) 32768 (length-held 32768 codes_of m (codes-fit m v)),
        clash-held,
        bad-held,
      )

pub complete : (m : Memory) (b : Buffers) → Holds m b → well_formed b ≡ true
complete m b h = ap well_formed h.equal ∙ encoded m h.valid

-- the test decides
pub decides : (b : Buffers) → Decides (well_formed b) b
decides b = record { sound = λ e. (_, sound b e); complete = λ m h. complete m b h }

-- an answer that is the test's decides too
pub decided : (r : Bool) (b : Buffers) → r ≡ well_formed b → record { test : r ≡ well_formed b; exact : Decides r b }
decided r b e = record { test = e; exact = subst (λ (t : Bool). Decides t b) (sym e) (decides b) }
