-- A memory one of whose trees was visited: it is well formed, and has as many words, nodes and codes, at the same places.
use Prim.Native.Nat.{ℕ, ◌*◌, ◌<◌}
use mathlib.Core.Path.{◌≡◌, refl, sym, ap, ◌∙◌}
use mathlib.Core.List.{List, [], ◌∷◌}
use native.Mathlib.Nat.{add-zero}
use native.Mathlib.Omega.{arith}
use lib.ListN.{length}
use Rattle.definition.specs.Notation.{sum_of, mutate_at}
use Rattle.definition.specs.Tree.{Visit, visited}
use Rattle.definition.specs.Memory.{Allocation, Memory, no_allocation, allocation_at, kind_number, size, node_count, code_count, is_live, Sizes, exceeds_bounds}
use Rattle.definition.specs.Valid.{ValidAllocation, Valid}
use Rattle.definition.proofs.Alls.{sum_kept}
use Rattle.definition.proofs.Lists.{take-mutate, mutate-length}
use Rattle.definition.proofs.Places.{mutate-here}
use Rattle.definition.proofs.Visits.{visited-length}
use Rattle.definition.proofs.ValidTrees.{visited-valid}
use Rattle.definition.proofs.ValidMemory.{Succeeds, changed-valid, same-nodes-kept}
use Rattle.tables.specs.declared.Starts.{Starts}
use Rattle.tables.specs.Encoding.{state_number, record_of, parents_of, protectors_of, codes_of, concat_map, held}
use Rattle.tables.specs.Held.{start_of, Records, Used}
use Rattle.tables.proofs.Focus.{focus-same}
use Rattle.tables.proofs.Records.{held-records-kept}
use Rattle.parts.specs.declared.Parts.{Parts}
use Rattle.parts.specs.Trees.{HoldsMarked, PartsOf, after_visit}
use Rattle.parts.proofs.Trees.{visited-parents_of, visited-protectors_of}

module _ (v : Visit) where
  nodes-kept : (a : Allocation) → node_count (after_visit v a) ≡ node_count a
  nodes-kept a = visited-length v a.nodes

  codes-kept : (a : Allocation) → code_count (after_visit v a) ≡ code_count a
  codes-kept a = ap (λ (k : ℕ). k * size a) (nodes-kept a)

  record-kept : (p : Starts) (a : Allocation) → record_of p (after_visit v a) ≡ record_of p a
  record-kept p a =
      ap (λ (k : ℕ). state_number a.state ∷ kind_number a.kind ∷ a.exponent ∷ a.address ∷ size a ∷ k ∷ p.words ∷ p.nodes ∷ p.codes ∷ []) (nodes-kept a)

  succeeds : (a : Allocation) → Succeeds 0 a (after_visit v a)
  succeeds a = record { address = refl; bytes = refl; live = λ l. l; nodes = nodes-kept a ∙ sym (add-zero (node_count a)) }

  allocation-valid : (a : Allocation) → ValidAllocation a → ValidAllocation (after_visit v a)
  allocation-valid a w = changed-valid 0 a a.state a.words (visited v a.nodes) (succeeds a) w.words (visited-valid v (size a) (is_live a.state) a.nodes w.nodes) w

  module _ (m : Memory) (n : ℕ) (made : n < length m) where
    abbrev after : Memory
    after = mutate_at n (after_visit v) m

    pub there-after : allocation_at after n ≡ after_visit v (allocation_at m n)
    there-after = mutate-here (after_visit v) no_allocation m n made

    pub made_after : n < length after
    made_after = omega (arith, mutate-length n (after_visit v) m)

    pub holds_after : {A P R C C' : List ℕ} → HoldsMarked m A P R C → C' ≡ held 32768 codes_of after → HoldsMarked after A P R C'
    holds_after h e =
        let a : Allocation = allocation_at m n in
        record {
          valid = (same-nodes-kept (after_visit v) succeeds allocation-valid n m h.valid).valid;
          trees = record {
            allocs = h.trees.allocs ∙ sym (held-records-kept (after_visit v) record-kept n m);
            parents = h.trees.parents ∙ sym (focus-same 1024 parents_of m n made (after_visit v) (visited-parents_of v a a.state a.words));
            protectors = h.trees.protectors ∙ sym (focus-same 1024 protectors_of m n made (after_visit v) (visited-protectors_of v a a.state a.words));
            codes = e;
          };
        }

    -- the records are the same
    pub records-before : Valid m → {A P R C : List ℕ} → HoldsMarked after A P R C → Records m A
    records-before w h = record { valid = w; allocs = h.trees.allocs ∙ held-records-kept (after_visit v) record-kept n m }

    start-same : (f : Allocation → List ℕ) → start_of f after n ≡ start_of f m n
    start-same f = ap (λ (l : Memory). length (concat_map f l)) (take-mutate n n (after_visit v) m (omega arith))

    pub parts-after : {r : Parts} → PartsOf m n r → PartsOf after n r
    parts-after t =
        record {
          made = made_after;
          starts = record {
            words = refl;
            parents = t.starts.parents ∙ sym (start-same parents_of);
            protectors = t.starts.protectors ∙ sym (start-same protectors_of);
            codes = t.starts.codes ∙ sym (start-same codes_of);
          };
          behind = omega (arith, t.behind, ap node_count there-after, nodes-kept (allocation_at m n));
          end = omega (arith, t.end, ap code_count there-after, codes-kept (allocation_at m n));
          width = t.width ∙ sym (ap size there-after);
        }

    -- ---- how much there is
    words_same : sum_of size after ≡ sum_of size m
    words_same = sum_kept (after_visit v) no_allocation size n m refl

    nodes-same : sum_of node_count after ≡ sum_of node_count m
    nodes-same = sum_kept (after_visit v) no_allocation node_count n m (nodes-kept (allocation_at m n))

    codes_same : sum_of code_count after ≡ sum_of code_count m
    codes_same = sum_kept (after_visit v) no_allocation code_count n m (codes-kept (allocation_at m n))

    pub used-after : {nodes codes : ℕ} → Used m (sum_of size m) nodes codes → Used after (sum_of size after) nodes codes
    used-after u = record { words = refl; nodes = u.nodes ∙ sym nodes-same; codes = u.codes ∙ sym codes_same }

    pub room_after : (more : Sizes) → exceeds_bounds after more ≡ exceeds_bounds m more
    unfolding exceeds_bounds
    room_after more = rw (mutate-length n (after_visit v) m, words_same, nodes-same, codes_same)
