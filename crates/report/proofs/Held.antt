-- The parts of the buffers that belong to an allocation are read as that allocation.
use Prim.Native.Nat.{ℕ, ◌+◌, ◌-◌, ◌*◌, ◌≤◌, ◌<◌}
use mathlib.Core.List.{List, [], ◌∷◌, append-nil}
use mathlib.Core.Path.{◌≡◌, sym, ap, ◌∙◌}
use native.Mathlib.Omega.{arith}
use lib.ListN.{length, take, drop}
use Rattle.definition.proofs.Alls.{all_append, all_map}
use Rattle.definition.proofs.Permissions.{code-small}
use Rattle.definition.specs.Memory as definition
use Rattle.definition.specs.Memory.{Memory, allocation_at, is_live, size}
use Rattle.definition.specs.Permission.{code}
use Rattle.definition.specs.Tree.{Node}
use Rattle.definition.specs.Valid.{All, ValidAllocation}
use Rattle.definition.proofs.Places.{valid-at}
use Rattle.tables.proofs.Focus.{length-held, focus-part, focus-room}
use Rattle.tables.proofs.Lookup.{state-at, kind_at, exponent-at, address-at, size-at, start-more, record_at}
use Rattle.tables.proofs.ReadBack.{liveness-back, kind-back, nodes-back, holds-parents, holds-protectors, holds-words, holds-codes, holds-records}
use Rattle.tables.proofs.Sizes.{length-parents, length-protectors, length-codes, words-fit}
use Rattle.tables.specs.Decoding.{liveness, allocation_kind, nodes_in}
use Rattle.tables.specs.Encoding.{parents_of, protectors_of, words_of, row_of, codes_of, concat_map, held}
use Rattle.tables.specs.Held.{buffers, start_of, Records, StartsAt, Holds}
use Rattle.tables.specs.declared.Allocation.{Allocation}
use Rattle.report.specs.Memory.{Nodes, allocation_of}

-- ---- where a part starts and ends
module _ (total : ℕ) (f : definition.Allocation → List ℕ) (m : Memory) (a : ℕ) (made : a < length m) (B : List ℕ) (same : B ≡ held total f m)
    (start end : ℕ) (starts : start ≡ start_of f m a) (ends : end ≡ start_of f m (a + 1)) where
  part-size : end - start ≡ length (f (allocation_at m a))
  part-size = omega (arith, starts, ends, start-more f m a made)

  pub part-ordered : start ≤ end
  part-ordered = omega (arith, starts, ends, start-more f m a made)

  pub part-within : end ≤ length B
  part-within = omega (arith, starts, ends, start-more f m a made, focus-room total f m a made, ap length same)

  pub part-is : take (end - start) (drop start B) ≡ f (allocation_at m a)
  part-is = rw (part-size, starts, same) (focus-part total f m a made)

-- ---- the codes of an allocation
rows-valid : (nodes : List Node) → All (λ (c : ℕ). c < 15) (concat_map row_of nodes)
unfolding concat_map
rows-valid [] = tt
rows-valid (x ∷ nodes) =
    all_append (λ (c : ℕ). c < 15) (row_of x) (concat_map row_of nodes) (all_map (λ (c : ℕ). c < 15) code code-small x.permissions) (rows-valid nodes)

-- ---- the allocation that its numbers are read as
module _ {m : Memory} {A : List ℕ} (h : Records m A) (a : ℕ) (made : a < length m) where
  its-valid : ValidAllocation (allocation_at m a)
  its-valid = valid-at m a h.valid made

  codes-valid : All (λ (c : ℕ). c < 15) (codes_of (allocation_at m a))
  unfolding codes_of
  codes-valid = rows-valid (allocation_at m a).nodes

  pub its-nodes : Nodes (length (words_of (allocation_at m a))) (parents_of (allocation_at m a)) (protectors_of (allocation_at m a)) (codes_of (allocation_at m a))
  its-nodes =
      let y = allocation_at m a in
      record {
        protectors = length-protectors y ∙ sym (length-parents y);
        rows = length-codes y its-valid ∙ ap (λ (n : ℕ). n * size y) (sym (length-parents y));
        valid = codes-valid;
      }

  nodes-read : nodes_in (length (parents_of (allocation_at m a))) (length (words_of (allocation_at m a))) (parents_of (allocation_at m a))
      (protectors_of (allocation_at m a)) (codes_of (allocation_at m a)) ≡ (allocation_at m a).nodes
  unfolding parents_of protectors_of codes_of
  nodes-read =
      let y = allocation_at m a in
      let P = parents_of y in
      let R = protectors_of y in
      let C = codes_of y in
      rw (length-parents y, ← append-nil P, ← append-nil R, ← append-nil C)
      (nodes-back (size y) (is_live y.state) 0 y.nodes [] [] [] its-valid.nodes)

  -- its record, as `allocation_at` reads it
  module _ {x : Allocation} (read : x ≡ record_at A a) where
    pub its-size : length (words_of (allocation_at m a)) ≡ x.size
    its-size = sym (ap (λ (r : Allocation). r.size) read ∙ size-at h a made)

    pub its-parts : allocation_of x (words_of (allocation_at m a)) (parents_of (allocation_at m a)) (protectors_of (allocation_at m a)) (codes_of (allocation_at m a))
        ≡ allocation_at m a
    its-parts =
        let y = allocation_at m a in
        let s = ap liveness (ap (λ (r : Allocation). r.state) read ∙ state-at h a made) ∙ liveness-back y.state in
        let k = ap allocation_kind (ap (λ (r : Allocation). r.kind) read ∙ kind_at h a made) ∙ kind-back y.kind in
        let e = ap (λ (r : Allocation). r.exponent) read ∙ exponent-at h a made in
        let d = ap (λ (r : Allocation). r.address) read ∙ address-at h a made in
        λ i. record { state = s i; kind = k i; exponent = e i; address = d i; words = y.words; nodes = nodes-read i }

-- ---- an allocation of buffers that hold m, as the code finds it
module _ {m : Memory} {A P R W C : List ℕ} (h : Holds m (buffers A P R W C)) (a : ℕ) (made : a < length m) {w n c w' n' c' : ℕ}
    (s : StartsAt m a w n c) (e : StartsAt m (a + 1) w' n' c') where
  -- its parts
  words_are : take (w' - w) (drop w W) ≡ words_of (allocation_at m a)
  words_are = part-is 4096 words_of m a made W (holds-words h) w w' s.words e.words

  parents-are : take (n' - n) (drop n P) ≡ parents_of (allocation_at m a)
  parents-are = part-is 1024 parents_of m a made P (holds-parents h) n n' s.parents e.parents

  protectors-are : take (n' - n) (drop n R) ≡ protectors_of (allocation_at m a)
  protectors-are = part-is 1024 protectors_of m a made R (holds-protectors h) n n' s.protectors e.protectors

  codes-are : take (c' - c) (drop c C) ≡ codes_of (allocation_at m a)
  codes-are = part-is 32768 codes_of m a made C (holds-codes h) c c' s.codes e.codes

  -- where they start and end
  pub words-within : (w ≤ w') × (w' ≤ length W)
  words-within =
      (part-ordered 4096 words_of m a made W (holds-words h) w w' s.words e.words, part-within 4096 words_of m a made W (holds-words h) w w' s.words e.words)

  pub words_small : w' ≤ 4096
  words_small = omega (arith, words-within.1, ap length (holds-words h), length-held 4096 words_of m (words-fit m h.valid))

  pub parents-within : (n ≤ n') × (n' ≤ length P)
  parents-within =
      (part-ordered 1024 parents_of m a made P (holds-parents h) n n' s.parents e.parents, part-within 1024 parents_of m a made P (holds-parents h) n n' s.parents e.parents)

  pub protectors-within : (n ≤ n') × (n' ≤ length R)
  protectors-within =
      (part-ordered 1024 protectors_of m a made R (holds-protectors h) n n' s.protectors e.protectors, part-within 1024 protectors_of m a made R (holds-protectors h) n n' s.protectors e.protectors)

  pub codes-within : (c ≤ c') × (c' ≤ length C)
  codes-within =
      (part-ordered 32768 codes_of m a made C (holds-codes h) c c' s.codes e.codes, part-within 32768 codes_of m a made C (holds-codes h) c c' s.codes e.codes)

  pub found-nodes : Nodes (length (take (w' - w) (drop w W))) (take (n' - n) (drop n P)) (take (n' - n) (drop n R)) (take (c' - c) (drop c C))
  found-nodes = rw (words_are, parents-are, protectors-are, codes-are) (its-nodes (holds-records h) a made)

  module _ {x : Allocation} (read : x ≡ record_at A a) where
    pub found-size : length (take (w' - w) (drop w W)) ≡ x.size
    found-size = ap length words_are ∙ its-size (holds-records h) a made read

    pub found-allocation : allocation_of x (take (w' - w) (drop w W)) (take (n' - n) (drop n P)) (take (n' - n) (drop n R)) (take (c' - c) (drop c C)) ≡ allocation_at m a
    found-allocation = rw (words_are, parents-are, protectors-are, codes-are) (its-parts (holds-records h) a made read)
