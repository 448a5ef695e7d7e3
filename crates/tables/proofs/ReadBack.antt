-- What the buffers of a valid memory are read as is that memory; so no two valid memories have the same buffers.
use Prim.Native.Nat.{ℕ, suc, ◌-◌}
use mathlib.Core.Path.{◌≡◌, refl, sym, ap, ap₂, ◌∙◌}
use mathlib.Core.Bool.{Bool}
use mathlib.Core.List.{List, [], ◌∷◌, ◌++◌, append_assoc, map}
use native.Mathlib.Omega.{arith}
use lib.ListN.{length, replicate, length-map}
use lib.Seq.{take_at, drop_at, take-append_seam, drop-append_seam}
use Rattle.definition.specs.Notation.{sum_of}
use Rattle.definition.specs.Permission.{Permission, Protected, code, permission}
use Rattle.definition.specs.Permission.Protected.{No, Weak, Strong}
use Rattle.definition.specs.Tree.{Node}
use Rattle.definition.specs.Memory.{Liveness, AllocationKind, Memory, kind_number, size, node_count, code_count}
use Rattle.definition.specs.Memory.Liveness.{Live, Dead}
use Rattle.definition.specs.Memory.AllocationKind.{Stack, Heap, Global, Function, VTable}
use Rattle.definition.specs.Valid.{All, AllFrom, ValidNode, ValidAllocation, Valid}
use Rattle.definition.proofs.Permissions.{permission-code}
use Rattle.tables.specs.declared.Starts.{Starts}
use Rattle.tables.specs.Encoding.{Buffers, first_starts, next_starts, state_number, protector_number, parents_of, protectors_of, words_of, row_of, codes_of, concat_map, pad, records_from, held_records, held, encode}
use Rattle.tables.specs.Decoding.{liveness, allocation_kind, protector, nodes_in, allocations_in, view}
use Rattle.tables.specs.Held.{buffers, Records, Holds}
use Rattle.tables.proofs.Sizes.{length-parents, length-protectors, length-codes}
use Rattle.tables.proofs.Lookup.{made-count}

-- ---- numbers
pub liveness-back : (s : Liveness) → liveness (state_number s) ≡ s
liveness-back Live = refl
liveness-back Dead = refl

pub kind-back : (k : AllocationKind) → allocation_kind (kind_number k) ≡ k
kind-back Stack = refl
kind-back Heap = refl
kind-back Global = refl
kind-back Function = refl
kind-back VTable = refl

pub protector-back : (p : Protected) → protector (protector_number p) ≡ p
protector-back No = refl
protector-back Weak = refl
protector-back Strong = refl

pub row_back : (row : List Permission) → map permission (map code row) ≡ row
row_back [] = refl
row_back (p ∷ row) = ap₂ ◌∷◌ (permission-code p) (row_back row)

-- ---- the nodes of one allocation, with other numbers behind
pub nodes-back : (bytes : ℕ) (live : Bool) (n : ℕ) (nodes : List Node) (P R C : List ℕ) → AllFrom n (ValidNode bytes live) nodes
    → nodes_in (length nodes) bytes (map (λ (x : Node). x.parent) nodes ++ P) (map (λ (x : Node). protector_number x.protected) nodes ++ R)
    (concat_map row_of nodes ++ C) ≡ nodes
unfolding nodes_in concat_map
nodes-back bytes live n [] P R C v = refl
nodes-back bytes live n (x ∷ nodes) P R C v =
    let l : length (row_of x) ≡ bytes = length-map x.permissions code ∙ v.0.wide in
    rw (
      append_assoc (row_of x) (concat_map row_of nodes) C,
      take_at (row_of x) (concat_map row_of nodes ++ C) bytes l,
      drop_at (row_of x) (concat_map row_of nodes ++ C) bytes l,
      row_back x.permissions,
      protector-back x.protected,
    )
    (ap (λ (t : List Node). x ∷ t) (nodes-back bytes live (suc n) nodes P R C v.1))

-- ---- all allocations
allocations-back : (p : Starts) (m : Memory) (A P R W C : List ℕ) → All ValidAllocation m
    → allocations_in (length m) (records_from p m ++ A) (concat_map parents_of m ++ P) (concat_map protectors_of m ++ R)
    (concat_map words_of m ++ W) (concat_map codes_of m ++ C) ≡ m
unfolding allocations_in records_from concat_map parents_of protectors_of codes_of
allocations-back p [] A P R W C v = refl
allocations-back p (a ∷ m) A P R W C v =
    rw (
      append_assoc (parents_of a) (concat_map parents_of m) P,
      append_assoc (protectors_of a) (concat_map protectors_of m) R,
      append_assoc (words_of a) (concat_map words_of m) W,
      append_assoc (codes_of a) (concat_map codes_of m) C,
      take-append_seam (words_of a) (concat_map words_of m ++ W),
      drop-append_seam (words_of a) (concat_map words_of m ++ W),
      drop_at (parents_of a) (concat_map parents_of m ++ P) (node_count a) (length-parents a),
      drop_at (protectors_of a) (concat_map protectors_of m ++ R) (node_count a) (length-protectors a),
      drop_at (codes_of a) (concat_map codes_of m ++ C) (code_count a) (length-codes a v.0),
      liveness-back a.state,
      kind-back a.kind,
      allocations-back (next_starts p a) m A P R W C v.1,
    )
    (ap (λ (ns : List Node). record { state = a.state; kind = a.kind; exponent = a.exponent; address = a.address; words = a.words; nodes = ns } ∷ m)
    (nodes-back (size a) _ 0 a.nodes (concat_map parents_of m ++ P) (concat_map protectors_of m ++ R) (concat_map codes_of m ++ C) v.0.nodes))

pub view-encode : (m : Memory) → Valid m → view (encode m) ≡ m
unfolding view encode held_records held pad
view-encode m v =
    let h : Records m (held_records m) = record { valid = v; allocs = refl } in
    rw (made-count h)
    (allocations-back first_starts m (replicate (1152 - length (records_from first_starts m)) 0) (replicate (1024 - length (concat_map parents_of m)) 0)
    (replicate (1024 - length (concat_map protectors_of m)) 0) (replicate (4096 - length (concat_map words_of m)) 0)
    (replicate (32768 - length (concat_map codes_of m)) 0) v.each)

-- a memory that is held is the one that is read
pub view-held : (m : Memory) (b : Buffers) → Holds m b → view b ≡ m
view-held m b h = ap view h.equal ∙ view-encode m h.valid

-- buffers hold at most one memory
pub holds-one : (m m' : Memory) (b : Buffers) → Holds m b → Holds m' b → m ≡ m'
holds-one m m' b h h' = sym (view-held m b h) ∙ view-held m' b h'

pub encode_injective : (m m' : Memory) → Valid m → Valid m' → encode m ≡ encode m' → m ≡ m'
encode_injective m m' v v' e = holds-one m m' (encode m) (record { valid = v; equal = refl }) (record { valid = v'; equal = e })

-- ---- the parts of `Holds`
module _ {m : Memory} {b : Buffers} (h : Holds m b) where
  pub holds-allocs : b.allocs ≡ held_records m
  unfolding encode
  holds-allocs = ap (λ (t : Buffers). t.allocs) h.equal

  pub holds-parents : b.parents ≡ held 1024 parents_of m
  unfolding encode
  holds-parents = ap (λ (t : Buffers). t.parents) h.equal

  pub holds-protectors : b.protectors ≡ held 1024 protectors_of m
  unfolding encode
  holds-protectors = ap (λ (t : Buffers). t.protectors) h.equal

  pub holds-words : b.words ≡ held 4096 words_of m
  unfolding encode
  holds-words = ap (λ (t : Buffers). t.words) h.equal

  pub holds-codes : b.codes ≡ held 32768 codes_of m
  unfolding encode
  holds-codes = ap (λ (t : Buffers). t.codes) h.equal

  pub holds-records : Records m b.allocs
  holds-records = record { valid = h.valid; allocs = holds-allocs }

-- and `encode`'s, put together
pub encode-of : (m : Memory) {A P R W C : List ℕ} → A ≡ held_records m → P ≡ held 1024 parents_of m → R ≡ held 1024 protectors_of m
    → W ≡ held 4096 words_of m → C ≡ held 32768 codes_of m → buffers A P R W C ≡ encode m
unfolding encode
encode-of m a p r w c = λ i. record { allocs = a i; parents = p i; protectors = r i; words = w i; codes = c i }

-- ---- the empty memory is all zeros
pub zeros-hold : Holds []
    (buffers (replicate 1152 0) (replicate 1024 0) (replicate 1024 0) (replicate 4096 0) (replicate 32768 0))
unfolding held_records records_from held pad concat_map sum_of
zeros-hold = record {
  valid = record {
    each = tt;
    separate = tt;
    bounded = record { allocations = omega arith; words = omega arith; nodes = omega arith; codes = omega arith };
  };
  equal = encode-of [] refl refl refl refl refl;
}
