-- Buffers that hold a memory's trees, where one allocation's parts of them lie, and a visit of its tree.
use Rattle.std.specs.Prelude.{ℕ, ◌+◌, ◌*◌, ◌<◌, ◌≡◌, List, eqb, length, if◌then◌else◌}
use Rattle.definition.specs.Notation.{mutate_at}
use Rattle.definition.specs.Tree.{Visit, visited}
use Rattle.definition.specs.Memory.{Allocation, Memory, allocation_at, changed, size, node_count, code_count}
use Rattle.definition.specs.Valid.{Valid}
use Rattle.tables.specs.Encoding.{parents_of, words_of, codes_of, held}
use Rattle.tables.specs.Held.{start_of, Records, StartsAt, Trees}
use Rattle.tables.specs.declared.Allocation as lent_record
use Rattle.parts.specs.declared.Parts.{Parts}

-- ---- for requests that do not touch all buffers
-- the records, the parents and the codes are those of m
pub record HoldsTrees (m : Memory) (A P C : List ℕ) : Type 0 where
  pub records : Records m A
  pub parents : P ≡ held 1024 parents_of m
  pub codes : C ≡ held 32768 codes_of m

-- and so are the protectors: all buffers but the words
pub record HoldsMarked (m : Memory) (A P R C : List ℕ) : Type 0 where
  pub valid : Valid m
  pub trees : Trees m A P R C

-- ---- one allocation
-- where the parts lie, as a record says it
abbrev pub parts_in : lent_record.Allocation → Parts
parts_in a = record {
  nodes = record { start = a.starts.nodes; end = a.starts.nodes + a.nodes };
  codes = record { start = a.starts.codes; end = a.starts.codes + a.nodes * a.size };
  width = a.size;
}

-- allocation n was made, and its nodes and codes lie where r says
pub record PartsOf (m : Memory) (n : ℕ) (r : Parts) : Type 0 where
  pub made : n < length m
  pub starts : StartsAt m n (start_of words_of m n) r.nodes.start r.codes.start
  pub behind : r.nodes.end ≡ r.nodes.start + node_count (allocation_at m n)
  pub end : r.codes.end ≡ r.codes.start + code_count (allocation_at m n)
  pub width : r.width ≡ size (allocation_at m n)

-- the parents and the codes are those of m, and allocation n's parts lie at r
pub record TreeAt (m : Memory) (n : ℕ) (P C : List ℕ) (r : Parts) : Type 0 where
  pub valid : Valid m
  pub parents : P ≡ held 1024 parents_of m
  pub codes : C ≡ held 32768 codes_of m
  pub part : PartsOf m n r

-- an allocation whose tree was visited
abbrev pub after_visit : Visit → Allocation → Allocation
after_visit v a = changed a a.state a.words (visited v a.nodes)

-- a visit of allocation n's tree: it is refused, and the codes are as they were; or they are as the visit leaves them
pub record TreeVisited (m : Memory) (n refused : ℕ) (v : Visit) (answer : ℕ) (C : List ℕ) : Type 0 where
  pub refusal : answer ≡ refused
  pub codes : C ≡ held 32768 codes_of (if eqb refused 0 then mutate_at n (after_visit v) m else m)
