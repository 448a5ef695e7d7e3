-- What the contracts say of buffers that hold a memory.
use Rattle.std.specs.Prelude.{ℕ, ◌+◌, ◌-◌, ◌*◌, ◌≤◌, ◌<◌, ◌≡◌, false, List, [], ◌∷◌, ◌++◌, length, take, drop, replicate}
use Rattle.definition.specs.Notation.{sum_of}
use Rattle.definition.specs.Tree.{Node}
use Rattle.definition.specs.Memory.{Allocation, Memory, allocation_at, changed, size, node_count, code_count, exceeds_bounds, of_allocation}
use Rattle.definition.specs.Retag.{of_node}
use Rattle.definition.specs.Valid.{Valid}
use Rattle.tables.specs.declared.Starts.{Starts}
use Rattle.tables.specs.Encoding.{Buffers, protector_number, row_of, parents_of, protectors_of, words_of, codes_of, concat_map, records_from, held_records, held, encode}

abbrev pub buffers : List ℕ → List ℕ → List ℕ → List ℕ → List ℕ → Buffers
buffers A P R W C = record { allocs = A; parents = P; protectors = R; words = W; codes = C }

-- the five buffers hold m
pub record Holds (m : Memory) (b : Buffers) : Type 0 where
  pub valid : Valid m
  pub equal : b ≡ encode m

-- some memory is held: what refusal 1 tests
abbrev pub WellFormed : Buffers → Type 0
WellFormed b = (m : Memory) × Holds m b

-- the records alone are those of m
pub record Records (m : Memory) (A : List ℕ) : Type 0 where
  pub valid : Valid m
  pub allocs : A ≡ held_records m

-- where allocation a's part of the buffer of f starts
abbrev pub start_of : (Allocation → List ℕ) → Memory → ℕ → ℕ
start_of f m a = length (concat_map f (take a m))

-- w words, n nodes and c codes stand before those of allocation a
pub record StartsAt (m : Memory) (a w n c : ℕ) : Type 0 where
  pub words : w ≡ start_of words_of m a
  pub parents : n ≡ start_of parents_of m a
  pub protectors : n ≡ start_of protectors_of m a
  pub codes : c ≡ start_of codes_of m a

-- m has w words, n nodes and c codes
pub record Used (m : Memory) (w n c : ℕ) : Type 0 where
  pub words : w ≡ sum_of size m
  pub nodes : n ≡ sum_of node_count m
  pub codes : c ≡ sum_of code_count m

-- ---- an allocation more
-- there is room in m for an allocation of so many bytes
pub record AllocationFits (m : Memory) (A C : List ℕ) (bytes : ℕ) : Type 0 where
  pub records : Records m A
  pub codes : C ≡ held 32768 codes_of m
  pub room : exceeds_bounds m (of_allocation bytes) ≡ false

-- x is number n, and what changes of the buffers
pub record Appended (m : Memory) (x : Allocation) (n : ℕ) (A C : List ℕ) : Type 0 where
  pub number : n ≡ length m
  pub allocs : A ≡ held_records (m ++ (x ∷ []))
  pub codes : C ≡ held 32768 codes_of (m ++ (x ∷ []))

-- ---- a node more
-- c with row put in at q: what stood there and behind moves up, and as much falls off the end
abbrev pub inserted : {X : Type 0} → List X → ℕ → List X → List X
inserted c q row = take q c ++ (row ++ take (length c - (q + length row)) (drop q c))

-- nothing but zeros from u on
abbrev pub ZerosFrom : ℕ → List ℕ → Type 0
ZerosFrom u c = drop u c ≡ replicate (length c - u) 0

abbrev pub with_node : Node → Allocation → Allocation
with_node x a = changed a a.state a.words (a.nodes ++ (x ∷ []))

-- one node and so many codes further on
abbrev pub moved_starts : ℕ → Starts → Starts
moved_starts width p = record { words = p.words; nodes = p.nodes + 1; codes = p.codes + width }

-- from record k on stand those of m, of which the first one's parts start at p: l stands before them, z zeros behind, and what is
-- further on by a node of so many codes is no larger than a buffer
pub record RecordsBehind (k : ℕ) (l : List ℕ) (p : Starts) (m : Memory) (z width : ℕ) (A : List ℕ) : Type 0 where
  pub before : length l ≡ k * 9
  pub allocs : A ≡ l ++ (records_from p m ++ replicate z 0)
  pub whole : (k + length m) * 9 + z ≡ 1152
  pub nodes : p.nodes + sum_of node_count m + 1 ≤ 1024
  pub codes : p.codes + sum_of code_count m + width ≤ 32768

-- the buffers that a new node changes hold m's trees
pub record Trees (m : Memory) (A P R C : List ℕ) : Type 0 where
  pub allocs : A ≡ held_records m
  pub parents : P ≡ held 1024 parents_of m
  pub protectors : R ≡ held 1024 protectors_of m
  pub codes : C ≡ held 32768 codes_of m

-- there is room for a node x in allocation a of m; its parent, its protector's number and its row
pub record NodeFits (m : Memory) (a : ℕ) (x : Node) (A P R C : List ℕ) (parent protector : ℕ) (row : List ℕ) : Type 0 where
  pub valid : Valid m
  pub trees : Trees m A P R C
  pub made : a < length m
  pub is_parent : parent ≡ x.parent
  pub is_protector : protector ≡ protector_number x.protected
  pub is_row : row ≡ row_of x
  pub wide : length row ≡ size (allocation_at m a)
  pub room : exceeds_bounds m (of_node (allocation_at m a)) ≡ false

-- it goes where the next allocation's parts start, in tables of which so much is used
pub record PlaceFor (m : Memory) (a nodes codes node code : ℕ) : Type 0 where
  pub used : Used m (sum_of size m) nodes codes
  pub behind : StartsAt m (a + 1) (start_of words_of m (a + 1)) node code
