-- How five lent buffers hold a memory: each is a list of numbers, one allocation's behind the other's (decision 55), and zeros behind
-- the last (decision 48). So memories that are equal have equal buffers.
use Rattle.std.specs.Prelude.{ℕ, ◌+◌, ◌-◌, List, [], ◌∷◌, ◌++◌, length, replicate}
use Rattle.definition.specs.Tree.{parents}
use Rattle.definition.specs.Memory.{Liveness, Allocation, Memory, kind_number, size, node_count, code_count}
use Rattle.definition.specs.Memory.Liveness.{Live, Dead}
use Rattle.permission.specs.Nodes.{marks, rows_of}
pub use Rattle.permission.specs.Nodes.{protector_number, row_of}
unfoldable pub use Rattle.permission.specs.Nodes.{concat_map}
use Rattle.tables.specs.declared.Starts.{Starts}

-- the five lists
pub record Buffers : Type 0 where
  pub allocs : List ℕ
  pub parents : List ℕ
  pub protectors : List ℕ
  pub words : List ℕ
  pub codes : List ℕ

-- ---- numbers
-- 0 stands for an allocation that was never made
abbrev pub state_number : Liveness → ℕ
state_number Live = 1
state_number Dead = 2

-- ---- where an allocation's parts start: the struct `Starts`
abbrev pub first_starts : Starts
first_starts = record { words = 0; nodes = 0; codes = 0 }

-- "ranges consecutive": those of the next start where its own end
abbrev pub next_starts : Starts → Allocation → Starts
next_starts p a = record { words = p.words + size a; nodes = p.nodes + node_count a; codes = p.codes + code_count a }

-- ---- an allocation's part in each buffer
-- nine numbers
abbrev pub record_of : Starts → Allocation → List ℕ
record_of p a =
    state_number a.state
    ∷ kind_number a.kind
    ∷ a.exponent
    ∷ a.address
    ∷ size a
    ∷ node_count a
    ∷ p.words
    ∷ p.nodes
    ∷ p.codes
    ∷ []

-- one for each node
unfoldable pub parents_of : Allocation → List ℕ
parents_of a = parents a.nodes

unfoldable pub protectors_of : Allocation → List ℕ
protectors_of a = marks a.nodes

-- one for each byte
abbrev pub words_of : Allocation → List ℕ
words_of a = a.words

-- a row for each node
unfoldable pub codes_of : Allocation → List ℕ
codes_of a = rows_of a.nodes

-- ---- the buffers
-- xs, and zeros up to n numbers
unfoldable pub pad : ℕ → List ℕ → List ℕ
pad n xs = xs ++ replicate (n - length xs) 0

-- the records of allocations of which the first one's parts start at p
unfoldable pub records_from : Starts → Memory → List ℕ
records_from p [] = []
records_from p (a ∷ m) = record_of p a ++ records_from (next_starts p a) m

-- the buffer of 128 records of 9 numbers
unfoldable pub held_records : Memory → List ℕ
held_records m = pad 1152 (records_from first_starts m)

-- a buffer of n numbers that holds the part f of each allocation
unfoldable pub held : ℕ → (Allocation → List ℕ) → Memory → List ℕ
held n f m = pad n (concat_map f m)

-- 128 records; 1,024 nodes; 4,096 words; 32,768 codes
unfoldable pub encode : Memory → Buffers
encode m =
    record {
      allocs = held_records m;
      parents = held 1024 parents_of m;
      protectors = held 1024 protectors_of m;
      words = held 4096 words_of m;
      codes = held 32768 codes_of m;
    }
