-- The definition's values, of the numbers that the buffers hold for an allocation.
use Rattle.std.specs.Prelude.{ℕ, ◌*◌, ◌<◌, List, [], ◌∷◌, map, ◌≡◌, length}
use Rattle.definition.specs.Memory as definition
use Rattle.definition.specs.Output.{Text, ascii, decimal, words, line, liveness_name, kind_name, allocation_lines}
use Rattle.definition.specs.Permission.{permission}
use Rattle.definition.specs.Tree.{Node}
use Rattle.definition.specs.Valid.{All}
use Rattle.tables.specs.Decoding.{liveness, allocation_kind, protector, nodes_in}
use Rattle.tables.specs.Encoding.{Buffers}
use Rattle.tables.specs.Held.{Holds}
use Rattle.tables.specs.declared.Allocation.{Allocation}
use Rattle.report.specs.Written.{Room}

-- a node's parent, its protector's number and its row of codes
abbrev pub node_of : ℕ → ℕ → List ℕ → Node
node_of parent mark row = record { parent = parent; protected = protector mark; permissions = map permission row }

-- an allocation's nodes: a protector for each parent, and a row of `size` codes
pub record Nodes (size : ℕ) (P R C : List ℕ) : Type 0 where
  pub protectors : length R ≡ length P
  pub rows : length C ≡ length P * size
  pub valid : All (λ (c : ℕ). c < 15) C

-- an allocation's record, its words, its nodes' parents and protectors, and their rows
abbrev pub allocation_of : Allocation → List ℕ → List ℕ → List ℕ → List ℕ → definition.Allocation
allocation_of x W P R C =
    record {
      state = liveness x.state;
      kind = allocation_kind x.kind;
      exponent = x.exponent;
      address = x.address;
      words = W;
      nodes = nodes_in (length P) (length W) P R C;
    }

-- the line `a`, of the record alone
abbrev pub record_line : ℕ → Allocation → Text
record_line n x =
    line (ascii "a")
    (decimal n
    ∷ liveness_name (liveness x.state)
    ∷ kind_name (allocation_kind x.kind)
    ∷ decimal x.address
    ∷ decimal x.size
    ∷ decimal x.exponent
    ∷ [])

-- the line `d`, of the words alone
abbrev pub words_line : ℕ → List ℕ → Text
words_line n W = line (ascii "d") (decimal n ∷ words W)

-- the buffers hold m, which has an allocation a, and there is room for its lines
pub record LinesFit (m : definition.Memory) (b : Buffers) (a : ℕ) (out : List ℕ) (at : ℕ) : Type 0 where
  pub holds : Holds m b
  pub made : a < length m
  pub room : Room out at (allocation_lines a (definition.allocation_at m a))
