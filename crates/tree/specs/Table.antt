-- How tables hold one allocation's tree: for each node its parent, its mark, and a row of `width` codes.
use Rattle.std.specs.Prelude.{ℕ, ◌≤◌, ◌<◌, ◌≡◌, false, List, length}
use Rattle.definition.specs.Permission.{is_yes}
use Rattle.definition.specs.Tree.{Node, node_at}
use Rattle.definition.specs.Tree as tree
use Rattle.definition.specs.Valid.{All}
use Rattle.definition.proofs.Trees.{Parents}
pub use Rattle.permission.specs.Nodes.{protector_number, marks, rows_of}
unfoldable pub use Rattle.permission.specs.Nodes.{concat_map}

-- the table of codes holds these nodes' rows
pub record HoldsRows (nodes : List Node) (width : ℕ) (codes : List ℕ) : Type 0 where
  pub rows : codes ≡ rows_of nodes
  pub wide : All (λ x. length x.permissions ≡ width) nodes

-- the tables of parents and codes hold these nodes, at least one and at most 1,024
pub record Holds (nodes : List Node) (width : ℕ) (ps codes : List ℕ) : Type 0 where
  pub parents : ps ≡ tree.parents nodes
  pub table : HoldsRows nodes width codes
  pub earlier : Parents ps
  pub root : 0 < length ps
  pub few : length ps ≤ 1024

-- the tables of marks and codes hold these nodes
pub record HoldsMarks (nodes : List Node) (width : ℕ) (protectors codes : List ℕ) : Type 0 where
  pub table : HoldsRows nodes width codes
  pub marked : protectors ≡ marks nodes

-- all three do; the root has no protector
pub record HoldsAll (nodes : List Node) (width : ℕ) (ps protectors codes : List ℕ) : Type 0 where
  pub holds : Holds nodes width ps codes
  pub marked : protectors ≡ marks nodes
  pub root_free : is_yes (node_at nodes 0).protected ≡ false

-- the tables hold some nodes; and what is said of all nodes that they hold
abbrev pub Some : (List Node → Type 0) → Type 0
Some Held = (nodes : List Node) × Held nodes

abbrev pub Each : (List Node → Type 0) → (List Node → Type 0) → Type 0
Each Held Said = (nodes : List Node) → Held nodes → Said nodes
