-- An allocation's tree, as the tables hold it and as `tree` asks for it.
use Prim.Native.Nat.{ℕ, ◌*◌, ◌≤◌}
use mathlib.Core.Path.{◌≡◌, refl, ap, ◌∙◌}
use mathlib.Core.List.{List}
use native.Mathlib.Omega.{arith}
use lib.ListN.{length}
use Rattle.definition.specs.Tree.{Node, no_node, parents, Visit, node_after, visited}
use Rattle.definition.specs.Memory.{Allocation, Liveness, changed, size, node_count, code_count, is_live}
use Rattle.definition.specs.Frame.{released_nodes}
use Rattle.definition.specs.Valid.{ValidNode, ValidAllocation}
use Rattle.definition.proofs.Lists.{each_map}
use Rattle.definition.proofs.Places.{all_from_at}
use Rattle.definition.proofs.Trees.{valid-tree}
use Rattle.definition.proofs.Visits.{visited-length, visited-parents}
use Rattle.definition.proofs.ValidTrees.{ValidNodes, visited-valid, released-valid, released-length, rows-wide}
use Rattle.tables.specs.Encoding.{protector_number, parents_of, protectors_of, codes_of}
use Rattle.tables.proofs.Sizes.{length-parents, length-rows}
use Rattle.tree.specs.Table.{rows_of, marks, HoldsRows, Holds, HoldsMarks, HoldsAll}

-- ---- the tables hold the nodes' rows and marks
pub codes-rows : (a : Allocation) → codes_of a ≡ rows_of a.nodes
unfolding codes_of
codes-rows a = refl

pub protectors-marks : (a : Allocation) → protectors_of a ≡ marks a.nodes
unfolding protectors_of
protectors-marks a = refl

-- ---- a well-formed allocation's tree
module _ (a : Allocation) (v : ValidAllocation a) where
  holds_rows : HoldsRows a.nodes (size a) (codes_of a)
  holds_rows = record { rows = codes-rows a; wide = rows-wide (size a) (is_live a.state) 0 a.nodes v.nodes }

  pub holds-tree : node_count a ≤ 1024 → Holds a.nodes (size a) (parents_of a) (codes_of a)
  unfolding parents_of
  holds-tree few = record {
    parents = refl;
    table = holds_rows;
    earlier = valid-tree a v;
    root = omega (arith, v.root, length-parents a);
    few = omega (arith, few, length-parents a);
  }

  pub holds-marks : HoldsMarks a.nodes (size a) (protectors_of a) (codes_of a)
  holds-marks = record { table = holds_rows; marked = protectors-marks a }

  pub holds-all : node_count a ≤ 1024 → HoldsAll a.nodes (size a) (parents_of a) (protectors_of a) (codes_of a)
  holds-all few = record {
    holds = holds-tree few;
    marked = protectors-marks a;
    root_free = (all_from_at (ValidNode (size a) (is_live a.state)) no_node a.nodes v.nodes 0 v.root).placed.1;
  }

  -- ---- a visit and a release keep the number of codes
  kept-codes : (after : List Node) → ValidNodes (size a) (is_live a.state) after → length after ≡ node_count a → length (rows_of after) ≡ code_count a
  kept-codes after w l =
      length-rows (size a) (is_live a.state) 0 after w ∙ ap (λ (k : ℕ). k * size a) l

  pub visited-codes : (w : Visit) → length (rows_of (visited w a.nodes)) ≡ code_count a
  visited-codes w = kept-codes (visited w a.nodes) (visited-valid w (size a) (is_live a.state) a.nodes v.nodes) (visited-length w a.nodes)

  pub released-codes : (n : ℕ) → length (rows_of (released_nodes a.state n a.nodes)) ≡ code_count a
  released-codes n =
      kept-codes (released_nodes a.state n a.nodes) (released-valid n a.state (size a) a.nodes v.nodes) (released-length n a.state a.nodes)

-- ---- a visit keeps the parents and the protectors
module _ (v : Visit) (a : Allocation) (state : Liveness) (words : List ℕ) where
  pub visited-parents_of : parents_of (changed a state words (visited v a.nodes)) ≡ parents_of a
  unfolding parents_of
  visited-parents_of = visited-parents v a.nodes

  pub visited-protectors_of : protectors_of (changed a state words (visited v a.nodes)) ≡ protectors_of a
  unfolding protectors_of visited node_after
  visited-protectors_of = each_map (λ (x : Node). protector_number x.protected) (node_after v (parents a.nodes)) (λ n x. refl) 0 a.nodes
