-- One allocation's tree, and a visit of it. mem.rs: `Node`; document 01: "One access, one permission".
use Rattle.std.specs.Prelude.{ℕ, zero, suc, Bool, true, false, not, ◌||◌, List, [], ◌∷◌, ◌++◌, map, eqb, get_or, if◌then◌else◌}
use Rattle.std.proofs.Math.Option.{Option, none, some}
use Rattle.definition.specs.Notation.{◌or◌, first_refusal, map_from, filter, in_range}
use Rattle.definition.specs.Permission.{AccessKind, NodeRelation, Permission, Protected, refusal_by, next_by}
use Rattle.definition.specs.Permission.NodeRelation.{Local, Foreign}
use Rattle.definition.specs.Permission.Protected.{No}

-- a node: its parent's number (the root's is 0), its protector, and a permission for each byte of the allocation.
-- "Nodes are numbered in each allocation from 0, its root, as made.": a tree is the list of its nodes in that order
pub record Node : Type 0 where
  pub parent : ℕ
  pub protected : Protected
  pub permissions : List Permission

-- stands where no node is
abbrev pub no_node : Node
no_node = record { parent = 0; protected = No; permissions = [] }

abbrev pub node_at : List Node → ℕ → Node
node_at nodes n = get_or nodes n no_node

abbrev pub parents : List Node → List ℕ
parents nodes = map (λ x. x.parent) nodes

-- ---- who lies above whom. Arguments: the nodes' parents, the upper node, the lower node
-- `upper` is among `lower`, its parent, that one's parent, and so on, at most `steps` up
unfoldable pub is_above_within : ℕ → List ℕ → ℕ → ℕ → Bool
is_above_within zero ps upper lower = eqb lower upper
is_above_within (suc steps) ps upper lower = eqb lower upper || is_above_within steps ps upper (get_or ps lower 0)

-- `upper` is `lower` or an ancestor of it: parents are earlier, so as many steps as its number reach the root
abbrev pub is_above : List ℕ → ℕ → ℕ → Bool
is_above ps upper lower = is_above_within lower ps upper lower

-- "On the pointer's path a node is local, else foreign."
unfoldable pub relation : List ℕ → ℕ → ℕ → NodeRelation
relation ps node accessed = if is_above ps node accessed then Local else Foreign

-- the spared node, if any, and its descendants
abbrev pub is_spared : List ℕ → Option ℕ → ℕ → Bool
is_spared ps none node = false
is_spared ps (some spared) node = is_above ps spared node

-- ---- the order: "Parents are visited before children, children in the order they were made". In the paper an access meets every node of the tree, and
-- undefined behaviour at any of them is undefined behaviour; the order only decides which refusal is given
-- the descendants of n among the nodes m, m + 1, .., whose parents are listed: each child of n, followed by its own
unfoldable pub descendants : ℕ → ℕ → List ℕ → List ℕ
descendants n m [] = []
descendants n m (p ∷ ps) =
    elim (eqb p n) [
      | true ↦ m ∷ (descendants m (suc m) ps ++ descendants n (suc m) ps)
      | false ↦ descendants n (suc m) ps
    ]

-- all nodes, from the root on
unfoldable pub preorder : List ℕ → List ℕ
preorder [] = []
preorder (root ∷ ps) = 0 ∷ descendants 0 1 ps

-- those that are not spared
unfoldable pub visiting_order : List ℕ → Option ℕ → List ℕ
visiting_order ps spared = filter (λ n. not (is_spared ps spared n)) (preorder ps)

-- ---- a visit, the paper's access: every node makes its transition at every byte of it.
-- It has the accessed node; the access at each byte, if any; and the node that is spared with its descendants, if any
pub record Visit : Type 0 where
  pub accessed : ℕ
  pub access_at : ℕ → Option AccessKind
  pub spared : Option ℕ

-- one access of `len` bytes from `start` on, through a node
abbrev pub access_visit : AccessKind → ℕ → ℕ → ℕ → Visit
access_visit kind node start len =
    record { accessed = node; access_at = λ b. if in_range start len b then some kind else none; spared = none }

-- "each with its bytes ascending": the first refusal in a row whose first byte is b
unfoldable pub row_refusal : (ℕ → Option AccessKind) → NodeRelation → ℕ → List Permission → ℕ
row_refusal access_at r b [] = 0
row_refusal access_at r b (p ∷ row) = refusal_by (access_at b) r p or row_refusal access_at r (suc b) row

unfoldable pub node_refusal : Visit → List Node → ℕ → ℕ
node_refusal v nodes n = row_refusal v.access_at (relation (parents nodes) n v.accessed) 0 (node_at nodes n).permissions

-- "17 to 23: the first met in visiting order.", and 26 to 28 "met in the same visiting order" (M-100)
unfoldable pub visit_refusal : Visit → List Node → ℕ
visit_refusal v nodes = first_refusal (node_refusal v nodes) (visiting_order (parents nodes) v.spared)

-- a row after a visit, byte by byte
abbrev pub row_after : (ℕ → Option AccessKind) → NodeRelation → List Permission → List Permission
row_after access_at r row = map_from 0 (λ b p. next_by (access_at b) r p) row

-- node n after a visit
unfoldable pub node_after : Visit → List ℕ → ℕ → Node → Node
node_after v ps n x =
    record {
      parent = x.parent;
      protected = x.protected;
      permissions =
          if is_spared ps v.spared n then x.permissions
          else row_after v.access_at (relation ps n v.accessed) x.permissions;
    }

-- the tree after a visit that is not refused
unfoldable pub visited : Visit → List Node → List Node
visited v nodes = map_from 0 (node_after v (parents nodes)) nodes
