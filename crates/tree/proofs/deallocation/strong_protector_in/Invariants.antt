-- The invariant: the nodes gone over do not prevent.
use Prim.Native.Nat.{ℕ, ◌<◌}
use mathlib.Core.Path.{◌≡◌}
use mathlib.Core.List.{List}
use mathlib.Core.Bool.{false}
use Rattle.definition.specs.Permission.AccessKind.{Write}
use Rattle.definition.specs.Memory.{node_prevents_deallocation}
use Rattle.definition.specs.Tree.{Node, node_at, visited, access_visit}
use Rattle.visit.specs.Plan.{TellsPath}
use Rattle.tree.specs.Table.{HoldsAll}
use Rattle.tree.proofs.deallocation.strong_protector_in.Given as goal

abbrev pub invariant-loop-n : goal.invariant-loop-n
invariant-loop-n l = (node : ℕ) → TellsPath node l.parents l.plan → (nodes : List Node) → HoldsAll nodes l.width l.parents l.protectors l.codes → (k : ℕ) → k < l.n → node_prevents_deallocation (node_at (visited (access_visit Write node 0 l.width) nodes) k) ≡ false
