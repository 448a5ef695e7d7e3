-- The invariant: the nodes gone over do not prevent.
use Prim.Native.Nat.{ℕ, ◌+◌, ◌*◌, ◌≤◌, ◌<◌}
use mathlib.Core.Path.{◌≡◌, sym, subst⁻¹, ◌∙◌}
use mathlib.Core.Bool.{false}
use native.Mathlib.Decide.{ℕ_discrete}
use native.Mathlib.Omega.{arith}
use lib.ListN.{length}
use Rattle.definition.proofs.Any.{any_at, any_none, any_is_list_any}
use Rattle.definition.specs.Permission.AccessKind.{Write}
use Rattle.definition.specs.Memory.{node_prevents_deallocation}
use Rattle.definition.specs.Tree.{no_node, node_at, visited, access_visit}
use Rattle.definition.proofs.Visits.{visited-length}
use Rattle.tree.proofs.Held.{node-fits, held-count}
use Rattle.tree.proofs.Strong.{strong-prevents, other-prevents-not}
use Rattle.tree.proofs.deallocation.strong_protector_in.Goals as goal
use Rattle.tree.proofs.deallocation.strong_protector_in.Goals.{then-protectors-n-eq2+else-row_prevents_after_write, else-protectors-n-eq2}

pub overflow_mul-start : goal.overflow_mul-start
overflow_mul-start c = let ends : let a = c.args in c.loop-n.n * a.width + a.width ≤ length a.codes.now = node-fits c.requires.some.1.holds c.loop-n.n (omega arith) in
    omega (arith, ends)

pub overflow_add-end : goal.overflow_add-end
overflow_add-end c = let ends : let a = c.args in c.loop-n.n * a.width + a.width ≤ length a.codes.now = node-fits c.requires.some.1.holds c.loop-n.n (omega arith) in
    omega (arith, ends)

pub slice_bounds-row_prevents_after_write-end : goal.slice_bounds-row_prevents_after_write-end
slice_bounds-row_prevents_after_write-end c = let ends : let a = c.args in c.loop-n.n * a.width + a.width ≤ length a.codes.now = node-fits c.requires.some.1.holds c.loop-n.n (omega arith) in
    ends

pub returns-then-row_prevents_after_write : goal.returns-then-row_prevents_after_write
returns-then-row_prevents_after_write c = let width = c.args.width in
    let n = c.loop-n.n in
    λ node marks nodes held.
    let m : n < length nodes = omega (arith, held-count held.holds) in
    sym
    (any_at node_prevents_deallocation no_node (visited (access_visit Write node 0 width) nodes) n (omega (arith, visited-length (access_visit Write node 0 width) nodes))
    (strong-prevents nodes width c.args.parents.now c.args.protectors.now c.args.codes.now held node n m c.if-protectors-n-eq2.true c.row_prevents_after_write.result _
    (c.relation.ensures ∙ marks n (omega arith)) (c.row_prevents_after_write.ensures ∙ sym (any_is_list_any _ _))
    ∙ c.if-row_prevents_after_write.true))

pub loop-n-preserved : goal.loop-n-preserved
loop-n-preserved c = let width = c.args.width in
    let n = c.loop-n.n in
    λ node marks nodes held k h.
    elim (ℕ_discrete k n) [
      | yes e ↦
          subst⁻¹ (λ (j : ℕ). node_prevents_deallocation (node_at (visited (access_visit Write node 0 width) nodes) j) ≡ false) e
          (let m : n < length nodes = omega (arith, held-count held.holds) in
          elim c.if-protectors-n-eq2.branch [
            | then-protectors-n-eq2+else-row_prevents_after_write w ↦
                strong-prevents nodes width c.args.parents.now c.args.protectors.now c.args.codes.now held node n m w.if-protectors-n-eq2.true w.row_prevents_after_write.result _
                (w.relation.ensures ∙ marks n (omega arith)) (w.row_prevents_after_write.ensures ∙ sym (any_is_list_any _ _))
                ∙ w.if-row_prevents_after_write.false
            | else-protectors-n-eq2 w ↦ other-prevents-not nodes width c.args.parents.now c.args.protectors.now c.args.codes.now held node n m w.if-protectors-n-eq2.false
          ])
      | no e ↦ c.loop-n.invariant node marks nodes held k (omega arith)
    ]

pub returns : goal.returns
returns c = λ node marks nodes held.
    sym (any_none node_prevents_deallocation no_node (visited (access_visit Write node 0 c.args.width) nodes)
    (λ k h. c.loop-n.invariant node marks nodes held k (omega (arith, held-count held.holds, visited-length (access_visit Write node 0 c.args.width) nodes))))
