-- At n the answer is that for the nodes from n on.
use mathlib.Core.Path.{sym, ◌∙◌}
use native.Mathlib.Omega.{arith}
use Rattle.definition.proofs.Booleans.{or-taken, or-skip}
use Rattle.wellformed.proofs.Turns.{nodes-turn, nodes-end}
use Rattle.wellformed.proofs.bad_nodes.Goals as goal

pub returns-then-bad_node : goal.returns-then-bad_node
returns-then-bad_node c = let a = c.args in
    sym (nodes-turn a.live a.size a.count c.loop-n.n a.parents.now a.protectors.now a.codes.now (omega arith) ∙ or-taken _ _ (sym c.bad_node.ensures ∙ c.if-bad_node.true))
    ∙ c.loop-n.invariant

pub loop-n-preserved : goal.loop-n-preserved
loop-n-preserved c = let a = c.args in
    sym (nodes-turn a.live a.size a.count c.loop-n.n a.parents.now a.protectors.now a.codes.now (omega arith) ∙ or-skip _ _ (sym c.bad_node.ensures ∙ c.if-bad_node.false))
    ∙ c.loop-n.invariant

pub returns : goal.returns
returns c = let a = c.args in
    sym (nodes-end a.live a.size a.count c.loop-n.n _ _ _ (omega arith)) ∙ c.loop-n.invariant
