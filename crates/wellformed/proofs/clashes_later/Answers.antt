-- At j the answer is that for the records from j on.
use mathlib.Core.Path.{sym, ◌∙◌}
use native.Mathlib.Omega.{arith}
use Rattle.definition.proofs.Booleans.{or-taken, or-skip}
use Rattle.wellformed.proofs.Turns.{later-turn, later-end, first-dead, first_live}
use Rattle.wellformed.proofs.clashes_later.Goals as goal

pub returns-then-allocs-p-ne1 : goal.returns-then-allocs-p-ne1
returns-then-allocs-p-ne1 c = sym (first-dead _ c.args.i c.args.allocs.now c.if-allocs-p-ne1.true)

pub loop-j-init : goal.loop-j-init
loop-j-init c = sym (first_live _ c.args.i c.args.allocs.now c.if-allocs-p-ne1.false)

pub returns-then-clashes_at : goal.returns-then-clashes_at
returns-then-clashes_at c =
    sym (later-turn c.args.count c.loop-j.j _ _ c.args.allocs.now (omega arith) ∙ or-taken _ _ (sym c.clashes_at.ensures ∙ c.if-clashes_at.true)) ∙ c.loop-j.invariant

pub loop-j-preserved : goal.loop-j-preserved
loop-j-preserved c =
    sym (later-turn c.args.count c.loop-j.j _ _ c.args.allocs.now (omega arith) ∙ or-skip _ _ (sym c.clashes_at.ensures ∙ c.if-clashes_at.false)) ∙ c.loop-j.invariant

pub returns : goal.returns
returns c = sym (later-end c.args.count c.loop-j.j _ _ _ (omega arith)) ∙ c.loop-j.invariant
