-- At i the answer is that for the records from i on.
use mathlib.Core.Path.{sym, ◌∙◌}
use native.Mathlib.Omega.{arith}
use Rattle.definition.proofs.Booleans.{or-taken, or-skip}
use Rattle.wellformed.proofs.Turns.{clash-turn, clash-end}
use Rattle.wellformed.proofs.any_clash.Goals as goal

pub returns-then-clashes_later : goal.returns-then-clashes_later
returns-then-clashes_later c =
    sym (clash-turn c.args.count c.loop-i.i c.args.allocs.now (omega arith) ∙ or-taken _ _ (sym c.clashes_later.ensures ∙ c.if-clashes_later.true)) ∙ c.loop-i.invariant

pub loop-i-preserved : goal.loop-i-preserved
loop-i-preserved c =
    sym (clash-turn c.args.count c.loop-i.i c.args.allocs.now (omega arith) ∙ or-skip _ _ (sym c.clashes_later.ensures ∙ c.if-clashes_later.false)) ∙ c.loop-i.invariant

pub returns : goal.returns
returns c = sym (clash-end c.args.count c.loop-i.i _ (omega arith)) ∙ c.loop-i.invariant
