-- The record at the front of what is left from j on is record j.
use mathlib.Core.Path.{sym, ◌∙◌}
use borrow.Author.Tests.{ne_eqb}
use Rattle.wellformed.proofs.Turns.{clash-dead, clash-live}
use Rattle.wellformed.proofs.clashes_at.Goals as goal

pub returns-then-allocs-p-eq1 : goal.returns-then-allocs-p-eq1
returns-then-allocs-p-eq1 c = c.ranges_overlap.ensures ∙ sym (clash-live c.args.address c.args.size c.args.j c.args.allocs.now c.if-allocs-p-eq1.true)

pub returns-else-allocs-p-eq1 : goal.returns-else-allocs-p-eq1
returns-else-allocs-p-eq1 c = ne_eqb _ _ c.if-allocs-p-eq1.false ∙ sym (clash-dead c.args.address c.args.size c.args.j c.args.allocs.now c.if-allocs-p-eq1.false)
