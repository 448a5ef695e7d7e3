-- 4, or the same pointer.
use mathlib.Core.Path.{sym, ap}
use Rattle.definition.specs.Retag.{retag_without_node}
use Rattle.answer.specs.declared.Answer.TheVariants.{Pointer}
use Rattle.answer.proofs.Replies.{provenance-back}
use Rattle.tables.proofs.Lookup.{allocs-length}
use Rattle.retag.proofs.retag_without_node.Goals as goal

pub target_of-a-requires : goal.target_of-a-requires
target_of-a-requires c = allocs-length c.requires.1

pub returns-then-never_made : goal.returns-then-never_made
unfolding retag_without_node
returns-then-never_made c = λ s h. rw (c.from.ensures, sym (c.if-never_made.ensures s.memory _ h c.target_of-a.ensures))

pub returns : goal.returns
unfolding retag_without_node
returns c = λ s h. rw (sym (c.if-never_made.ensures s.memory _ h c.target_of-a.ensures)) (ap Pointer (provenance-back _))
