-- By whether a node is added: without one nothing changes, and with one the layout needs a mask.
use mathlib.Core.Path.{sym, ap, ◌∙◌}
use Rattle.retag.proofs.Requests.{without-node-answers}
use Rattle.definition.specs.Retag.{retag_without_node}
use Rattle.definition.specs.Memory.{ThinPointer}
use Rattle.request.specs.Fields.{request_of}
use Rattle.state.proofs.States.{records-held}
use Rattle.perform.proofs.Retagging.{left-without-node, left-with-node}
use Rattle.perform.proofs.retags.retag.Goals as goal

pub retag_without_node-requires : goal.retag_without_node-requires
retag_without_node-requires c = (c.requires.0.memory, records-held c.requires.1)

pub returns-then-adds_no_node : goal.returns-then-adds_no_node
returns-then-adds_no_node c = let a = c.args in
    λ s h.
    left-without-node h (request_of a.q a.following.now) (sym c.adds_no_node.ensures ∙ c.if-adds_no_node.true)
    (λ words. without-node-answers _ s words (c.retag_without_node.ensures s (records-held h)) ∙ ap (λ (p : ThinPointer). (retag_without_node p s).0) c.pointer.ensures)

pub returns : goal.returns
returns c = let a = c.args in
    λ s h. left-with-node s (request_of a.q a.following.now) (sym c.adds_no_node.ensures ∙ c.if-adds_no_node.false) (c.retag_with_mask.ensures s h)
