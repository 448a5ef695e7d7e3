-- The table is the definition's visit's (Meaning).
use mathlib.Core.Path.{◌∙◌}
use Rattle.tree.proofs.Meaning.{means-after}
use Rattle.tree.proofs.Visits.{held-ready, means-bytes}
use Rattle.tree.proofs.accesses.apply_access.Goals as goal

pub apply-requires : goal.apply-requires
apply-requires c = (held-ready _ c.requires.some.0 _ _ c.requires.some.1 c.requires.node_in_bounds.0 c.requires.node_in_bounds.1, c.requires.some.1.root)

pub returns : goal.returns
returns c = λ nodes holds.
    let a = c.args in
    c.apply.ensures ∙ means-after _ _ _ _ (means-bytes a.parents.now holds.root a.width a.kind a.node a.from a.len _) nodes a.codes.now holds
