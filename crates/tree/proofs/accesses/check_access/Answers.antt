-- The visit is the definition's (Meaning).
use Rattle.tree.proofs.Meaning.{means-told}
use Rattle.tree.proofs.Visits.{held-ready, means-bytes}
use Rattle.tree.proofs.accesses.check_access.Goals as goal

pub check-requires : goal.check-requires
check-requires c = (held-ready _ c.requires.some.0 _ _ c.requires.some.1 c.requires.node_in_bounds.0 c.requires.node_in_bounds.1, c.requires.some.1.root)

pub returns : goal.returns
returns c = λ nodes holds. means-told _ _ _ _ (means-bytes c.args.parents.now holds.root c.args.width c.args.kind c.args.node c.args.from c.args.len _) nodes c.args.codes.now holds c.check.result c.check.ensures
