-- The next allocation's parts start where the tree's end.
use Rattle.retag.proofs.Grown.{place-for}
use Rattle.retag.proofs.node_place.Goals as goal

pub returns : goal.returns
returns c = λ m n v u t. place-for t v u
