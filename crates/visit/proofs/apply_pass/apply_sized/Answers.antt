-- From the root on, all nodes are visited.
use Prim.Native.Nat.{ℕ}
use mathlib.Core.List.{List}
use mathlib.Core.Path.{ap, ◌∙◌}
use Rattle.visit.specs.Walk.{walk_after}
use Rattle.visit.proofs.Children.{nodes-root}
use Rattle.visit.proofs.Turns.{from_root}
use Rattle.visit.proofs.apply_pass.apply_sized.Goals as goal

pub returns : goal.returns
returns g c =
    c.apply_from.ensures c.args.parents.now (from_root _ c.make_plan.ensures c.requires.ready)
    ∙ ap (λ (ns : List ℕ). walk_after c.args.v c.args.parents.now c.args.lent.now ns c.args.codes.now) (nodes-root c.args.v.spared c.args.parents.now)
