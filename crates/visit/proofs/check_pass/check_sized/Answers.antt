-- From the root on, all nodes are visited.
use Prim.Native.Nat.{ℕ}
use mathlib.Core.List.{List}
use mathlib.Core.Path.{subst}
use Rattle.visit.specs.Walk.{ToldOf}
use Rattle.visit.proofs.Children.{nodes-root}
use Rattle.visit.proofs.Turns.{from_root}
use Rattle.visit.proofs.check_pass.check_sized.Goals as goal

pub returns : goal.returns
returns g c =
    subst (λ (ns : List ℕ). ToldOf c.args.v c.args.parents.now c.args.lent.now c.args.codes.now ns c.check_from.result) (nodes-root c.args.v.spared c.args.parents.now)
    (c.check_from.ensures c.args.parents.now (from_root _ c.make_plan.ensures c.requires.ready))
