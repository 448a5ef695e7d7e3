-- The invariant: the nodes from m on are linked, and what is noted, or lies above `on`, is what lies above the accessed node.
use Prim.Native.Nat.{◌-◌, ◌*◌}
use mathlib.Core.Path.{◌≡◌, refl, sym, subst, ◌∙◌}
use lib.ListN.{length, set, length-set}
use Rattle.definition.proofs.Trees.{parent-earlier}
use Rattle.visit.proofs.Plans.{linking-none, links-left, linked, Traced, traced-none, traced-up, traced-root, turn-linked, turn-traced, turn-length}
use Rattle.visit.specs.Plan.{Roomy}
use native.Mathlib.Omega.{arith}
use Rattle.visit.proofs.plan.make_plan.Goals as goal

pub loop-m-init : goal.loop-m-init
loop-m-init c = let ps = c.args.parents.now in
    (c.requires.parents.1, linking-none c.args.v.spared ps c.args.plan.now c.requires.roomy.1, traced-none ps c.requires.parents.0 c.args.v.node c.args.plan.now c.requires.roomy.1)

pub loop-m-preserved-then-m-on : goal.loop-m-preserved-then-m-on
loop-m-preserved-then-m-on c = let ps = c.args.parents.now in
    let tree = c.requires.parents.0 in
    let v = c.args.v in
    let m = c.loop-m.m in
    let plan = c.loop-m.plan in
    let new = c.link.new.plan in
    let e = c.from-parent.ensures in
    let room : Roomy ps plan = record { size = c.loop-m.auto.plan ∙ c.requires.roomy.0.size; few = c.requires.roomy.0.few } in
    let long = turn-length v.spared v.node ps tree plan new room m _ (omega arith) (omega arith) e c.link.ensures in (
      omega (arith, e, parent-earlier ps tree (m - 1) (omega arith)),
      links-left v.spared ps new (m - 1) (m - 1) (turn-linked v.spared v.node ps tree plan new room m _ (omega arith) (omega arith) e c.link.ensures c.loop-m.invariant.1),
      traced-up ps tree v.node new (m - 1) (omega (arith, long, room.size))
          (subst (Traced ps v.node new) (sym c.if-m-on.true) (turn-traced v.spared v.node ps tree plan new room m _ (omega arith) (omega arith) e c.link.ensures c.loop-m.on c.loop-m.invariant.2))
          (omega arith) _ e,
    )

pub loop-m-preserved : goal.loop-m-preserved
loop-m-preserved c = let ps = c.args.parents.now in
    let tree = c.requires.parents.0 in
    let v = c.args.v in
    let m = c.loop-m.m in
    let plan = c.loop-m.plan in
    let new = c.link.new.plan in
    let room : Roomy ps plan = record { size = c.loop-m.auto.plan ∙ c.requires.roomy.0.size; few = c.requires.roomy.0.few } in (
      omega (arith, c.loop-m.invariant.0, c.if-m-on.false),
      turn-linked v.spared v.node ps tree plan new room m _ (omega arith) (omega arith) c.from-parent.ensures c.link.ensures c.loop-m.invariant.1,
      turn-traced v.spared v.node ps tree plan new room m _ (omega arith) (omega arith) c.from-parent.ensures c.link.ensures c.loop-m.on c.loop-m.invariant.2,
    )

pub returns : goal.returns
returns c = let ps = c.args.parents.now in
    let tree = c.requires.parents.0 in
    let v = c.args.v in
    let plan = c.loop-m.plan in
    let root : c.loop-m.on ≡ 0 = omega (arith, c.loop-m.invariant.0) in
    let long : length plan ≡ 4 * length ps = c.loop-m.auto.plan ∙ c.requires.roomy.0.size in
    record {
      room = record { size = length-set plan 2 1 ∙ long; few = c.requires.roomy.0.few };
      links = linked v.spared ps tree (set plan 2 1) c.loop-m.m (omega arith) (λ q. omega (arith, c.loop-m.invariant.0)) (links-left v.spared ps plan c.loop-m.m 0 c.loop-m.invariant.1);
      path = traced-root ps tree v.node plan 0 (omega (arith, long, c.requires.parents.1)) (subst (Traced ps v.node plan) root c.loop-m.invariant.2) refl;
    }
