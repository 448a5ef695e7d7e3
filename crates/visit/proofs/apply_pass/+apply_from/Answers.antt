-- What is left at m leaves what the whole visit leaves. The number of later nodes falls.
use Prim.Native.Nat.{ℕ, ◌-◌, ◌*◌, ◌<◌}
use mathlib.Core.Path.{subst, ◌∙◌}
use lib.ListN.{length}
use native.Mathlib.Omega.{arith}
use Rattle.visit.proofs.Turns.{fewer, as_long, planned-here, at-child, at-sibling, from-child, still, changed-last, changed-child, changed-leaf, changed-below}
use Rattle.visit.proofs.apply_pass.+apply_from.Goals as goal

pub returns-then-child-eq0 : goal.returns-then-child-eq0
returns-then-child-eq0 t c =
    let child = c.first_child-child in
    let sibling = c.next_sibling-sibling in
    λ ps p.
    let i = c.loop-v.invariant.0 ps p in
    changed-last (still c.loop-v.invariant.1 p) i.0 c.args.lent.now _ c.relation.ensures _ c.apply_at.ensures child.result sibling.result child.ensures sibling.ensures c.if-sibling-eq0.true c.if-child-eq0.true
    ∙ i.1

pub loop-v-smaller-then-sibling-eq0 : goal.loop-v-smaller-then-sibling-eq0
loop-v-smaller-then-sibling-eq0 t c =
    let q = c.requires in
    let i = c.loop-v.invariant.0 q.0 q.1 in
    let child = c.first_child-child in
    omega (arith, (at-child q.1 i.0 child.result child.ensures c.if-child-eq0.false).0, (planned-here q.1 i.0).0)

pub loop-v-preserved-then-sibling-eq0 : goal.loop-v-preserved-then-sibling-eq0
loop-v-preserved-then-sibling-eq0 t c =
    let child = c.first_child-child in
    let sibling = c.next_sibling-sibling in (
      λ ps p.
          let i = c.loop-v.invariant.0 ps p in (
            (at-child p i.0 child.result child.ensures c.if-child-eq0.false).1,
            changed-child (still c.loop-v.invariant.1 p) i.0 c.args.lent.now _ c.relation.ensures _ c.apply_at.ensures child.result sibling.result child.ensures sibling.ensures c.if-sibling-eq0.true c.if-child-eq0.false
                ∙ i.1,
          ),
      c.apply_at.auto.codes ∙ c.loop-v.invariant.1,
    )

pub apply_from-requires : goal.apply_from-requires
apply_from-requires t c =
    let q = c.requires in
    let i = c.loop-v.invariant.0 q.0 q.1 in
    let child = c.first_child-child in
    let plan = c.args.plan.now in
    let below = at-child q.1 i.0 child.result child.ensures c.if-child-ne0.true in (
      subst (λ (n : ℕ). n - 4 * child.result < t) (as_long plan)
          (subst (λ (k : ℕ). length plan - 4 * child.result < k) c.decreases
          (fewer (length plan) c.args.first c.loop-v.m child.result i.0.later below.0 (planned-here q.1 i.0).0)),
      (q.0, from-child q.1 i.0 child.result child.ensures c.if-child-ne0.true _ (c.apply_at.auto.codes ∙ c.loop-v.invariant.1)),
    )

pub loop-v-smaller-then-child-ne0 : goal.loop-v-smaller-then-child-ne0
loop-v-smaller-then-child-ne0 t c =
    let q = c.requires in
    let i = c.loop-v.invariant.0 q.0 q.1 in
    let sibling = c.next_sibling-sibling in
    omega (arith, (at-sibling q.1 i.0 sibling.result sibling.ensures c.if-sibling-eq0.false).0, (planned-here q.1 i.0).0)

pub loop-v-preserved-then-child-ne0 : goal.loop-v-preserved-then-child-ne0
loop-v-preserved-then-child-ne0 t c =
    let child = c.first_child-child in
    let sibling = c.next_sibling-sibling in (
      λ ps p.
          let i = c.loop-v.invariant.0 ps p in
          let down = from-child p i.0 child.result child.ensures c.if-child-ne0.true _ (c.apply_at.auto.codes ∙ c.loop-v.invariant.1) in (
            (at-sibling p i.0 sibling.result sibling.ensures c.if-sibling-eq0.false).1,
            changed-below (still c.loop-v.invariant.1 p) i.0 c.args.lent.now _ c.relation.ensures _ c.apply_at.ensures child.result sibling.result child.ensures sibling.ensures c.if-sibling-eq0.false c.if-child-ne0.true _ (c.apply_from.ensures ps down)
                ∙ i.1,
          ),
      c.apply_from.auto.codes ∙ c.apply_at.auto.codes ∙ c.loop-v.invariant.1,
    )

pub loop-v-smaller : goal.loop-v-smaller
loop-v-smaller t c =
    let q = c.requires in
    let i = c.loop-v.invariant.0 q.0 q.1 in
    let sibling = c.next_sibling-sibling in
    omega (arith, (at-sibling q.1 i.0 sibling.result sibling.ensures c.if-sibling-eq0.false).0, (planned-here q.1 i.0).0)

pub loop-v-preserved : goal.loop-v-preserved
loop-v-preserved t c =
    let child = c.first_child-child in
    let sibling = c.next_sibling-sibling in (
      λ ps p.
          let i = c.loop-v.invariant.0 ps p in (
            (at-sibling p i.0 sibling.result sibling.ensures c.if-sibling-eq0.false).1,
            changed-leaf (still c.loop-v.invariant.1 p) i.0 c.args.lent.now _ c.relation.ensures _ c.apply_at.ensures child.result sibling.result child.ensures sibling.ensures c.if-sibling-eq0.false c.if-child-ne0.false
                ∙ i.1,
          ),
      c.apply_at.auto.codes ∙ c.loop-v.invariant.1,
    )
