-- What is left at m tells of the whole. The number of later nodes falls.
use Prim.Native.Nat.{ℕ, ◌-◌, ◌*◌, ◌<◌}
use mathlib.Core.Path.{refl, subst}
use lib.ListN.{length}
use native.Mathlib.Omega.{arith}
use Rattle.std.proofs.lemmas.Result.{err_from_is_err_and}
use Rattle.visit.proofs.Turns.{fewer, as_long, planned-here, at-child, at-sibling, from-child, refused-here, nothing_left, child-left, sibling-left, refused-below, past}
use Rattle.visit.proofs.check_pass.+check_from.Goals as goal

pub returns-in_err-check_at : goal.returns-in_err-check_at
returns-in_err-check_at t c =
    let e = err_from_is_err_and c.from_residual.result c.from_residual.ensures.1 in
    rw (e.1, e.2) (λ ps p.
    let i = c.loop-effect.invariant ps p in
    refused-here p i.0 c.args.lent.now c.loop-effect.effect i.1 _ c.relation.ensures _ c.in_err-check_at.ensures)

pub returns-then-child-eq0 : goal.returns-then-child-eq0
returns-then-child-eq0 t c = rw c.and-effect.ensures (λ ps p.
    let i = c.loop-effect.invariant ps p in
    nothing_left p i.0 c.args.lent.now c.loop-effect.effect i.1 _ c.relation.ensures _ c.in_ok-check_at.ensures _ _ c.first_child-child.ensures c.next_sibling-sibling.ensures c.if-sibling-eq0.true c.if-child-eq0.true)

pub loop-effect-smaller-then-sibling-eq0 : goal.loop-effect-smaller-then-sibling-eq0
loop-effect-smaller-then-sibling-eq0 t c =
    let q = c.requires in
    let i = c.loop-effect.invariant q.0 q.1 in
    let child = c.first_child-child in
    omega (arith, (at-child q.1 i.0 child.result child.ensures c.if-child-eq0.false).0, (planned-here q.1 i.0).0)

pub loop-effect-preserved-then-sibling-eq0 : goal.loop-effect-preserved-then-sibling-eq0
loop-effect-preserved-then-sibling-eq0 t c = rw c.and-effect.ensures (λ ps p.
    let i = c.loop-effect.invariant ps p in
    let child = c.first_child-child in (
      (at-child p i.0 child.result child.ensures c.if-child-eq0.false).1,
      child-left p i.0 c.args.lent.now c.loop-effect.effect i.1 _ c.relation.ensures _ c.in_ok-check_at.ensures _ _ child.ensures c.next_sibling-sibling.ensures c.if-sibling-eq0.true c.if-child-eq0.false,
    ))

pub check_from-requires : goal.check_from-requires
check_from-requires t c =
    let q = c.requires in
    let i = c.loop-effect.invariant q.0 q.1 in
    let child = c.first_child-child in
    let plan = c.args.plan.now in
    let below = at-child q.1 i.0 child.result child.ensures c.if-child-ne0.true in (
      subst (λ (n : ℕ). n - 4 * child.result < t) (as_long plan)
          (subst (λ (k : ℕ). length plan - 4 * child.result < k) c.decreases
          (fewer (length plan) c.args.first c.loop-effect.m child.result i.0.later below.0 (planned-here q.1 i.0).0)),
      (q.0, from-child q.1 i.0 child.result child.ensures c.if-child-ne0.true _ refl),
    )

pub returns-in_err-check_from : goal.returns-in_err-check_from
returns-in_err-check_from t c =
    let e = err_from_is_err_and c.from_residual-in_err-check_from.result c.from_residual-in_err-check_from.ensures.1 in
    rw (e.1, e.2) (λ ps p.
    let i = c.loop-effect.invariant ps p in
    let child = c.first_child-child in
    let down = from-child p i.0 child.result child.ensures c.if-child-ne0.true _ refl in
    refused-below p i.0 c.args.lent.now c.loop-effect.effect i.1 _ c.relation.ensures _ c.in_ok-check_at.ensures _ _ child.ensures c.next_sibling-sibling.ensures c.if-sibling-eq0.false c.if-child-ne0.true _ (c.in_err-check_from.ensures ps down))

pub loop-effect-smaller-in_ok-check_from : goal.loop-effect-smaller-in_ok-check_from
loop-effect-smaller-in_ok-check_from t c =
    let q = c.requires in
    let i = c.loop-effect.invariant q.0 q.1 in
    let sibling = c.next_sibling-sibling in
    omega (arith, (at-sibling q.1 i.0 sibling.result sibling.ensures c.if-sibling-eq0.false).0, (planned-here q.1 i.0).0)

pub loop-effect-preserved-in_ok-check_from : goal.loop-effect-preserved-in_ok-check_from
loop-effect-preserved-in_ok-check_from t c = rw (c.and-effect-then-child-ne0.ensures, c.and-effect.ensures) (λ ps p.
    let i = c.loop-effect.invariant ps p in
    let child = c.first_child-child in
    let sibling = c.next_sibling-sibling in
    let down = from-child p i.0 child.result child.ensures c.if-child-ne0.true _ refl in (
      (at-sibling p i.0 sibling.result sibling.ensures c.if-sibling-eq0.false).1,
      past p i.0 c.args.lent.now c.loop-effect.effect i.1 _ c.relation.ensures _ c.in_ok-check_at.ensures _ _ child.ensures sibling.ensures c.if-sibling-eq0.false c.if-child-ne0.true _ (c.in_ok-check_from.ensures ps down),
    ))

pub loop-effect-smaller : goal.loop-effect-smaller
loop-effect-smaller t c =
    let q = c.requires in
    let i = c.loop-effect.invariant q.0 q.1 in
    let sibling = c.next_sibling-sibling in
    omega (arith, (at-sibling q.1 i.0 sibling.result sibling.ensures c.if-sibling-eq0.false).0, (planned-here q.1 i.0).0)

pub loop-effect-preserved : goal.loop-effect-preserved
loop-effect-preserved t c = rw c.and-effect.ensures (λ ps p.
    let i = c.loop-effect.invariant ps p in
    let sibling = c.next_sibling-sibling in (
      (at-sibling p i.0 sibling.result sibling.ensures c.if-sibling-eq0.false).1,
      sibling-left p i.0 c.args.lent.now c.loop-effect.effect i.1 _ c.relation.ensures _ c.in_ok-check_at.ensures _ _ c.first_child-child.ensures sibling.ensures c.if-sibling-eq0.false c.if-child-ne0.false,
    ))
