-- The mask that is read back from the buffer is the layout's; without one it is 3.
use Prim.Native.Nat.{ℕ}
use mathlib.Core.List.{List}
use mathlib.Core.Path.{◌≡◌, sym, ap, ◌∙◌}
use lib.ListN.{length, length-replicate, length-take, replicate, take}
use native.Mathlib.Omega.{arith}
use Rattle.retag.specs.Settings.{mask_of}
use Rattle.layout.proofs.Answers.{answers_of, answers-none}
use Rattle.request.specs.Fields.{request_of}
use Rattle.perform.proofs.Retagging.{mask-read, left-with-mask, left-without-mask}
use Rattle.perform.proofs.retags.retag_with_mask.Goals as goal

-- the buffer before it is filled
abbrev blank : List ℕ
blank = replicate 4096 0

blank-length : length blank ≡ 4096
blank-length = length-replicate {A = ℕ} 4096 0

pub slice_bounds-reborrow_entered-end : goal.slice_bounds-reborrow_entered-end
slice_bounds-reborrow_entered-end c =
    let has = answers_of c.args.following.now blank blank-length c.in-Ok.len (sym c.in-Ok.is ∙ c.freeze_mask.ensures.0) in
    omega (arith, has.bound, c.freeze_mask.auto.mask, blank-length, length-take c.in-Ok.len c.freeze_mask.new.mask)

pub slice_bounds-mask-end : goal.slice_bounds-mask-end
slice_bounds-mask-end c =
    let has = answers_of c.args.following.now blank blank-length c.in-Ok.len (sym c.in-Ok.is ∙ c.freeze_mask.ensures.0) in
    omega (arith, has.bound, c.freeze_mask.auto.mask, blank-length)

pub returns-in-Ok : goal.returns-in-Ok
returns-in-Ok c = let a = c.args in
    let n = c.in-Ok.len in
    let has = answers_of a.following.now blank blank-length n (sym c.in-Ok.is ∙ c.freeze_mask.ensures.0) in
    λ s h.
    left-with-mask s (request_of a.q a.following.now) has.mask (mask_of (take n c.freeze_mask.new.mask)) has.defined
    (ap (λ (l : List ℕ). mask_of (take n l)) c.freeze_mask.ensures.1 ∙ mask-read has) (c.reborrow_entered.ensures s a.following.now h)

pub returns-in-Err : goal.returns-in-Err
returns-in-Err c = let a = c.args in
    λ s h. rw c.from.ensures (left-without-mask h (request_of a.q a.following.now) (answers-none a.following.now blank blank-length _ (sym c.in-Err.is ∙ c.freeze_mask.ensures.0)))
