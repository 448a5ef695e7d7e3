-- The core's answer says whom to enter; that there is room follows from the definition's valid state afterwards (Retagging).
use Prim.Native.Nat.{◌<◌}
use mathlib.Core.Path.{subst}
use native.Mathlib.Omega.{arith}
use Rattle.perform.specs.Performed.{LeftTrees}
use Rattle.definition.specs.Memory as definition
use Rattle.definition.specs.Frame.{State}
use Rattle.retag.specs.Settings.{mask_of}
use Rattle.definition.specs.Retag.{retag}
use Rattle.perform.proofs.Retagging.{can-enter, left-entered}
use Rattle.state.proofs.States.{frames-held, trees-held}
use Rattle.perform.proofs.retags.reborrow_entered.Goals as goal

pub entry_count-count-requires : goal.entry_count-count-requires
entry_count-count-requires c = record { holds_frames = (c.requires.0.frames, frames-held c.requires.1); f_bound = omega (arith, c.frame_number-f.ensures) }

pub reborrow-answer-requires : goal.reborrow-answer-requires
reborrow-answer-requires c = (c.requires.0.memory, trees-held c.requires.1)

pub enter-requires : goal.enter-requires
enter-requires c = let h = c.requires.1 in let f = c.frame_number-f.result in let inside : f < 32 = omega (arith, c.frame_number-f.ensures) in record { can_enter = (c.requires.0.frames, can-enter h c.settings-w.result (mask_of c.args.mask.now) f inside _ (c.reborrow-answer.ensures.retagged c.requires.0 f (trees-held h) (c.entry_count-count.ensures c.requires.0.frames (frames-held h)))); f_bound = inside }

pub returns : goal.returns
returns c = λ s ws h. let f = c.frame_number-f.result in let inside : f < 32 = omega (arith, c.frame_number-f.ensures) in
    let mask = mask_of c.args.mask.now in let k = c.reborrow-answer.ensures.retagged s f (trees-held h) (c.entry_count-count.ensures s.frames (frames-held h)) in
    subst (λ (o : definition.Answer × State). LeftTrees o c.reborrow-answer.result c.reborrow-answer.new.allocs c.reborrow-answer.new.parents c.reborrow-answer.new.protectors c.reborrow-answer.new.codes c.enter.new.frames)
    (λ i. retag (c.settings-w.ensures mask ws i) (c.frame_number-f.ensures i) (c.pointer-p.ensures i) s)
    (left-entered h c.settings-w.result mask f inside _ k (c.enter.ensures s.frames (frames-held h)))
