-- The frame's entries, by their numbers, go to the end call; the frame is closed where nothing was refused (EndCalls).
use mathlib.Core.List.{[]}
use native.Mathlib.Omega.{arith}
use Rattle.perform.proofs.EndCalls.{numbers-made, left-accepted, left-refused}
use Rattle.state.proofs.States.{frames-held, trees-held}
use Rattle.perform.proofs.calls.end_call.Goals as goal

pub frame_numbers-numbers-requires : goal.frame_numbers-numbers-requires
frame_numbers-numbers-requires c = record { holds_frames = (c.requires.holds_trees_and_frames.0.frames, frames-held c.requires.holds_trees_and_frames.1); f_bound = c.requires.f_bound }

pub end_call_in_run-answer-requires : goal.end_call_in_run-answer-requires
end_call_in_run-answer-requires c = let h = c.requires.holds_trees_and_frames.1 in
    (c.requires.holds_trees_and_frames.0.memory, (trees-held h, numbers-made h c.args.f c.frame_numbers-numbers.result.now (c.frame_numbers-numbers.ensures c.requires.holds_trees_and_frames.0.frames (frames-held h))))

pub close_frame-requires : goal.close_frame-requires
close_frame-requires c = record { holds_frames = (c.requires.holds_trees_and_frames.0.frames, frames-held c.requires.holds_trees_and_frames.1); f_bound = c.requires.f_bound }

pub returns-then-refusal-eq0 : goal.returns-then-refusal-eq0
returns-then-refusal-eq0 c = λ s h.
    let f = c.args.f in
    let numbers = c.frame_numbers-numbers.result.now in
    let is = c.frame_numbers-numbers.ensures s.frames (frames-held h) in
    left-accepted h f numbers is (c.end_call_in_run-answer.ensures s.memory (trees-held h) (numbers-made h f numbers is))
    (omega (arith, c.refusal.ensures [], c.if-refusal-eq0.true)) (c.close_frame.ensures s.frames (frames-held h))

pub returns-else-refusal-eq0 : goal.returns-else-refusal-eq0
returns-else-refusal-eq0 c = λ s h.
    let f = c.args.f in
    let numbers = c.frame_numbers-numbers.result.now in
    let is = c.frame_numbers-numbers.ensures s.frames (frames-held h) in
    left-refused h f numbers is (c.end_call_in_run-answer.ensures s.memory (trees-held h) (numbers-made h f numbers is))
    (λ z. omega (arith, z, c.refusal.ensures [], c.if-refusal-eq0.false))
