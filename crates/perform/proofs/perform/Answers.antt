-- Each arm leaves its part of the buffers as the definition says, and the rest as it was (Requests).
use Rattle.perform.proofs.Requests.{is-alone, trees, frames, asked, left-memory, left-retag, left-empty, new-closed, left-new-call, left-end-call}
use Rattle.pointer.specs.Width.{width_of}
use Rattle.perform.proofs.perform.Goals as goal

pub retag-requires : goal.retag-requires
retag-requires c = (c.requires.0, trees c.requires.1.0)

pub new_call-requires : goal.new_call-requires
new_call-requires c = let u = c.frame_used-f.ensures in record { holds_frames = (c.requires.0, (frames c.requires.1.0, new-closed c.requires.1.0 c.requires.1.1 u.0 c.in-NewCall.is)); f_bound = u.1 }

pub end_call-requires : goal.end_call-requires
end_call-requires c = record { holds_trees_and_frames = (c.requires.0, trees c.requires.1.0); f_bound = c.frame_used-f.ensures.1 }

pub empty-requires : goal.empty-requires
empty-requires c = (c.requires.0, c.requires.1.0)

pub in_memory-requires : goal.in_memory-requires
in_memory-requires c = (c.requires.0, asked c.requires.1.0 c.requires.1.1 (is-alone c.args.q.kind c.in_default.not-Retag c.in_default.not-NewCall c.in_default.not-EndCall c.in_default.not-Empty))

pub returns-in-Retag-clause-left : goal.returns-in-Retag-clause-left
returns-in-Retag-clause-left c = λ s h formed. left-retag h formed (width_of c.args.run.now.width) c.in-Retag.is (c.retag.ensures s (trees h))

pub returns-in-NewCall-clause-left : goal.returns-in-NewCall-clause-left
returns-in-NewCall-clause-left c = λ s h formed.
    left-new-call h formed c.frame_used-f.ensures.0 c.in-NewCall.is (width_of c.args.run.now.width) (c.new_call.ensures s (frames h))

pub returns-in-EndCall-clause-left : goal.returns-in-EndCall-clause-left
returns-in-EndCall-clause-left c = λ s h formed.
    left-end-call h formed c.frame_used-f.ensures.0 c.in-EndCall.is (width_of c.args.run.now.width) (c.end_call.ensures s (trees h))

pub returns-in-Empty-clause-left : goal.returns-in-Empty-clause-left
returns-in-Empty-clause-left c = λ s h formed.
    left-empty h formed (width_of c.args.run.now.width) c.in-Empty.is c.empty.ensures.left

pub returns-in_default-clause-left : goal.returns-in_default-clause-left
returns-in_default-clause-left c = λ s h formed.
    let a = c.args in
    let k = is-alone a.q.kind c.in_default.not-Retag c.in_default.not-NewCall c.in_default.not-EndCall c.in_default.not-Empty in
    left-memory h formed (width_of a.run.now.width) k (c.in_memory.ensures s (asked h formed k))
