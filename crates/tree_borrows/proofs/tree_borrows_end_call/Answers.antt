-- What is loaded is as good as what is lent: where the lent list has not its 64 places, it is not looked at.
use mathlib.Core.Path.{subst}
use mathlib.Core.List.{List}
use Prim.Native.Nat.{ℕ}
use Rattle.answer.specs.declared.Answer.{Answer}
use Rattle.tables.specs.Encoding.{Buffers}
use Rattle.tables.specs.Held.{buffers}
use Rattle.library_frames.proofs.LentCall.{loaded-same}
use Rattle.tree_borrows.specs.Numbers.{Replied}
use Rattle.tree_borrows.proofs.tree_borrows_end_call.Goals as goal

pub returns : goal.returns
returns c =
    let a = c.args in
    let left = c.end_call_reply.new in
    subst (λ (outcome : Answer × (Buffers × List ℕ)). Replied c.end_call_reply.result (buffers a.allocs.now a.parents.now left.protectors a.words.now left.codes, left.area) outcome)
    (loaded-same a.width a.entries.now c.load-list.result c.load-list.ensures a.count (buffers a.allocs.now a.parents.now a.protectors.now a.words.now a.codes.now) a.area.now)
    c.end_call_reply.ensures
