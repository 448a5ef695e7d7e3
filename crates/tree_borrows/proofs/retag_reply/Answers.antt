-- 2 for what only C hands over, after 1; or the outcome of `retag_list`. The answer is in numbers.
use Rattle.std.proofs.Common.{ap₂, ◌||◌, rules}
use Rattle.std.proofs.Math.Path.{subst₂}
use lib.ListN.{set}
use Rattle.definition.specs.Memory.{ThinPointer}
use Rattle.tables.specs.Encoding.{Buffers}
use Rattle.tables.specs.Held.{buffers}
use Rattle.library_frames.specs.Retag as retag
use Rattle.library_frames.specs.declared.retags.RetagSettings.{RetagSettings}
use Rattle.tree_borrows.specs.Numbers.{bad_pointer}
use Rattle.tree_borrows.proofs.Replies.{or-true, true-or, bad-retag, good-retag}
use Rattle.tree_borrows.proofs.retag_reply.Goals as goal
use Rattle.tree_borrows.proofs.retag_reply.Goals.{in_default-via-in-Ok+in_default, in_default-via-in_default}

pub returns-in_default : goal.returns-in_default
returns-in_default c =
    let a = c.args in
    λ places whole.
    bad-retag a.width a.settings a.p a.layout.now a.len a.count (buffers a.allocs.now a.parents.now a.protectors.now a.words.now a.codes.now) _ c.from.ensures places whole
    (elim c.in_default.branch [
      | in_default-via-in-Ok+in_default w ↦ true-or _ w.in_default.ensures'
      | in_default-via-in_default w ↦ or-true {t = bad_pointer a.p} _ (search rules)
    ])
    c.malformed-outcome.ensures

pub returns : goal.returns
returns c =
    let a = c.args in
    let memory : Buffers = buffers a.allocs.now a.parents.now a.protectors.now a.words.now a.codes.now in
    let done = c.retag_list.result in
    let left = c.retag_list.new in
    λ places whole.
    good-retag a.width a.settings a.p a.layout.now a.len a.count memory done c.from-2.ensures places whole
    (ap₂ ◌||◌ c.in-Ok-Ok.ensures.0 c.in-Ok-Ok.ensures'.0)
    (subst₂
    (λ (t : RetagSettings) (q : ThinPointer). retag.Served a.width t q a.layout.now (retag.lent places a.count memory)
    done.answer (set places done.at done.entry) (buffers left.allocs left.parents left.protectors a.words.now left.codes))
    c.in-Ok-Ok.ensures'.1 c.in-Ok-Ok.ensures.1 (c.retag_list.ensures places whole))
