-- The bytes up to the end of the request are its words, or those that are left (Runs).
use Rattle.std.proofs.Common.{ℕ, ◌+◌, ◌-◌, ◌≡◌, min, ap, ◌∙◌, refl, arith, length, take, drop, length-take}
use Rattle.definition.specs.Run.{words_of}
use Rattle.judge.specs.Turn.{request_end}
use Rattle.judge.proofs.Decoding.{head-part, head-long}
use Rattle.judge.proofs.Runs.{request-bytes, size-most, taken}
use Rattle.judge.proofs.turn.next.Goals as goal
use Rattle.judge.proofs.turn.next.Goals.{After-min}

-- the cut is of the next request
ends : (c : After-min) → c.args.p.from + c.min.result ≡ request_end c.args.bytes.now c.args.p.from
ends c =
    let from = c.args.p.from in
    ap (λ (n : ℕ). from + n) c.min.ensures ∙ ap (λ (n : ℕ). from + min n (length c.args.bytes.now - from)) c.requires.cut_of.size

pub answer_bytes-line-requires-clause-room : goal.answer_bytes-line-requires-clause-room
answer_bytes-line-requires-clause-room c =
    let from = c.args.p.from in
    let bytes = c.args.bytes.now in
    omega (arith, ends (goal.at.answer_bytes-line-requires-clause-room c).After-min, size-most (drop from bytes), length-take (from + c.min.result - from) (drop from bytes))

pub answer_bytes-line-requires-clause-head : goal.answer_bytes-line-requires-clause-head
answer_bytes-line-requires-clause-head c = λ long.
    let from = c.args.p.from in
    let ahead = drop from c.args.bytes.now in
    let size = from + c.min.result - from in
    head-part ahead size c.args.cut.fields long (c.requires.cut_of.fields (head-long ahead size long))

pub returns-clause-taken : goal.returns-clause-taken
returns-clause-taken c = λ state h.
    let from = c.args.p.from in
    let bytes = c.args.bytes.now in
    let end = ends (goal.at.returns-clause-taken c).After-min in
    taken (ap (λ (e : ℕ). words_of (take (e - from) (drop from bytes))) end ∙ ap words_of (request-bytes bytes from (omega arith)))
    (c.answer_bytes-line.ensures.turned state h) end refl
