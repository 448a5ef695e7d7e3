-- A turn reads, or performs a request that is at hand (Turns).
use Rattle.std.proofs.Common.{ℕ, List, ◌≡◌, refl, sym, ap, ◌∙◌, arith, length}
use mathlib.Core.Path.{subst⁻¹}
use Rattle.std.proofs.lemmas.Result.{IfOk-weaker}
use lib.Seq.{length-take-le}
use Rattle.stream.specs.Stream.{CutOf}
use Rattle.verdict.specs.Progress.{lacks_some, lacks, at_hand}
use Rattle.verdict.proofs.Bytes.{some-request, same_bytes, lacks-room}
use Rattle.verdict.proofs.Turns.{made-read, made-next}
use Rattle.verdict.proofs.turn.Goals as goal
use Rattle.verdict.proofs.turn.Goals.{After-lacks}

-- the test is of the bytes at hand
told : (c : After-lacks) → let a = c.args in c.lacks.result ≡ lacks (at_hand a.p a.input.now) a.p.ended
told c = c.lacks.ensures ∙ ap (λ (size : ℕ). lacks_some size (length (at_hand c.args.p c.args.input.now)) c.args.p.ended) c.next_cut-cut.ensures.size

pub read_more-requires-clause-room : goal.read_more-requires-clause-room
read_more-requires-clause-room c =
    let lacking = sym (told (goal.at.read_more-requires-clause-room c).After-lacks) ∙ c.if-lacks.true in
    omega (arith, lacks-room c.args.p c.args.input.now c.requires.came.1.1.ready lacking)

pub returns-then-lacks-clause-made : goal.returns-then-lacks-clause-made
returns-then-lacks-clause-made c = λ bytes written k.
    let lacking = sym (told (goal.at.returns-then-lacks-clause-made c).After-lacks) ∙ c.if-lacks.true in
    IfOk-weaker c.read_more.result _ _ (λ r h. made-read k lacking h) c.read_more.ensures

pub next-next-requires-clause-holds : goal.next-next-requires-clause-holds
next-next-requires-clause-holds c = let h = c.requires.came.1.1.performing _ (λ _. refl) in (h.state, h.holds)

pub next-next-requires-clause-inside : goal.next-next-requires-clause-inside
next-next-requires-clause-inside c =
    let p = c.args.p in
    let enough = sym (told (goal.at.next-next-requires-clause-inside c).After-lacks) ∙ c.if-lacks.false in
    omega (arith, some-request p c.args.input.now c.requires.goes_on enough, length-take-le p.end c.args.input.now c.requires.came.1.1.ready.filled)

pub next-next-requires-clause-cut_of : goal.next-next-requires-clause-cut_of
next-next-requires-clause-cut_of c =
    let p = c.args.p in
    let k = c.requires.came.1.1.ready in
    subst⁻¹ (λ (bytes : List ℕ). CutOf bytes c.next_cut-cut.result) (same_bytes p.advance.from p.end c.args.input.now k.ordered k.filled) c.next_cut-cut.ensures

pub flushed-requires : goal.flushed-requires
flushed-requires c =
    let h = c.requires.came.1.1.performing _ (λ _. refl) in
    (c.next-next.ensures.taken h.state h.holds).turned.line.written.fits

pub returns-clause-made : goal.returns-clause-made
returns-clause-made c = λ bytes written k.
    let enough = sym (told (goal.at.returns-clause-made c).After-lacks) ∙ c.if-lacks.false in
    IfOk-weaker c.flushed.result _ _ (λ r e. made-next k c.next-next.result c.next-next.new.out c.next-next.ensures.taken c.requires.goes_on enough e) c.flushed.ensures.ok
