-- 2, or the request by its kind (Steps).
use mathlib.Core.Path.{sym, ◌∙◌}
use Rattle.step.proofs.Steps.{frames-held, stepped-refused, formed, stepped}
use Rattle.step.proofs.step_decoded.Goals as goal

pub is_refused-requires : goal.is_refused-requires
is_refused-requires c = (c.requires.holds.0, frames-held c.requires.holds.1)

pub returns-then-is_refused-clause-stepped : goal.returns-then-is_refused-clause-stepped
returns-then-is_refused-clause-stepped c = λ s ws h d.
    rw c.from.ensures (stepped-refused h _ ws (sym (c.is_refused.ensures s ws (frames-held h) d) ∙ c.if-is_refused.true))

pub perform-requires : goal.perform-requires
perform-requires c = let s = c.requires.holds.0 in
    let h = c.requires.holds.1 in
    let ws = c.requires.decoded.0 in
    let d = c.requires.decoded.1 in
    (s, (h, formed h _ ws (sym (c.is_refused.ensures s ws (frames-held h) d) ∙ c.if-is_refused.false) c.args.q d))

pub returns-clause-stepped : goal.returns-clause-stepped
returns-clause-stepped c = λ s ws h d.
    let passed = sym (c.is_refused.ensures s ws (frames-held h) d) ∙ c.if-is_refused.false in
    stepped h _ ws passed c.args.q d (c.perform.ensures.left s h (formed h _ ws passed c.args.q d))
