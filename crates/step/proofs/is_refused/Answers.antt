-- The fields, the words that follow and the frame are the request's.
use Prim.Native.Nat.{ℕ}
use mathlib.Core.Path.{ap, sym, ◌∙◌}
use Rattle.definition.specs.Frame.{is_open, frame_at}
use Rattle.pointer.specs.Width.{width_of}
use Rattle.step.proofs.Steps.{refused-by}
use Rattle.step.proofs.is_refused.Goals as goal

pub returns : goal.returns
returns c = λ s ws h d.
    let opened = ap (λ (n : ℕ). is_open (frame_at s n)) (sym c.frame_used.ensures.0) ∙ sym (c.is_open-opened.ensures s.frames h) in
    refused-by (width_of c.args.run.now.width) s ws (c.is_miscounted.ensures ws d.fields d.count) c.args.q d.fields d.rest (c.is_malformed.ensures s opened) c.is_too_big.ensures
