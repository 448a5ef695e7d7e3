-- Each buffer is filled with zeros (Lengths).
use Rattle.tables.specs.Held.{buffers}
use Rattle.state.proofs.Lengths.{all-zero}
use Rattle.state.proofs.clear_memory.Goals as goal

pub returns : goal.returns
returns c =
    let a = c.args in
    all-zero (buffers a.allocs.now a.parents.now a.protectors.now a.words.now a.codes.now) c.requires
    (c.fill.ensures.after (λ y e. e)) (c.fill-2.ensures.after (λ y e. e)) (c.fill-3.ensures.after (λ y e. e))
    (c.fill-4.ensures.after (λ y e. e)) (c.fill-5.ensures.after (λ y e. e))
