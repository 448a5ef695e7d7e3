-- A part that begins or ends beyond the end is cut there.
use Prim.Native.Nat.{ℕ, ◌+◌, ◌-◌}
use native.Mathlib.Omega.{arith}
use mathlib.Core.Path.{◌≡◌, ap, ◌∙◌}
use lib.ListN.{take, drop}
use Rattle.definition.proofs.Parts.{part_cut}
use Rattle.answer.specs.Answer.{word_address}
use Rattle.answer.proofs.words_at.Goals as goal

pub returns : goal.returns
returns c = let a = c.args in
    let from = c.min-from.result in
    let count = c.min.result in
    let e : from + count - from ≡ count = omega arith in (
      ap (λ (n : ℕ). take n (drop from a.words.now)) e
          ∙ part_cut a.words.now a.start a.len from count c.min-from.ensures c.min.ensures,
      ap (word_address a.words) c.min-from.ensures,
    )
