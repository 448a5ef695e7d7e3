-- The word of the four bytes (Words).
use Prim.Native.Nat.{ℕ, ◌+◌}
use mathlib.Core.List.{◌∷◌}
use mathlib.Core.Path.{sym, ap, ◌∙◌}
use lib.ListN.{drop}
use Rattle.definition.specs.Run.{words_of}
use Rattle.stream.proofs.Words.{word-at}
use Rattle.stream.proofs.word_at.Goals as goal

pub returns : goal.returns
returns c = let bytes = c.args.bytes.now in
    let at = c.args.at in
    word-at bytes at c.requires ∙ ap (λ (w : ℕ). w ∷ words_of (drop (at + 4) bytes)) (sym c.from_be_bytes.ensures)
