-- The four words, one behind the other, are the first of the bytes.
use Prim.Native.Nat.{ℕ}
use mathlib.Core.List.{List, ◌∷◌}
use mathlib.Core.Path.{◌≡◌, ap, ◌∙◌}
use lib.ListN.{drop}
use Rattle.definition.specs.Run.{words_of}
use Rattle.stream.proofs.Sizes.{head_of}
use Rattle.stream.proofs.head_of.Goals as goal

pub returns : goal.returns
returns c = let bytes = c.args.bytes.now in
    let whole : words_of bytes ≡ c.word_at.result ∷ c.word_at-2.result ∷ c.word_at-3.result ∷ c.word_at-4.result ∷ words_of (drop 16 bytes) =
    c.word_at.ensures
    ∙ ap (λ (ws : List ℕ). c.word_at.result ∷ ws)
    (c.word_at-2.ensures ∙ ap (λ (ws : List ℕ). c.word_at-2.result ∷ ws) (c.word_at-3.ensures ∙ ap (λ (ws : List ℕ). c.word_at-3.result ∷ ws) c.word_at-4.ensures)) in
    head_of c.of.result c.word_at.result c.word_at-2.result c.word_at-3.result c.word_at-4.result (words_of (drop 16 bytes)) bytes whole c.of.ensures
