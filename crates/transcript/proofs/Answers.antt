-- An answer's words: its heading, and behind it the loaded ones.
use Prim.Native.Nat.{ℕ}
use mathlib.Core.Path.{◌≡◌, ap, ◌∙◌}
use mathlib.Core.List.{List, ◌++◌, append_assoc}
use lib.ListN.{length}
use Rattle.definition.specs.Memory.{Answer}
use Rattle.transcript.specs.Transcript.{heading, answer_words}

pub answer-behind : (text : List ℕ) (a : Answer) (loaded head : List ℕ) → loaded ≡ a.words → head ≡ heading a.refusal a.names (length loaded)
    → (text ++ head) ++ loaded ≡ text ++ answer_words a
unfolding answer_words
answer-behind text a loaded head l h = append_assoc text head loaded ∙ ap (λ (t : List ℕ). text ++ t) (cc)
