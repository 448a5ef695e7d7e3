-- The answers of a list of requests, as words in a lent buffer.
use Rattle.std.specs.Prelude.{ℕ, min, ◌≡◌, List, [], ◌∷◌, ◌++◌, leb, length}
use Rattle.std.proofs.Math.Option.{none, some}
use Rattle.definition.specs.Notation.{write_at}
use Rattle.definition.specs.Memory.{Answer, Named}
use Rattle.definition.specs.Memory.Named.{Pointer, Leak}
use Rattle.transcript.specs.declared.Written.{Written}

-- what an answer names: nothing, a pointer's allocation and node, or the allocation that leaks. The first numbers are those of C's replies
abbrev pub named_words : Named → List ℕ
named_words (Pointer none) = 0 ∷ 0 ∷ 0 ∷ []
named_words (Pointer (some t)) = 1 ∷ t.allocation ∷ t.node ∷ []
named_words (Leak n) = 3 ∷ n ∷ 0 ∷ []

-- what stands before the loaded words: the refusal or 0, what is named, and how many words follow
abbrev pub heading : ℕ → Named → ℕ → List ℕ
heading refusal names count = refusal ∷ (named_words names ++ (count ∷ []))

-- an answer as words
unfoldable pub answer_words : Answer → List ℕ
answer_words a = heading a.refusal a.names (length a.words) ++ a.words

-- the answers of a list, one behind the other
unfoldable pub transcript : List Answer → List ℕ
transcript [] = []
transcript (a ∷ rest) = answer_words a ++ transcript rest

-- `out` is `before` with `text` written over it from the front; a text that is too long is cut off at the end.
-- The code knows where the next word goes, and whether all of the text is there
pub record WrittenTo (text before out : List ℕ) (w : Written) : Type 0 where
  pub contents : out ≡ write_at 0 text before
  pub end : w.at ≡ min (length text) (length before)
  pub fits : w.whole ≡ leb (length text) (length before)
