-- The definition's answer, for every case of the code's; the loaded words are a part of the lent data.
use Rattle.std.specs.Prelude as std
use Rattle.std.specs.Prelude.{ℕ, zero, suc, ◌+◌, ◌*◌, min, ◌≡◌, List, length, take, drop}
use Rattle.std.proofs.Math.Option.{Option, none, some}
use Rattle.std.specs.Borrow.{Bor}
use Rattle.definition.specs.Memory as definition
use Rattle.pointer.specs.Pointer.{via, provenance_of}
use Rattle.pointer.specs.declared.Provenance.{Provenance}
use Rattle.std.specs.Prelude.{None}
use Rattle.answer.specs.declared.Answer.{Answer}
use Rattle.answer.specs.declared.Answer.TheVariants.{Refused, Leak, Accepted, Pointer, Words}

abbrev pub answer_of : Answer → List ℕ → definition.Answer
answer_of (Refused n) words = definition.refused_with n
answer_of (Leak a) words = definition.leak_answer (some a)
answer_of Accepted words = definition.accepted
answer_of (Pointer p) words = definition.gives_pointer (provenance_of p)
answer_of (Words start len) words = definition.gives_words (take len (drop start words))

-- ---- the loaded words as a part of the lent data
-- where they start in it: a load's answer says so, and any other has none
abbrev pub words_from : Answer → ℕ
words_from (Refused n) = 0
words_from (Leak a) = 0
words_from Accepted = 0
words_from (Pointer p) = 0
words_from (Words start len) = start

-- the address of a word of a slice of 32-bit words: its block, and the byte in it
abbrev pub word_address : Bor (List ℕ) → ℕ → ℕ × ℕ
word_address words i = (words.ref_ptr.0, i * 4 + words.ref_ptr.1)

-- part is that part of words itself, cut where the data end
pub record HandsOut (answer : Answer) (words part : Bor (List ℕ)) : Type 0 where
  pub loaded : part.now ≡ (answer_of answer words.now).words
  pub place : part.ref_ptr ≡ word_address words (min (words_from answer) (length words.now))

-- ---- the code's answer for the definition's
-- what a request hands out where it is accepted: nothing, a pointer, or so many words of the lent data from a place on
pub data Gives : Type 0 where
  Nothing : Gives
  ThePointer : Gives
  TheWords : ℕ → ℕ → Gives

abbrev pub provenance_from : Option definition.Provenance → std.Option Provenance
provenance_from none = None
provenance_from (some t) = via t.allocation t.node

abbrev pub given : Gives → definition.Answer → Answer
given Nothing a = Accepted
given ThePointer a = Pointer (provenance_from (definition.named_pointer a.names))
given (TheWords start len) a = Words start len

-- a refusal with its number, or with the leak that it names
abbrev pub refused_as : ℕ → definition.Named → Answer
refused_as n (definition.Named.Pointer p) = Refused n
refused_as n (definition.Named.Leak a) = Leak a

abbrev pub refused_or : ℕ → definition.Named → Answer → Answer
refused_or zero names outcome = outcome
refused_or (suc n) names outcome = refused_as (suc n) names

-- the one answer of a request
abbrev pub reply_to : Gives → definition.Answer → Answer
reply_to gives a = refused_or a.refusal a.names (given gives a)

-- an outcome of the definition with the code's answer
unfoldable pub replied : {X : Type 0} → Gives → definition.Answer × X → Answer × X
replied gives outcome = (reply_to gives outcome.0, outcome.1)
