-- The words that an entry's reply names are those of its answer, and what a copy of them leaves.
use Rattle.std.specs.Prelude.{if◌then◌else◌}
use Prim.Native.Nat.{ℕ, ◌<◌, ◌≤◌}
use mathlib.Core.Path.{◌≡◌, refl, sym, ap}
use mathlib.Core.Bool.{Bool}
use mathlib.Core.List.{List, ◌++◌}
use borrow.Author.Tests.{lt-ltb, le-ltb}
use lib.ListN.{length, drop}
use Rattle.std.specs.Prelude.{None, Some}
use Rattle.answer.specs.Answer.{answer_of}
use Rattle.answer.specs.declared.Answer.{Answer}
use Rattle.answer.specs.declared.Answer.TheVariants.{Refused, Leak, Accepted, Pointer, Words}
use Rattle.tree_borrows.specs.Numbers.{reply_of, loaded_words, copied_to}

pub views : (a : Answer) (words : List ℕ) → loaded_words (reply_of a) words ≡ (answer_of a words).words
views (Refused n) words = refl
views (Leak n) words = refl
views Accepted words = refl
views (Pointer None) words = refl
views (Pointer (Some t)) words = refl
views (Words start len) words = refl

module _ (out view : List ℕ) where
  choice : Bool → List ℕ
  choice short = if short then out else view ++ drop (length view) out

  pub too_short : length out < length view → out ≡ copied_to out view
  unfolding choice
  too_short short = sym (ap choice (lt-ltb (length out) (length view) short))

  pub copied : length view ≤ length out → view ++ drop (length view) out ≡ copied_to out view
  unfolding choice
  copied fits = sym (ap choice (le-ltb (length out) (length view) fits))
