-- No more is loaded than there is.
use Prim.Native.Nat.{ℕ, ◌≤◌}
use native.Mathlib.Omega.{arith}
use mathlib.Core.List.{List}
use lib.ListN.{length, drop, length-take, length-drop}
use Rattle.answer.specs.Answer.{answer_of}
use Rattle.answer.specs.declared.Answer.{Answer}
use Rattle.answer.specs.declared.Answer.TheVariants.{Refused, Leak, Accepted, Pointer, Words}

pub loaded-length : (answer : Answer) (words : List ℕ) → length (answer_of answer words).words ≤ length words
loaded-length (Refused n) words = omega arith
loaded-length (Leak a) words = omega arith
loaded-length Accepted words = omega arith
loaded-length (Pointer p) words = omega arith
loaded-length (Words start len) words = omega (arith, length-take len (drop start words), length-drop start words)
