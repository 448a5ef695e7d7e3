-- At an index the words before it stand behind the text.
use Prim.Native.Nat.{ℕ}
use mathlib.Core.List.{List, ◌++◌}
use lib.ListN.{take}
use Rattle.transcript.specs.Transcript.{WrittenTo}
use Rattle.transcript.proofs.put_each.Given as goal

abbrev pub invariant-loop-word : goal.invariant-loop-word
invariant-loop-word l = (text before : List ℕ) → WrittenTo text before l.initial.out l.initial.next → WrittenTo (text ++ take l.word-index l.words) before l.out l.next
