-- At an index the words from there on are left, and the end of the line.
use mathlib.Core.List.{map}
use lib.ListN.{drop}
use Rattle.definition.specs.Output.{word, words, ended}
use Rattle.report.proofs.Writes.{Left}
use Rattle.report.proofs.page.Page.put_words.Given as goal

abbrev pub invariant-loop-w : goal.invariant-loop-w
invariant-loop-w l = Left l.initial.self (ended (words l.ws)) l.self (ended (map word (drop l.w-index l.ws)))
