-- At an index the codes from there on are left. A code below 15 is that of its permission.
use mathlib.Core.List.{map}
use lib.ListN.{drop}
use Rattle.definition.specs.Output.{digit}
use Rattle.report.proofs.Writes.{Left}
use Rattle.report.proofs.page.Page.put_codes.Given as goal

abbrev pub invariant-loop-code : goal.invariant-loop-code
invariant-loop-code l = Left l.initial.self (map digit l.row) l.self (map digit (drop l.code-index l.row))
