-- At i all records from `from` on and before it were made.
use Rattle.std.proofs.Common.{◌≡◌, ◌+◌, ◌-◌, ◌*◌, drop}
use Rattle.tables.specs.Decoding.{made_in}
use Rattle.tables.proofs.first_unmade.Given as goal

abbrev pub invariant-loop-i : goal.invariant-loop-i
invariant-loop-i l = l.i + made_in (128 - l.i) (drop (l.i * 9) l.allocs) ≡ l.from + made_in (128 - l.from) (drop (l.from * 9) l.allocs)
