-- Where all numbers so far are alike, each is the first.
use Rattle.std.proofs.Common.{ℕ, ◌≡◌, ◌<◌, true, get_or}
use Rattle.visit.proofs.access.all_alike.Given as goal

abbrev pub invariant-loop-number : goal.invariant-loop-number
invariant-loop-number l = l.alike ≡ true → (i : ℕ) → i < l.number-index → get_or l.lent i 0 ≡ l.first
