-- The invariant: every byte passed is the one that stands at its remainder in the first part.
use Prim.Native.Nat.{ℕ, ◌%◌, ◌<◌}
use mathlib.Core.Path.{◌≡◌}
use lib.ListN.{length, get_or}
use Rattle.layout.proofs.repeat.Given as goal

abbrev pub invariant-loop-i : goal.invariant-loop-i
invariant-loop-i l = (length l.mask ≡ length l.initial.mask) × ((b : ℕ) → b < l.i → get_or l.mask b 0 ≡ get_or l.initial.mask (b % l.size) 0)
