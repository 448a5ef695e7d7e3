-- Before the byte's place the codes are made, the rest of the mask is as it was.
use mathlib.Core.Path.{◌≡◌}
use Rattle.retag.proofs.Codes.{made_to}
use Rattle.retag.proofs.inside_codes.Given as goal

abbrev pub invariant-loop-byte : goal.invariant-loop-byte
invariant-loop-byte l = l.mask ≡ made_to l.freeze l.cell l.initial.mask l.byte-index
