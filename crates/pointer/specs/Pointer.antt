-- What the code's values are in the definition.
use Rattle.std.specs.Prelude.{ℕ, suc, ℤ, pos, negsuc, None, Some}
use Rattle.std.specs.Prelude as std
use Rattle.std.proofs.Math.Option.{Option, none, some}
use Rattle.definition.specs.Memory as definition
use Rattle.pointer.specs.declared.Provenance.{Provenance}
use Rattle.pointer.specs.declared.ThinPointer.{ThinPointer}

abbrev pub provenance_of : std.Option Provenance → Option definition.Provenance
provenance_of None = none
provenance_of (Some t) = some (record { allocation = t.allocation; node = t.node })

-- via a node of an allocation
abbrev pub via : ℕ → ℕ → std.Option Provenance
via allocation node = Some (record { allocation = allocation; node = node })

abbrev pub thin_pointer_of : ThinPointer → definition.ThinPointer
thin_pointer_of p = record { address = p.addr; provenance = provenance_of p.provenance }

-- how many bytes a signed number reaches back, and how many ahead; one of them is 0
abbrev pub back : ℤ → ℕ
back (pos n) = 0
back (negsuc n) = suc n

abbrev pub ahead : ℤ → ℕ
ahead (pos n) = n
ahead (negsuc n) = 0
