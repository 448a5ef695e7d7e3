-- Which record is looked up, and what the tests ask of it.
use Rattle.std.specs.Prelude.{ℕ, ◌≡◌, false, List, ltb, if◌then◌else◌}
use Rattle.std.proofs.Math.Option.{Option}
use Rattle.definition.specs.Memory.{Memory, Provenance, allocation_of, names_never_made}
use Rattle.tables.specs.declared.Allocation as lent_record
use Rattle.tables.specs.Held.{Records}
use Rattle.tables.proofs.Lookup.{record_at}

-- the place of the record that is looked up: the allocation's own; there are 128, and whatever names none of them gets the first
unfoldable pub place_of : Option Provenance → ℕ
place_of p = if ltb (allocation_of p) 128 then allocation_of p else 0

-- the record there
unfoldable pub target_in : List ℕ → Option Provenance → lent_record.Allocation
target_in A p = record_at A (place_of p)

-- the records are those of m, and 4 was passed
pub record Points (m : Memory) (A : List ℕ) (p : Option Provenance) : Type 0 where
  pub records : Records m A
  pub made : names_never_made m p ≡ false
