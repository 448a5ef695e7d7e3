-- A frame's entries, by value and lent, in the definition's terms.
use Rattle.std.specs.Prelude.{ℕ, List, [], ◌∷◌, map, get_or, take, replicate}
use Rattle.definition.specs.Memory.{Provenance}
use Rattle.frames.specs.declared.Entry.{Entry}
use Rattle.frames.specs.declared.Entries.{Entries}

abbrev pub provenance_of : Entry → Provenance
provenance_of e = record { allocation = e.allocation; node = e.node }

abbrev pub entry_of : Provenance → Entry
entry_of p = record { allocation = p.allocation; node = p.node }

-- what stands behind the last entry
abbrev pub no_entry : Entry
no_entry = record { allocation = 0; node = 0 }

-- ---- by value
-- the first n of a list of entries
abbrev pub first_of : ℕ → List Entry → List Provenance
first_of n list = map provenance_of (take n list)

abbrev pub entries_of : Entries → List Provenance
entries_of entries = first_of entries.count entries.list

-- ---- lent
abbrev pub entry_at : List Entry → ℕ → Entry
entry_at xs i = get_or xs i no_entry

-- xs laid over ds: as long as ds
abbrev pub laid : List Entry → List Entry → List Entry
laid [] ds = ds
laid (x ∷ xs) [] = []
laid (x ∷ xs) (d ∷ ds) = x ∷ laid xs ds

-- xs laid over 64 places without an entry: a list of 64 as it is (proofs/ByValue.antt)
abbrev pub loaded : List Entry → List Entry
loaded xs = laid xs (replicate 64 no_entry)
