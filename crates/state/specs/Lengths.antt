-- The lengths that document 01 states for the lent buffers, and that of the frames' buffer of a run.
use Rattle.std.specs.Prelude.{Bool, ◌&&◌, List, ℕ, eqb, length}
use Rattle.tables.specs.Encoding.{Buffers}

-- ---- 1: the buffers have their lengths
-- those of a memory
abbrev pub have_memory_lengths : Buffers → Bool
have_memory_lengths b =
    eqb (length b.allocs) 1152
    && (eqb (length b.parents) 1024
    && (eqb (length b.protectors) 1024 && (eqb (length b.words) 4096 && eqb (length b.codes) 32768)))

-- and the frames'
abbrev pub have_lengths : Buffers → List ℕ → Bool
have_lengths b F = have_memory_lengths b && eqb (length F) 2080
