-- The memory's buffers are emptied, and then the frames': the empty state (Lengths).
use Rattle.tables.specs.Encoding.{Buffers}
use Rattle.tables.specs.Held.{buffers}
use Rattle.state.proofs.Lengths.{of-memory, of-frames, empty-held}
use Rattle.state.proofs.clear.Goals as goal

pub clear_memory-requires : goal.clear_memory-requires
clear_memory-requires c =
    let a = c.args in
    of-memory (buffers a.allocs.now a.parents.now a.protectors.now a.words.now a.codes.now) a.frames.now c.requires

pub clear-requires : goal.clear-requires
clear-requires c =
    let a = c.args in
    of-frames (buffers a.allocs.now a.parents.now a.protectors.now a.words.now a.codes.now) a.frames.now c.requires

pub returns : goal.returns
returns c = empty-held c.clear_memory.ensures c.clear.ensures
