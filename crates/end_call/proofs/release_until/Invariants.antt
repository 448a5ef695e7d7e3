-- At each turn the entries from the place on are left, in the memory that the earlier ones left (Releases: Turn).
use lib.ListN.{drop}
use Rattle.definition.specs.Memory.{Memory}
use Rattle.frames.specs.Buffer.{entries_in}
use Rattle.parts.specs.Trees.{HoldsMarked}
use Rattle.end_call.specs.Release.{AllMade}
use Rattle.end_call.proofs.Releases.{Turn}
use Rattle.end_call.proofs.release_until.Given as goal

abbrev pub invariant-loop-number : goal.invariant-loop-number
invariant-loop-number l = (m : Memory) → HoldsMarked m l.allocs l.parents l.initial.protectors l.initial.codes → AllMade m (entries_in l.numbers)
    → Turn m (entries_in l.numbers) (drop l.number-index (entries_in l.numbers)) l.allocs l.parents l.protectors l.codes
