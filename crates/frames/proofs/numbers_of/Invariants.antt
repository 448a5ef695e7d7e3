-- After i turns the first i numbers stand for the first i entries (FrameNumbers).
use Rattle.std.proofs.Common.{◌≡◌, length, take}
use Rattle.frames.specs.List.{entries_of}
use Rattle.frames.specs.Buffer.{entries_in}
use Rattle.frames.proofs.numbers_of.Given as goal

abbrev pub invariant-loop-i : goal.invariant-loop-i
invariant-loop-i l = (length l.numbers ≡ 64) × (entries_in (take l.i l.numbers) ≡ take l.i (entries_of l.list))
