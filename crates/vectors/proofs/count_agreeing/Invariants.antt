-- The records so far are counted, whatever the others come to (Counting).
use Rattle.std.proofs.Common.{◌≡◌, ◌≤◌, true, length}
use Rattle.state.specs.Lengths.{have_lengths}
use Rattle.state.specs.Run.{memory_of, SameBuffers}
use Rattle.vectors.proofs.Counting.{Counting}
use Rattle.vectors.proofs.count_agreeing.Given as goal

abbrev pub invariant-loop : goal.invariant-loop
invariant-loop l =
    record {
      counting : Counting l.file (length l.fn.out) l.records l.agree l.counter l.at;
      inside : l.at ≤ length l.file;
      lengths : have_lengths (memory_of l.run) l.run.frames.now ≡ true;
      same : SameBuffers l.fn.run l.run;
    }
