-- After i chunks their words stand in front, and behind them what stood there.
use Rattle.std.proofs.Common.{◌≡◌, take, drop}
use Rattle.std.specs.Prelude.{map}
use Rattle.std.specs.Int.{w32, from_be_bytes}
use Rattle.stream.proofs.read_words.Given as goal

abbrev pub invariant-loop-i : goal.invariant-loop-i
invariant-loop-i l = record {
  words : take l.i l.words ≡ map (from_be_bytes w32) (take l.i l.chunks);
  rest : drop l.i l.words ≡ drop l.i l.initial.words;
}
