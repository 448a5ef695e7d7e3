-- The words of the whole chunks are all words (Words).
use Rattle.std.proofs.Common.{◌≡◌, ◌∙◌, ap, sym, ◌/◌, length, take, arith}
use Rattle.std.specs.Prelude.{map}
use Rattle.std.specs.Int.{w32, from_be_bytes}
use lib.Seq.{take-length}
use Rattle.std.proofs.lemmas.List.{length-map}
use Rattle.definition.specs.Run.{words_of}
use Rattle.stream.proofs.Words.{chunk_words}
use Rattle.stream.proofs.read_words.Goals as goal

pub returns : goal.returns
returns c =
    let bytes = c.args.bytes.now in
    let words = c.loop-i.words in
    let chunks = c.as_chunks.result.0.now in
    let all : c.loop-i.i ≡ length chunks = omega arith in
    let whole : map (from_be_bytes w32) chunks ≡ words_of bytes = rw c.as_chunks.ensures.front (chunk_words (length bytes / 4) bytes (omega arith) (omega arith)) in
    let read : take c.loop-i.i words ≡ map (from_be_bytes w32) (take c.loop-i.i chunks) = c.loop-i.invariant.words in
    record {
      words = (rw (all, take-length chunks) at read) ∙ whole;
      count = sym (length-map chunks (from_be_bytes w32)) ∙ ap length whole;
      rest = rw all at c.loop-i.invariant.rest;
    }
