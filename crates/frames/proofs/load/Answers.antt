-- The entries that have room take the places of as many that are none (ByValue).
use Rattle.std.proofs.Common.{◌≡◌, take, replicate, rules, arith}
use Rattle.std.proofs.lemmas.List.{length-replicate}
use Rattle.frames.specs.List.{no_entry}
use Rattle.frames.proofs.ByValue.{laid-front}
use Rattle.frames.proofs.load.Goals as goal

pub returns : goal.returns
returns c =
    let n = c.min-count.result in
    let xs = c.args.entries.now in
    let copied : c.copy_from_slice.new.self ≡ take n xs = search rules in
    rw copied (laid-front n xs (replicate 64 no_entry) (omega arith) (omega (arith, length-replicate 64 no_entry)) (λ m. omega (arith, length-replicate 64 no_entry)))
