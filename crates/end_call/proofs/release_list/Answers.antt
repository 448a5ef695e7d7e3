-- One entry at most is all or none, since a release that is refused changes nothing; else what may change has room in the area (Spans).
use Prim.Native.Nat.{◌≤◌}
use native.Mathlib.Omega.{arith}
use lib.ListN.{length}
use Rattle.frames.specs.Buffer.{entries_in}
use Rattle.frames.proofs.FrameNumbers.{numbers-count}
use Rattle.parts.proofs.Lent.{records-of}
use Rattle.end_call.proofs.Releases.{all-by-one}
use Rattle.end_call.proofs.Spans.{codes-ordered, codes-total}
use Rattle.end_call.proofs.release_list.Goals as goal

pub returns-then-numbers-lt2 : goal.returns-then-numbers-lt2
returns-then-numbers-lt2 c = λ m h made.
    let numbers = c.args.numbers.now in
    let few : length (entries_in numbers) ≤ 1 = omega (arith, numbers-count numbers, c.if-numbers-lt2.true) in
    all-by-one (entries_in numbers) few (c.release_until.ensures m h made)

pub touched-requires : goal.touched-requires
touched-requires c = let (m, (h, made)) = c.requires in (m, (records-of h, made))

pub overflow_sub-to : goal.overflow_sub-to
overflow_sub-to c = codes-ordered c.requires.1.0 c.touched.ensures

pub release_all-requires-else-to-from-le1024-clause-touched : goal.release_all-requires-else-to-from-le1024-clause-touched
release_all-requires-else-to-from-le1024-clause-touched c = (c.touched.ensures, omega (arith, codes-total c.requires.1.0 c.touched.ensures))
