-- What is kept stands in front, and what is read behind it (Bytes).
use Rattle.std.proofs.Common.{ℕ, ◌+◌, ◌-◌, ◌≤◌, List, length, arith, length-append, length-take}
use Rattle.std.proofs.lemmas.Slice.{take-put_mid_below}
use borrow.Rule.Slice.PartMut.{put_mid}
use Rattle.verdict.proofs.Bytes.{has-read}
use Rattle.verdict.proofs.read_more.Goals as goal

pub returns : goal.returns
returns c =
    let kept : ℕ = c.move_to_front-kept.result in
    let front : List ℕ = c.move_to_front-kept.new.bytes in
    let room : ℕ = length front - kept in
    let input : List ℕ = put_mid kept room front c.read_bytes.new.bytes in
    let inside : kept ≤ length front = omega arith in
    let fits : kept + c.in_ok-n.n ≤ length input = simp (length-append, length-take) (omega (arith, c.in_ok-n.ensures)) in
    has-read c.args.p c.args.input.now c.requires.ready kept c.in_ok-n.n front input c.move_to_front-kept.ensures.0 c.move_to_front-kept.ensures.1
    (take-put_mid_below kept room front c.read_bytes.new.bytes kept (omega arith) inside) fits
