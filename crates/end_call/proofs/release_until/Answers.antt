-- At each turn the entries from the place on are left, in the memory that the earlier ones left (Releases: Turn).
use Prim.Native.Nat.{◌<◌}
use Rattle.std.proofs.Common.{rules, ◌≡◌}
use mathlib.Core.Path.{refl}
use native.Mathlib.Omega.{arith}
use lib.ListN.{length, drop_of_length-le}
use Rattle.refusal.specs.Number.{number, refusal_of}
use Rattle.refusal.proofs.Numbers.{number_positive}
use Rattle.frames.specs.Buffer.{entries_in}
use Rattle.frames.proofs.FrameNumbers.{number_at, numbers-count}
use Rattle.end_call.proofs.Releases.{turn-first, turn_at, turn-next, turn-stops, turn-done}
use Rattle.end_call.proofs.release_until.Goals as goal

pub loop-number-init : goal.loop-number-init
loop-number-init c = λ m h made. turn-first h made

pub release_entry-requires : goal.release_entry-requires
release_entry-requires c =
    let numbers = c.args.numbers.now in
    let i = c.loop-number.number-index in
    let l : i < length (entries_in numbers) = omega (arith, numbers-count numbers) in
    let turn = turn_at i _ _ l (number_at numbers i c.entry_in.result c.entry_in.ensures) (c.loop-number.invariant c.requires.0 c.requires.1.0 c.requires.1.1) in
    (turn.memory, (turn.holds, turn.made.0))

pub returns-in_err-release_entry : goal.returns-in_err-release_entry
returns-in_err-release_entry c = λ m h made.
    let numbers = c.args.numbers.now in
    let i = c.loop-number.number-index in
    let l : i < length (entries_in numbers) = omega (arith, numbers-count numbers) in
    let turn = turn_at i _ _ l (number_at numbers i c.entry_in.result c.entry_in.ensures) (c.loop-number.invariant m h made) in
    let x = c.in_err-release_entry.field-0.0 in
    let e : refusal_of c.from_residual.result ≡ number x = search rules in
    rw e (turn-stops turn (c.in_err-release_entry.ensures turn.memory turn.holds turn.made.0) (λ z. omega (arith, z, number_positive x)))

pub loop-number-preserved : goal.loop-number-preserved
loop-number-preserved c = λ m h made.
    let numbers = c.args.numbers.now in
    let i = c.loop-number.number-index in
    let l : i < length (entries_in numbers) = omega (arith, numbers-count numbers) in
    let turn = turn_at i _ _ l (number_at numbers i c.entry_in.result c.entry_in.ensures) (c.loop-number.invariant m h made) in
    turn-next turn (c.in_ok-release_entry.ensures turn.memory turn.holds turn.made.0) refl

pub returns : goal.returns
returns c = λ m h made.
    let numbers = c.args.numbers.now in
    turn-done (drop_of_length-le (entries_in numbers) {i = c.loop-number.number-index} (omega (arith, numbers-count numbers))) (c.loop-number.invariant m h made)
