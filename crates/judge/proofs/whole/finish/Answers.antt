-- No request is left, and the lines of the memory follow; or there is no room (Runs).
use Rattle.std.proofs.Common.{◌+◌, ◌<◌, sym, ◌∙◌, arith, length}
use borrow.Author.Tests.{leb-true, leb-false}
use lib.Seq.{length-take-le}
use Rattle.definition.specs.Output.{memory_lines}
use Rattle.state.proofs.Held.{memory-held}
use Rattle.judge.specs.Whole.{memory_room}
use Rattle.judge.proofs.Runs.{none-left, no-room, memory-inside, performing-end, text-behind, text-short, text-whole}
use Rattle.judge.proofs.whole.finish.Goals as goal
use Rattle.judge.proofs.whole.finish.Goals.{then-p-bytes-via-then-p-bytes, then-p-bytes-via-else-p-bytes+then-not-has_room}

pub returns-then-p-bytes : goal.returns-then-p-bytes
returns-then-p-bytes c =
    let p = c.args.p in
    let out = c.args.out.now in
    let h = c.requires.performing in
    let short : length out < p.at + memory_room = elim c.then-p-bytes.branch [
      | then-p-bytes-via-then-p-bytes w ↦ no-room p c.requires.over w.if-p-bytes.true.0 w.if-p-bytes.true.1
      | then-p-bytes-via-else-p-bytes+then-not-has_room w ↦ leb-false (p.at + memory_room) (length out) (sym w.has_room.ensures ∙ w.if-not-has_room.true)
    ] in
    record { judged = omega (arith, short, text-short h.performing, length-take-le p.at out h.fits) }

pub memory_lines-requires : goal.memory_lines-requires
memory_lines-requires c =
    let h = c.requires.performing.performing in
    record { well_formed = (h.state.state.memory, memory-held h.holds.state); at_in_bounds = leb-true _ _ (sym c.has_room.ensures ∙ c.if-not-has_room.false) }

pub returns : goal.returns
returns c =
    let h = c.requires.performing.performing in
    let m = memory-held h.holds.state in
    let w = c.memory_lines.ensures h.state.state.memory m in
    let fits = memory-inside m w (leb-true _ _ (sym c.has_room.ensures ∙ c.if-not-has_room.false)) in
    record {
      judged = record {
        fits = fits;
        text = text-behind (memory_lines 0 h.state.state.memory) w fits ∙ text-whole (performing-end h (none-left c.if-p-bytes.either));
      };
    }
