-- The allocations of all entries were made (Spans).
use native.Mathlib.Omega.{arith}
use Rattle.frames.specs.Buffer.{entries_in}
use Rattle.end_call.proofs.Spans.{spans-made, touched}
use Rattle.end_call.proofs.touched.Goals as goal

pub starts_at-requires : goal.starts_at-requires
starts_at-requires c =
    let (m, (r, made)) = c.requires in
    (m, (r, omega (arith, c.span_of-span.ensures.ordered, spans-made m (entries_in c.args.numbers.now) _ _ c.span_of-span.ensures made)))

pub starts_at-requires-2 : goal.starts_at-requires-2
starts_at-requires-2 c =
    let (m, (r, made)) = c.requires in
    (m, (r, spans-made m (entries_in c.args.numbers.now) _ _ c.span_of-span.ensures made))

pub returns : goal.returns
returns c = touched c.span_of-span.ensures c.starts_at.ensures c.starts_at-2.ensures
