-- The whole area is filled with zeros.
use Rattle.std.proofs.Common.{rules, ◌≡◌, length, replicate}
use Rattle.end_call.proofs.end_call_held.Goals as goal

pub returns-clause-zero : goal.returns-clause-zero
returns-clause-zero c =
    let e : c.fill.new.self ≡ replicate (length c.end_call_refusal-released.new.area) 0 = search rules in
    let l : length c.end_call_refusal-released.new.area ≡ 32768 = search rules in
    rw (e, l)
