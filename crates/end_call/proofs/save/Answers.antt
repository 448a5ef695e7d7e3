-- The part that is copied is as long as it is said to be.
use Rattle.std.proofs.Common.{ℕ, ◌≡◌, ◌∙◌, ◌-◌, ◌++◌, ap, arith, length, take, drop}
use lib.Seq.{length-take-le}
use lib.ListN.{length-drop}
use Rattle.end_call.proofs.save.Goals as goal

pub returns : goal.returns
returns c =
    let n = c.args.end - c.args.start in
    let part = take n (drop c.args.start c.args.src.now) in
    let wide : length part ≡ n = length-take-le n (drop c.args.start c.args.src.now) (simp length-drop (omega arith)) in
    c.copy_row.ensures ∙ ap (λ (k : ℕ). part ++ drop k c.args.dst.now) wide
