-- One record more is counted (Counting).
use Rattle.std.proofs.Common.{rules, ℕ, subst, arith, sym, ◌∙◌}
use Rattle.vectors.specs.Sample.{run_of, text_of, Agrees}
use Rattle.vectors.proofs.Counting.{byte-one, counting-next, counting-gone, counting-end}
use Rattle.vectors.proofs.count_agreeing.Goals as goal

pub loop-preserved : goal.loop-preserved
loop-preserved c =
    let l = c.loop in
    let r = c.in-Some.r in
    let file = c.args.file.now in
    let same = c.agrees-same.result in
    let judged = subst (λ (n : ℕ). Agrees (run_of file r) (text_of file r) n same) l.auto.out c.agrees-same.ensures.agrees in
    record {
      counting = counting-next l.invariant.counting c.loop-test.true (sym c.in-Some.ensures.at) judged (c.from-agree.ensures ∙ byte-one same);
      inside = c.in-Some.ensures.inside.1.1;
      lengths = c.agrees-same.ensures.lengths;
      same = search rules;
    }

pub returns-after-loop-clause-counted : goal.returns-after-loop-clause-counted
returns-after-loop-clause-counted c = counting-end c.loop.invariant.counting (omega arith)

pub returns-in_default-clause-counted : goal.returns-in_default-clause-counted
returns-in_default-clause-counted c = counting-gone c.loop.invariant.counting c.loop-test.true (sym c.in_default.ensures.at)
