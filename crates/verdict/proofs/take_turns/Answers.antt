-- Each turn that was made counts (Turns).
use Rattle.std.proofs.Common.{rules, sym, ◌∙◌, arith}
use Rattle.verdict.proofs.Turns.{going-start, going-next, all-made}
use Rattle.verdict.proofs.take_turns.Goals as goal

pub loop-init : goal.loop-init
loop-init c = record { going = going-start c.args.input.now c.args.out.now c.requires.holds; same = search rules }

pub loop-preserved : goal.loop-preserved
loop-preserved c =
    let g = c.loop.invariant.going in
    let made = c.in_ok-p.ensures.made g.bytes g.written g.came in
    record { going = going-next g (sym c.goes_on.ensures ∙ c.if-not-goes_on.false) made; same = search rules }

pub returns-after-loop-clause-made : goal.returns-after-loop-clause-made
returns-after-loop-clause-made c = all-made c.loop.invariant.going (λ _. omega arith)
