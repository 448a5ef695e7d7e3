-- After i turns what is left of the list, from the state that is held, comes to what the whole list does (Turns).
use Rattle.std.proofs.Common.{refl, rules}
use Rattle.run.proofs.Turns.{going_start, going_on, all-ran}
use Rattle.run.proofs.list.run_cleared.Goals as goal

pub loop-end-init : goal.loop-end-init
loop-end-init c = record {
  going = going_start c.args.requests.now c.args.ends.now c.args.answers.now c.args.run.now c.requires c.nothing_written-written.ensures;
  same = search rules;
}

pub turn-written-requires : goal.turn-written-requires
turn-written-requires c = let g = c.loop-end.invariant.going in (g.state, g.holds)

pub loop-end-preserved : goal.loop-end-preserved
loop-end-preserved c = let g = c.loop-end.invariant.going in record {
  going =
      going_on c.args.requests.now c.args.ends.now c.args.answers.now c.loop-end.from c.loop-end-test.true c.loop-end.run c.turn-written.new.run g
      refl c.part.ensures (c.turn-written.ensures.turned g.state g.holds);
  same = search rules;
}

pub returns-clause-ran : goal.returns-clause-ran
returns-clause-ran c =
    all-ran c.args.requests.now c.args.ends.now c.args.answers.now c.loop-end.run c.loop-end-test.false c.loop-end.invariant.going
