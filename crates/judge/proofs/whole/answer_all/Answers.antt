-- The lines so far and those of what is left are the definition's (Runs). Each request takes bytes, so fewer are left.
use Rattle.std.proofs.Common.{rules, refl, sym, ◌∙◌, arith, length}
use Rattle.judge.specs.Turn.{Taken}
use Rattle.judge.proofs.Runs.{advanced, performing-start, performing-next, goes, end-ahead}
use Rattle.judge.proofs.whole.answer_all.Goals as goal
use Rattle.judge.proofs.whole.answer_all.Goals.{After-next-p}

pub loop-cut-init : goal.loop-cut-init
loop-cut-init c = record { performing = record { performing = performing-start _ _ c.requires.holds refl refl refl; fits = omega arith }; same = search rules }

one_more : (c : After-next-p) → let l = c.loop-cut in Taken l.invariant.performing.performing.state c.args.bytes.now l.p l.out c.next-p.result c.next-p.new.out c.next-p.new.run
one_more c = let h = c.loop-cut.invariant.performing.performing in c.next-p.ensures.taken h.state h.holds

pub loop-cut-smaller : goal.loop-cut-smaller
loop-cut-smaller c =
    let l = c.loop-cut in
    let bytes = c.args.bytes.now in
    let going = goes l.p (length bytes) (length l.out) (sym c.goes_on.ensures ∙ c.loop-cut-test.true) in
    omega (arith, (one_more (goal.at.loop-cut-smaller c).After-next-p).from, end-ahead bytes l.p.from going.1.0, going.1.0)

pub loop-cut-preserved : goal.loop-cut-preserved
loop-cut-preserved c =
    let l = c.loop-cut in
    let going = goes l.p (length c.args.bytes.now) (length l.out) (sym c.goes_on.ensures ∙ c.loop-cut-test.true) in
    let k = one_more (goal.at.loop-cut-preserved c).After-next-p in
    record {
      performing = record { performing = performing-next l.invariant.performing.performing going.0 going.1.0 (advanced k); fits = k.turned.line.written.fits };
      same = search rules;
    }
