-- The invariant: every byte passed is the one that stands at its remainder in the first part.
use mathlib.Core.Path.{refl}
use native.Mathlib.Omega.{arith}
use lib.ListN.{length-set}
use Rattle.layout.proofs.Cells.{repeat-start, repeat-more, repeat-all}
use Rattle.layout.proofs.repeat.Goals as goal

pub loop-i-init : goal.loop-i-init
loop-i-init c = (refl, λ b h. repeat-start c.args.size b c.args.mask.now h)

pub loop-i-preserved : goal.loop-i-preserved
loop-i-preserved c = (simp length-set c.loop-i.invariant.0, repeat-more c.args.size c.args.mask.now c.loop-i.mask c.loop-i.i c.loop-i.invariant.1 c.requires c.loop-i.auto.i (omega arith))

pub returns : goal.returns
returns c = repeat-all c.args.size c.args.mask.now c.loop-i.mask c.loop-i.i c.loop-i.invariant.1 c.loop-i.invariant.0 (omega arith)
