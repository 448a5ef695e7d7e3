-- At i the starts of the records before it are moved (Moving).
use native.Mathlib.Omega.{arith}
use mathlib.Core.Path.{sym, ◌∙◌}
use lib.ListN.{length-set}
use Rattle.tables.proofs.Moving.{moving-start, moving-turn, moving-nodes, moving-codes, moving-end, moving-all, moving-length, behind-length}
use Rattle.tables.proofs.move_starts.Goals as goal

pub loop-i-init : goal.loop-i-init
loop-i-init c = λ l p m z h. moving-start h

pub bounds-allocs-p : goal.bounds-allocs-p
bounds-allocs-p c = let (l, (p, (m, (z, h)))) = c.requires in let at = c.loop-i.invariant l p m z h in omega (arith, moving-length at)

pub shape_of-allocs-then-allocs-p : goal.shape_of-allocs-then-allocs-p
shape_of-allocs-then-allocs-p c = let (l, (p, (m, (z, h)))) = c.requires in let at = c.loop-i.invariant l p m z h in moving-length at ∙ sym (behind-length h)

pub returns-then-allocs-p : goal.returns-then-allocs-p
returns-then-allocs-p c = λ l p m z h. moving-end (c.loop-i.invariant l p m z h) c.if-allocs-p.true

pub bounds-allocs-p-in-loop-i : goal.bounds-allocs-p-in-loop-i
bounds-allocs-p-in-loop-i c = let (l, (p, (m, (z, h)))) = c.requires in let at = c.loop-i.invariant l p m z h in omega (arith, moving-length at)

pub overflow_add-allocs-in-loop-i : goal.overflow_add-allocs-in-loop-i
overflow_add-allocs-in-loop-i c = let (l, (p, (m, (z, h)))) = c.requires in let at = c.loop-i.invariant l p m z h in omega (arith, moving-nodes at c.if-allocs-p.false)

pub bounds-allocs-p-in-loop-i-2 : goal.bounds-allocs-p-in-loop-i-2
bounds-allocs-p-in-loop-i-2 c = let (l, (p, (m, (z, h)))) = c.requires in let at = c.loop-i.invariant l p m z h in omega (arith, moving-length at)

pub bounds-allocs-p-in-loop-i-3 : goal.bounds-allocs-p-in-loop-i-3
bounds-allocs-p-in-loop-i-3 c = let (l, (p, (m, (z, h)))) = c.requires in let at = c.loop-i.invariant l p m z h in simp length-set (omega (arith, moving-length at))

pub overflow_add-allocs-in-loop-i-3 : goal.overflow_add-allocs-in-loop-i-3
overflow_add-allocs-in-loop-i-3 c = let (l, (p, (m, (z, h)))) = c.requires in let at = c.loop-i.invariant l p m z h in omega (arith, moving-codes at c.if-allocs-p.false)

pub bounds-allocs-p-in-loop-i-4 : goal.bounds-allocs-p-in-loop-i-4
bounds-allocs-p-in-loop-i-4 c = let (l, (p, (m, (z, h)))) = c.requires in let at = c.loop-i.invariant l p m z h in simp length-set (omega (arith, moving-length at))

pub loop-i-preserved : goal.loop-i-preserved
loop-i-preserved c = λ l p m z h. moving-turn (c.loop-i.invariant l p m z h) c.if-allocs-p.false

pub shape_of-allocs : goal.shape_of-allocs
shape_of-allocs c = let (l, (p, (m, (z, h)))) = c.requires in let at = c.loop-i.invariant l p m z h in moving-length at ∙ sym (behind-length h)

pub returns : goal.returns
returns c = λ l p m z h. moving-all (c.loop-i.invariant l p m z h) (omega arith)
