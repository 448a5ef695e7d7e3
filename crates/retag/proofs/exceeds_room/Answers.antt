-- The allocations and the words stay as many; what is used is within each bound, so the difference is taken.
use mathlib.Core.Path.{sym, ◌∙◌}
use native.Mathlib.Omega.{arith}
use borrow.Author.Tests.{lt-ltb}
use Rattle.bounds.proofs.Tests.{over, exceeds-nodes, exceeds-codes}
use Rattle.retag.proofs.exceeds_room.Goals as goal

pub returns-then-nodes-lt1 : goal.returns-then-nodes-lt1
returns-then-nodes-lt1 c = λ m v u.
    lt-ltb _ _ c.if-nodes-lt1.true
    ∙ sym (exceeds-nodes m _ (omega (arith, v.bounded.allocations)) u (omega (arith, v.bounded.words)) (omega (arith, u.nodes, v.bounded.nodes)))

pub returns-else-nodes-lt1 : goal.returns-else-nodes-lt1
returns-else-nodes-lt1 c = λ m v u.
    over c.args.codes 32768 c.args.bytes (omega (arith, u.codes, v.bounded.codes))
    ∙ exceeds-codes m _ (omega (arith, v.bounded.allocations)) u (omega (arith, v.bounded.words)) (omega (arith, u.nodes, v.bounded.nodes))
