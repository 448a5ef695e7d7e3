-- A refusal is passed on; else the words are those at `words_start`, which lie in the data.
use mathlib.Core.List.{[]}
use mathlib.Core.Path.{refl}
use native.Mathlib.Omega.{arith}
use Rattle.refusal.proofs.Numbers.{number_positive}
use Rattle.memory.proofs.LoadStore.{load-refused, load-accepted}
use Rattle.memory.proofs.access.load.Goals as goal

pub returns-in-Ok : goal.returns-in-Ok
returns-in-Ok c = λ m h. load-accepted _ _ _ h.records.valid 0 _ refl (c.in-Ok.ensures.accessed m [] h) (c.in-Ok.ensures.start_value m h)

pub returns-in-Err : goal.returns-in-Err
returns-in-Err c = λ m h.
    rw c.from.ensures (load-refused _ _ _ h.records.valid _ (λ z. omega (arith, z, number_positive c.in-Err.refusal)) (c.in-Err.ensures.accessed m [] h))
