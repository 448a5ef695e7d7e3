-- What a store asks of the buffers.
use Rattle.std.specs.Prelude.{◌≡◌, List, ℕ}
use Rattle.definition.specs.Memory.{Memory}
use Rattle.tables.specs.Encoding.{words_of, held}
use Rattle.parts.specs.Trees.{HoldsTrees}

-- the records, the parents, the codes and the words are those of m
pub record HoldsWords (m : Memory) (A P W C : List ℕ) : Type 0 where
  pub trees : HoldsTrees m A P C
  pub words : W ≡ held 4096 words_of m
