-- Address and size, as the record has them.
use Prim.Native.Nat.{◌<◌}
use mathlib.Core.Path.{ap, ◌∙◌}
use native.Mathlib.Omega.{arith}
use lib.ListN.{length}
use Rattle.definition.specs.Memory.{Memory}
use Rattle.definition.specs.Request.{is_too_high}
use Rattle.pointer.specs.Width.{width_of}
use Rattle.tables.specs.Held.{Records}
use Rattle.tables.proofs.Lookup.{record-in, same_count}
use Rattle.wellformed.proofs.AtWidth.{read-end, read-space}
use Rattle.wellformed.proofs.at_width.beyond_at.Goals as goal

pub allocation_at-a-requires : goal.allocation_at-a-requires
allocation_at-a-requires c = record-in c.requires.1.0 _ c.requires.1.1

pub overflow_add-a : goal.overflow_add-a
overflow_add-a c = omega (arith, read-space c.requires.1.0 c.requires.1.1 c.allocation_at-a.ensures)

pub returns : goal.returns
returns c = let is_made : (m : Memory) → Records m c.args.allocs.now → c.args.i < length m = λ m h. omega (arith, same_count h c.requires.1.0) in
    λ m h.
    let w = width_of c.args.width in
    c.is_too_high.ensures ∙ ap (is_too_high w) (read-end h (is_made _ h) c.allocation_at-a.ensures)
