-- At 64 bits no position is too big; else it is compared.
use Rattle.std.proofs.Common.{ℕ, leb, sym, ap, ◌∙◌}
use Rattle.definition.specs.Notation.{any}
use Rattle.definition.specs.Request.{position, is_too_far}
use Rattle.pointer.proofs.Widths.{none-far}
use Rattle.pointer.proofs.width.any_far_byte.Goals as goal

pub returns-in-Bits64 : goal.returns-in-Bits64
returns-in-Bits64 c = rw c.in-Bits64.is (sym (none-far _))

pub returns-in_default : goal.returns-in_default
unfolding is_too_far
returns-in_default c = let bytes = c.args.bytes.now in
    c.any_position_from.ensures ∙ ap (λ (n : ℕ). any (λ b. leb n (position b)) bytes) c.pointer_bytes.ensures
