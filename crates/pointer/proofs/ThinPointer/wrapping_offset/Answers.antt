-- The sum is taken modulo 2^64, and then in the bits of the width.
use Rattle.std.proofs.Common.{◌≡◌, ℕ, ◌+◌, ◌-◌, ◌%◌, ◌^◌, ap, ◌∙◌}
use Rattle.definition.specs.Memory.{wrapping_offset}
use Rattle.definition.specs.Width.{addresses}
use Rattle.pointer.specs.Width.{width_of}
use Rattle.pointer.specs.Pointer.{provenance_of, back, ahead}
use Rattle.pointer.proofs.Signed.{moved}
use Rattle.pointer.proofs.Widths.{wraps-further}
use Rattle.pointer.proofs.ThinPointer.wrapping_offset.Goals as goal

pub returns : goal.returns
unfolding wrapping_offset
returns c = let a = c.args in
    let w = width_of a.width in
    let n : ℕ = a.self.addr + ahead a.offset + (2 ^ 64 - back a.offset) in
    let sum : c.wrapping_add_signed.result ≡ n % 2 ^ 64 = c.wrapping_add_signed.ensures ∙ moved a.self.addr a.offset c.ranges.offset in
    let narrowed : c.wrapped-addr.result ≡ n % addresses w = c.wrapped-addr.ensures ∙ ap (λ (x : ℕ). x % addresses w) sum ∙ wraps-further w n in
    λ i. record { address = narrowed i; provenance = provenance_of a.self.provenance }
