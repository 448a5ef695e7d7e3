-- The higher digit of each byte goes four bits down, and the lower one eight bits up (Lanes).
use Prim.Native.Nat.{ℕ, ◌*◌, ◌/◌, ◌%◌, ◌^◌}
use mathlib.Core.Path.{ap, ◌∙◌}
use native.Mathlib.Omega.{arith}
use lib.Bits.{bit_and, bit_or}
use Rattle.report.proofs.Lanes.{byte-digits, digits_step}
use Rattle.report.proofs.word.digits_apart.Goals as goal

pub returns : goal.returns
returns c = let w = c.args.w in
    ap (λ (x : ℕ). bit_and (bit_or (x / 16) (x * 2 ^ 8 % 2 ^ 64)) 0xf0f0f0f0f0f0f0f) (c.bytes_apart-bytes.ensures ∙ byte-digits w (omega arith))
    ∙ digits_step (w % 16) (w / 16 % 16) (w / 256 % 16) (w / 4096 % 16) (w / 65536 % 16) (w / 1048576 % 16) (w / 16777216 % 16) (w / 268435456 % 16) (omega arith) (omega arith) (omega arith) (omega arith) (omega arith) (omega arith) (omega arith) (omega arith)
