-- The highest byte alone, and the other three taken out of their copies (Lanes).
use Prim.Native.Nat.{ℕ, ◌+◌, ◌/◌, ◌%◌}
use mathlib.Core.Path.{ap, ◌∙◌}
use native.Mathlib.Omega.{arith}
use lib.Bits.{bit_and, and_le_r}
use Rattle.report.proofs.Lanes.{three_times, low-bytes, bytes-step}
use Rattle.report.proofs.word.bytes_apart.Goals as goal

pub overflow_add-result-2 : goal.overflow_add-result-2
overflow_add-result-2 c = omega (arith, and_le_r (three_times (c.args.w % 16777216)) 0xff00ff00ff0000)

pub returns : goal.returns
returns c = let w = c.args.w in
    ap (λ (x : ℕ). bit_and (three_times x) 0xff00ff00ff0000 + w / 16777216) (low-bytes w)
    ∙ bytes-step (w / 65536 % 256) (w / 256 % 256) (w % 256) (w / 16777216) (omega arith) (omega arith) (omega arith)
