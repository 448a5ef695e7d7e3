-- Each digit becomes its character (Lanes).
use Prim.Native.Nat.{ℕ, ◌+◌, ◌*◌, ◌/◌, ◌%◌}
use mathlib.Core.Path.{ap, ◌∙◌}
use native.Mathlib.Omega.{arith}
use lib.Bits.{bit_and, and_le_r}
use Rattle.report.proofs.Lanes.{digits-most, characters-step}
use Rattle.report.proofs.word.characters.Goals as goal

pub overflow_add-letters : goal.overflow_add-letters
overflow_add-letters c = omega (arith, digits-most c.args.w, c.digits_apart-digits.ensures)

pub overflow_add-result : goal.overflow_add-result
overflow_add-result c = omega (arith, digits-most c.args.w, c.digits_apart-digits.ensures)

pub overflow_mul-result : goal.overflow_mul-result
overflow_mul-result c = omega (arith, and_le_r ((c.digits_apart-digits.result + 0x606060606060606) / 16) 0x101010101010101)

pub overflow_add-result-2 : goal.overflow_add-result-2
overflow_add-result-2 c = omega (arith, and_le_r ((c.digits_apart-digits.result + 0x606060606060606) / 16) 0x101010101010101, digits-most c.args.w, c.digits_apart-digits.ensures)

pub returns : goal.returns
returns c = let w = c.args.w in
    ap (λ (x : ℕ). x + 0x3030303030303030 + bit_and ((x + 0x606060606060606) / 16) 0x101010101010101 * 39) c.digits_apart-digits.ensures ∙ characters-step (w % 16) (w / 16 % 16) (w / 256 % 16) (w / 4096 % 16) (w / 65536 % 16) (w / 1048576 % 16) (w / 16777216 % 16) (w / 268435456 % 16) (omega arith) (omega arith) (omega arith) (omega arith) (omega arith) (omega arith) (omega arith) (omega arith)
