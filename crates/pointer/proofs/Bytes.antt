-- A byte's word is its fields, and the middle fields are the position, the allocation and the node.
use Rattle.std.proofs.Common.{◌≡◌, ℕ, ◌+◌, ◌*◌, ◌/◌, ◌%◌, ◌^◌, ◌<◌, arith}
use Rattle.pointer.specs.Byte.{position_of, allocation_of, node_of, value_of}

pub middle-fields : (w : ℕ) → w / 2 ^ 8 % 2 ^ 22 ≡ position_of w * 2 ^ 19 + allocation_of w * 2 ^ 12 + node_of w
middle-fields w = omega arith

whole_of : (f a b g d m w v : ℕ) → f ≡ a → b ≡ a * 2 + g → d ≡ b * 2 ^ 22 + m → w ≡ d * 2 ^ 8 + v
    → w ≡ f * 2 ^ 31 + g * 2 ^ 30 + m * 2 ^ 8 + v
whole_of f a b g d m w v p q r s = omega arith

pub all-fields : (w : ℕ) → w < 2 ^ 32 → w ≡ w / 2 ^ 31 % 2 * 2 ^ 31 + w / 2 ^ 30 % 2 * 2 ^ 30 + w / 2 ^ 8 % 2 ^ 22 * 2 ^ 8 + value_of w
all-fields w h =
    let flags : w / 2 ^ 31 % 2 ≡ w / 2 ^ 31 = omega arith in
    let upper : w / 2 ^ 30 ≡ w / 2 ^ 31 * 2 + w / 2 ^ 30 % 2 = omega arith in
    let lower : w / 2 ^ 8 ≡ w / 2 ^ 30 * 2 ^ 22 + w / 2 ^ 8 % 2 ^ 22 = omega arith in
    let whole : w ≡ w / 2 ^ 8 * 2 ^ 8 + w % 2 ^ 8 = omega arith in
    whole_of (w / 2 ^ 31 % 2) (w / 2 ^ 31) (w / 2 ^ 30) (w / 2 ^ 30 % 2) (w / 2 ^ 8) (w / 2 ^ 8 % 2 ^ 22) w (w % 2 ^ 8) flags upper lower whole
