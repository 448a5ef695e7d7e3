-- What a signed number of 64 bits adds, modulo 2^64: it is raised by what it reaches ahead, and lowered by what it reaches back.
use Rattle.std.proofs.Common.{◌≡◌, ℕ, ◌+◌, ◌-◌, ◌%◌, ◌^◌, ℤ, pos, negsuc, arith, to_z-of_z, w64, SFits, to_z, of_z}
use Rattle.pointer.specs.Pointer.{back, ahead}

by-sign : (a : ℕ) (z : ℤ) → (a + of_z w64 z) % 2 ^ 64 ≡ (a + ahead z + (2 ^ 64 - back z)) % 2 ^ 64
by-sign a (pos n) = omega arith
by-sign a (negsuc n) = omega arith

pub moved : (a : ℕ) (z : ℤ) → SFits w64 z → (a + of_z w64 (to_z w64 (of_z w64 z))) % 2 ^ 64 ≡ (a + ahead z + (2 ^ 64 - back z)) % 2 ^ 64
moved a z f = rw (to_z-of_z f) (by-sign a z)
