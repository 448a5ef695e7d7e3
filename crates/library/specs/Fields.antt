-- 2, of the fields that an entry takes: "A field is outside its list, an alignment exponent exceeds 29, a byte word is malformed"; and by the width, which is
-- a number of bits: "An address or position too big for the width falls under 2."
use Rattle.std.specs.Prelude.{ℕ, Bool, ◌||◌, List, ltb}
use Rattle.definition.specs.Notation.{any}
use Rattle.definition.specs.Request.{bad_byte, is_too_high, is_too_far}
use Rattle.pointer.specs.Width.{width_at}

abbrev pub bad_exponent : ℕ → Bool
bad_exponent exponent = ltb 29 exponent

abbrev pub bad_address : ℕ → ℕ → Bool
bad_address width address = is_too_high (width_at width) address

-- of an allocation and a deallocation; the kinds' numbers are 0 to 4
unfoldable pub bad_allocation : ℕ → ℕ → ℕ → ℕ → Bool
bad_allocation width kind exponent address = (bad_exponent exponent || ltb 4 kind) || bad_address width address

unfoldable pub bad_load : ℕ → ℕ → ℕ → Bool
bad_load width exponent address = bad_exponent exponent || bad_address width address

unfoldable pub bad_store : ℕ → List ℕ → ℕ → ℕ → Bool
bad_store width bytes exponent address =
    (bad_exponent exponent || any bad_byte bytes) || (bad_address width address || any (is_too_far (width_at width)) bytes)
