-- The fields of a byte's word: "initialised (1), has provenance (1), position (3), allocation (7), node (12), value (8)".
use Rattle.std.specs.Prelude.{ℕ, ◌/◌, ◌%◌, ◌^◌, Bool}
use Rattle.definition.specs.Request.{bit}

abbrev pub initialised : ℕ → Bool
initialised w = bit 31 w

abbrev pub has_provenance : ℕ → Bool
has_provenance w = bit 30 w

abbrev pub position_of : ℕ → ℕ
position_of w = w / 2 ^ 27 % 2 ^ 3

abbrev pub allocation_of : ℕ → ℕ
allocation_of w = w / 2 ^ 20 % 2 ^ 7

abbrev pub node_of : ℕ → ℕ
node_of w = w / 2 ^ 8 % 2 ^ 12

abbrev pub value_of : ℕ → ℕ
value_of w = w % 2 ^ 8
