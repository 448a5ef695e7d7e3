-- The last two digits of a number, with a zero in front.
use Rattle.std.specs.Prelude.{ℕ, ◌/◌, ◌%◌, [], ◌∷◌}
use Rattle.definition.specs.Output.{Text, digit}

abbrev pub two : ℕ → Text
two n = digit (n / 10) ∷ digit (n % 10) ∷ []
