-- One store behind the other.
use Prim.Native.Nat.{ℕ, suc, ◌+◌}
use mathlib.Core.List.{List, [], ◌∷◌}
use mathlib.Core.Path.{refl, sym, ap₂, ◌∙◌}
use native.Mathlib.Numerals.{add-one}
use lib.ListN.{set}
use Rattle.definition.proofs.Writes.{write-one, write-set}
use Rattle.report.proofs.Writes.{written_as}
use Rattle.report.specs.Written.{Written}
use Rattle.report.proofs.decimal.put_two.Goals as goal

both : (out : List ℕ) (at a b : ℕ) → Written out at (a ∷ b ∷ []) (set (set out at a) (at + 1) b) (at + 2)
both out at a b = record {
  contents = rw add-one (write-one (suc at) b (set out at a) ∙ sym (write-set at a (b ∷ []) out));
  place = refl;
}

pub returns : goal.returns
returns c =
    written_as (ap₂ (λ (a b : ℕ). a ∷ b ∷ []) c.decimal_digit.ensures c.decimal_digit-2.ensures)
    (both c.args.out.now c.args.at c.decimal_digit.result c.decimal_digit-2.result)
