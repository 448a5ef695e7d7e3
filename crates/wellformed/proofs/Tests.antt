-- Lists of zeros, by the test for others.
use Prim.Native.Nat.{ℕ, zero, suc}
use mathlib.Core.Path.{◌≡◌, refl, ap, ◌∙◌}
use mathlib.Core.Bool.{false}
use mathlib.Core.List.{List, [], ◌∷◌}
use borrow.Author.Tests.{eqb-true, not-false}
use lib.Dec.{eqb}
use lib.ListN.{length, replicate}
use Rattle.definition.specs.Notation.{any}
use Rattle.definition.specs.Request.{nonzero}
use Rattle.definition.specs.Valid.{All}
use Rattle.definition.proofs.Alls.{none_pass}
use Rattle.definition.proofs.Any.{none_any}

pub zeros-only : (l : List ℕ) → any nonzero l ≡ false → l ≡ replicate (length l) 0
unfolding any
zeros-only [] h = refl
zeros-only (x ∷ l) h =
    let a : All (λ (y : ℕ). nonzero y ≡ false) (x ∷ l) = none_pass nonzero (x ∷ l) h in
    ap (λ (y : ℕ). y ∷ l) (eqb-true x 0 (not-false (eqb x 0) a.0))
    ∙ ap (λ (t : List ℕ). 0 ∷ t) (zeros-only l (none_any nonzero l a.1))

pub only-zeros : (k : ℕ) → any nonzero (replicate k 0) ≡ false
unfolding any
only-zeros zero = refl
only-zeros (suc k) = only-zeros k
