-- A test that some element passes, as a fold with no way out.
use Rattle.std.proofs.Common.{◌≡◌, ◌∙◌, sym, Bool, true, false, ◌||◌, List, [], ◌∷◌, refl}
use mathlib.Core.Bool.{or-false}
use Rattle.std.specs.Prelude.{if◌then◌else◌}
use Rattle.std.specs.List.{fold}
use Rattle.definition.specs.Notation.{any}

or-next : (b t r : Bool) → (b || t) || r ≡ b || (if t then true else r)
or-next true t r = refl
or-next false true r = refl
or-next false false r = refl

fold-or : {A : Type 0} (test : A → Bool) (b : Bool) (l : List A) → fold (λ t x. t || test x) b l ≡ b || any test l
unfolding any
fold-or test b [] = sym (or-false b)
fold-or test b (x ∷ xs) = fold-or test (b || test x) xs ∙ or-next b (test x) (any test xs)

pub any_is_fold : {A : Type 0} (test : A → Bool) (l : List A) → any test l ≡ fold (λ t x. t || test x) false l
any_is_fold test l = sym (fold-or test false l)
