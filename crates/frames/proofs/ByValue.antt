-- Lists by value: an entry at a place, how many entries there are, and a lent list loaded.
use Prim.Native.Nat.{ℕ, zero, suc, ◌<◌, ◌≤◌}
use mathlib.Core.Path.{◌≡◌, refl, sym, ap, ◌∙◌}
use mathlib.Core.List.{List, [], ◌∷◌, ◌++◌}
use native.Mathlib.Nat.{suc-ne-zero, suc_inj}
use native.Mathlib.Omega.{arith}
use lib.ListN.{length, take, drop, replicate, length-replicate}
use Rattle.frames.specs.List.{no_entry, laid, loaded}
use Rattle.frames.specs.declared.Entry.{Entry}

-- ---- a lent list of 64 entries is loaded as it is
laid-all : (xs ds : List Entry) → length xs ≡ length ds → laid xs ds ≡ xs
laid-all [] [] e = refl
laid-all [] (d ∷ ds) e = absurd (suc-ne-zero (length ds) (sym e))
laid-all (x ∷ xs) [] e = absurd (suc-ne-zero (length xs) e)
laid-all (x ∷ xs) (d ∷ ds) e = ap {B = List Entry} (λ r. x ∷ r) (laid-all xs ds (suc_inj e))

-- as many entries as there are in both, and the rest of those below
pub laid-front : (n : ℕ) (xs ds : List Entry) → n ≤ length xs → n ≤ length ds → (n < length xs → n ≡ length ds) → take n xs ++ drop n ds ≡ laid xs ds
laid-front zero [] ds h l e = refl
laid-front zero (x ∷ xs) [] h l e = refl
laid-front zero (x ∷ xs) (d ∷ ds) h l e = let z : ◌≡◌ {A = ℕ} 0 (suc (length ds)) = e (omega arith) in absurd (omega arith)
laid-front (suc n) [] ds h l e = absurd (omega arith)
laid-front (suc n) (x ∷ xs) [] h l e = absurd (omega arith)
laid-front (suc n) (x ∷ xs) (d ∷ ds) h l e =
    ap {B = List Entry} (λ r. x ∷ r) (laid-front n xs ds (omega arith) (omega arith) (λ m. let s : suc n ≡ suc (length ds) = e (omega arith) in omega arith))

pub loaded-all : (xs : List Entry) → length xs ≡ 64 → loaded xs ≡ xs
loaded-all xs e = laid-all xs (replicate 64 no_entry) (e ∙ sym (length-replicate 64 no_entry))
