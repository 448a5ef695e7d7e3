-- Where no byte has an access, nothing is refused and every code stays.
use Prim.Native.Nat.{ℕ, zero, suc, ◌≤◌, ◌<◌}
use mathlib.Core.Path.{◌≡◌, refl, sym, ap, ap₂, ◌∙◌}
use mathlib.Core.Option.{Option, none}
use mathlib.Core.List.{List, [], ◌∷◌, ◌++◌}
use native.Mathlib.Decide.{dec_lt}
use native.Mathlib.Omega.{arith}
use lib.ListN.{length, get_or, take, drop, take-append-drop}
use Rattle.definition.specs.Notation.{◌or◌, first_refusal}
use Rattle.definition.specs.Permission.{AccessKind, NodeRelation}
use Rattle.definition.specs.Tree.{relation}
use Rattle.permission.specs.Codes.{refusal_code, next_code}
use Rattle.std.specs.Prelude.{Ok}
use Rattle.visit.specs.declared.Effect.TheVariants.{Stays}
use Rattle.visit.specs.declared.Reach.{Reach}
use Rattle.visit.specs.Walk.{ToldRow, ToldOf, access_at, planned, codes_refusal, codes_after, row_at, walk_after}
use Rattle.visit.proofs.Steps.{no-refusal, no_change}
use Rattle.visit.proofs.Rows.{planned-at, planned-length}
use Rattle.visit.proofs.Places.{told-node}

none-behind : (xs : List (Option AccessKind)) (i : ℕ) → length xs ≤ i → get_or xs i none ≡ none
none-behind [] i l = refl
none-behind (x ∷ xs) zero l = absurd (omega arith)
none-behind (x ∷ xs) (suc i) l = none-behind xs i (omega arith)

codes-stay : (r : NodeRelation) (xs : List (Option AccessKind)) (cs : List ℕ) → ((i : ℕ) → get_or xs i none ≡ none) → (codes_refusal r xs cs ≡ 0) × (codes_after r xs cs ≡ cs)
unfolding codes_refusal codes_after
codes-stay r xs [] h = (refl, refl)
codes-stay r [] (c ∷ cs) h = (refl, refl)
codes-stay r (x ∷ xs) (c ∷ cs) h =
    let rest = codes-stay r xs cs (λ i. h (suc i)) in (
      ap₂ (λ (m n : ℕ). m or n) (ap (λ (y : Option AccessKind). refusal_code y r c) (h 0) ∙ no-refusal r c) rest.0,
      ap₂ (λ (d : ℕ) (ds : List ℕ). d ∷ ds) (ap (λ (y : Option AccessKind). next_code y r c) (h 0) ∙ no_change r c) rest.1,
    )

module _ (v : Reach) (lent : List ℕ) (h : (i : ℕ) → i < v.len → access_at v.what lent i ≡ none) where
  none-planned : (i : ℕ) → get_or (planned v lent) i none ≡ none
  none-planned i = elim (dec_lt i v.len) [
    | yes l ↦ planned-at v.what v.len lent i l ∙ h i l
    | no l ↦ none-behind (planned v lent) i (omega (arith, planned-length v.what v.len lent))
  ]

  row_stays : (r : NodeRelation) (row : List ℕ) → ToldRow v lent r row (Ok Stays)
  row_stays r row =
      let stay = codes-stay r (planned v lent) (drop v.from row) none-planned in
      (stay.0, sym (ap (λ (cs : List ℕ). take v.from row ++ cs) stay.1 ∙ take-append-drop v.from row))

  pub untouched : (ps codes ns : List ℕ) → ToldOf v ps lent codes ns (Ok Stays)
  unfolding first_refusal walk_after
  untouched ps codes [] = (refl, refl)
  untouched ps codes (n ∷ ns) =
      let here = told-node v ps lent codes n (Ok Stays) (row_stays (relation ps n v.node) (row_at v.width n codes)) in
      let rest = untouched ps codes ns in
      (ap₂ (λ (m n : ℕ). m or n) here.0 rest.0, rest.1 ∙ ap (walk_after v ps lent ns) here.1)
