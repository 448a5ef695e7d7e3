-- The nodes that a visit has left at a child m of some node: m, its descendants, and the siblings after it with theirs. A first child or a next sibling
-- says how to go on: what is left at m is m, what is left at its first child, and what is left at its next sibling (`left_step`).
use Prim.Native.Nat.{ℕ, zero, suc, ◌+◌, ◌≤◌, ◌<◌}
use mathlib.Core.Path.{◌≡◌, refl, sym, ap, ap₂, subst, ◌∙◌}
use mathlib.Core.List.{List, [], ◌∷◌, ◌++◌, append-nil}
use native.Mathlib.Numerals.{add-one}
use native.Mathlib.Nat.{le_refl}
use native.Mathlib.Decide.{ℕ_discrete, dec_lt}
use native.Mathlib.Omega.{arith}
use borrow.Author.Tests.{eq-eqb, ne_eqb}
use lib.ListN.{length, get_or, drop, drop_of_length-le}
use lib.Seq.{drop-cons}
use Rattle.definition.specs.Notation.{◌or◌, first_refusal}
use Rattle.definition.proofs.Booleans.{or-none}
use Rattle.definition.proofs.Lists.{first-append}
use Rattle.definition.proofs.Trees.{Parents, parent-earlier}
use Rattle.definition.proofs.Order.{walk}
use Rattle.std.specs.Prelude.{Ok, Err}
use Rattle.refusal.specs.Number.{number}
use Rattle.refusal.specs.declared.Refusal.{Refusal}
use Rattle.refusal.proofs.Numbers.{number_positive}
use Rattle.visit.specs.declared.Effect.{Effect}
use Rattle.visit.specs.declared.Effect.TheVariants.{Stays, Changes}
use Rattle.visit.specs.declared.Reach.{Reach}
use Rattle.visit.specs.Plan.{child_from, next_sibling}
use Rattle.visit.specs.Walk.{Told, ToldOf, together, below, subtree, nodes_from, node_refusal, node_after, walk_refusal, walk_after}
use Rattle.visit.proofs.Rows.{or-positive, changes-not-stays}
use Rattle.visit.proofs.Walks.{at-child, at-spared, at_other, at-end}

-- ---- the search for a child, at node m
module _ (s n m p : ℕ) (qs : List ℕ) where
  child-here : p ≡ n → (m ≡ s → ⊥) → child_from s n m (p ∷ qs) ≡ m
  unfolding child_from
  child-here e h = rw (eq-eqb p n e, ne_eqb m s h)

  child-spared : p ≡ n → m ≡ s → child_from s n m (p ∷ qs) ≡ child_from s n (suc m) qs
  unfolding child_from
  child-spared e h = rw (eq-eqb p n e, eq-eqb m s h)

  child-other : (p ≡ n → ⊥) → child_from s n m (p ∷ qs) ≡ child_from s n (suc m) qs
  unfolding child_from
  child-other e = rw (ne_eqb p n e)

module _ (s : ℕ) (ps : List ℕ) (n m : ℕ) where
  pub search-here : m < length ps → get_or ps m 0 ≡ n → (m ≡ s → ⊥) → child_from s n m (drop m ps) ≡ m
  search-here l e h = ap (child_from s n m) (drop-cons ps m 0 l) ∙ child-here s n m (get_or ps m 0) (drop (suc m) ps) e h

  pub search-spared : m < length ps → get_or ps m 0 ≡ n → m ≡ s → child_from s n m (drop m ps) ≡ child_from s n (m + 1) (drop (m + 1) ps)
  search-spared l e h = rw (add-one m) (ap (child_from s n m) (drop-cons ps m 0 l) ∙ child-spared s n m (get_or ps m 0) (drop (suc m) ps) e h)

  pub search-other : m < length ps → (get_or ps m 0 ≡ n → ⊥) → child_from s n m (drop m ps) ≡ child_from s n (m + 1) (drop (m + 1) ps)
  search-other l e = rw (add-one m) (ap (child_from s n m) (drop-cons ps m 0 l) ∙ child-other s n m (get_or ps m 0) (drop (suc m) ps) e)

  pub search-end : length ps ≤ m → child_from s n m (drop m ps) ≡ 0
  unfolding child_from
  search-end l = ap (child_from s n m) (drop_of_length-le ps l)

-- a child is later than its parent
pub search-from : (s : ℕ) (ps : List ℕ) → Parents ps → (k steps m : ℕ) → m + steps ≡ k + 1 → 0 < m → child_from s k m (drop m ps) ≡ child_from s k (k + 1) (drop (k + 1) ps)
search-from s ps tree k zero m e z = ap (λ (i : ℕ). child_from s k i (drop i ps)) (omega arith)
search-from s ps tree k (suc steps) m e z =
    elim (dec_lt m (length ps)) [
      | yes l ↦ search-other s ps k m l (λ q. absurd (omega (arith, parent-earlier ps tree m z))) ∙ search-from s ps tree k steps (m + 1) (omega arith) (omega arith)
      | no l ↦ search-end s ps k m (omega arith) ∙ sym (search-end s ps k (k + 1) (omega arith))
    ]

pub sibling-root : (s : ℕ) (ps : List ℕ) (n : ℕ) → n ≡ 0 → next_sibling s ps n ≡ 0
unfolding next_sibling
sibling-root s ps zero z = refl
sibling-root s ps (suc n) z = absurd (omega arith)

pub sibling-at : (s : ℕ) (ps : List ℕ) (n : ℕ) → 0 < n → next_sibling s ps n ≡ child_from s (get_or ps n 0) (n + 1) (drop (n + 1) ps)
unfolding next_sibling
sibling-at s ps zero z = absurd (omega arith)
sibling-at s ps (suc n) z = refl

-- ---- what is left of a visit
unfoldable pub left : ℕ → List ℕ → ℕ → List ℕ
left s ps zero = []
left s ps (suc m) = walk s (get_or ps (suc m) 0) (suc m) (drop (suc m) ps)

left_at : (s : ℕ) (ps : List ℕ) (m : ℕ) → 0 < m → left s ps m ≡ walk s (get_or ps m 0) m (drop m ps)
unfolding left
left_at s ps zero z = absurd (omega arith)
left_at s ps (suc m) z = refl

pub left-none : (s : ℕ) (ps : List ℕ) (m : ℕ) → m ≡ 0 → left s ps m ≡ []
unfolding left
left-none s ps zero z = refl
left-none s ps (suc m) z = absurd (omega arith)

-- x is where the visit of the descendants of n goes on, from node m
pub record Found (s : ℕ) (ps : List ℕ) (n m x : ℕ) : Type 0 where
  pub same : walk s n m (drop m ps) ≡ left s ps x
  pub inside : 0 < x → (m ≤ x) × (x < length ps) × (x ≡ s → ⊥)

module _ (s : ℕ) (ps : List ℕ) (n : ℕ) where
  none_found : (m : ℕ) → length ps ≤ m → Found s ps n m (child_from s n m (drop m ps))
  none_found m l =
      let z = search-end s ps n m l in
      record { same = at-end s ps n m l ∙ sym (left-none s ps _ z); inside = λ q. absurd (omega arith) }

  pub found : (steps m : ℕ) → length ps ≤ m + steps → 0 < m → Found s ps n m (child_from s n m (drop m ps))
  found zero m h z = none_found m (omega arith)
  found (suc steps) m h z =
      elim (dec_lt m (length ps)) [
        | no l ↦ none_found m (omega arith)
        | yes l ↦
            let rest = found steps (m + 1) (omega arith) (omega arith) in
            elim (ℕ_discrete (get_or ps m 0) n) [
              | no e ↦
                  subst (Found s ps n m) (sym (search-other s ps n m l e))
                  (record { same = at_other s ps n m l e ∙ rest.same; inside = λ q. (omega (arith, (rest.inside q).0), (rest.inside q).1, (rest.inside q).2) })
              | yes e ↦
                  elim (ℕ_discrete m s) [
                    | yes f ↦
                        subst (Found s ps n m) (sym (search-spared s ps n m l e f))
                        (record { same = at-spared s ps n m l e f ∙ rest.same; inside = λ q. (omega (arith, (rest.inside q).0), (rest.inside q).1, (rest.inside q).2) })
                    | no f ↦
                        subst (Found s ps n m) (sym (search-here s ps n m l e f))
                        (record { same = sym (left_at s ps m z ∙ ap (λ (k : ℕ). walk s k m (drop m ps)) e); inside = λ q. (le_refl m, l, f) })
                  ]
            ]
      ]

  pub found_from : (m : ℕ) → 0 < m → Found s ps n m (child_from s n m (drop m ps))
  found_from m z = found (length ps) m (omega arith) z

nodes-at : (s : ℕ) (ps : List ℕ) (m : ℕ) → 0 < m → nodes_from s ps m ≡ left s ps m
unfolding nodes_from left
nodes-at s ps zero z = absurd (omega arith)
nodes-at s ps (suc m) z = refl

pub nodes-root : (s : ℕ) (ps : List ℕ) → nodes_from s ps 0 ≡ subtree s 0 ps
unfolding nodes_from
nodes-root s ps = refl

-- what is left at m, by its first child and its next sibling
module _ (s : ℕ) (ps : List ℕ) where
  left_below : (m child : ℕ) → child ≡ child_from s m (m + 1) (drop (m + 1) ps) → below s m ps ≡ left s ps child
  left_below m child c = (found_from s ps m (m + 1) (omega arith)).same ∙ ap (left s ps) (sym c)

  step : (m child sibling : ℕ) → m < length ps → (m ≡ s → ⊥) → child ≡ child_from s m (m + 1) (drop (m + 1) ps) → sibling ≡ next_sibling s ps m
      → nodes_from s ps m ≡ m ∷ (left s ps child ++ left s ps sibling)
  unfolding nodes_from next_sibling
  step zero child sibling l f c b =
      ap (λ (xs : List ℕ). 0 ∷ xs) (left_below 0 child c ∙ sym (append-nil (left s ps child)) ∙ ap (λ (xs : List ℕ). left s ps child ++ xs) (sym (left-none s ps sibling b)))
  step (suc m) child sibling l f c b =
      at-child s ps (get_or ps (suc m) 0) (suc m) l refl f
      ∙ ap₂ (λ (xs ys : List ℕ). suc m ∷ (xs ++ ys)) (left_below (suc m) child c) ((found_from s ps (get_or ps (suc m) 0) (suc m + 1) (omega arith)).same ∙ ap (left s ps) (sym b))

  pub child-later : (m child : ℕ) → child ≡ child_from s m (m + 1) (drop (m + 1) ps) → (child ≡ 0 → ⊥) → (m < child) × (child < length ps) × (child ≡ s → ⊥)
  child-later m child c q = rw c (let i = (found_from s ps m (m + 1) (omega arith)).inside (omega arith) in (omega (arith, i.0), i.1, i.2))

  pub sibling-later : (m sibling : ℕ) → sibling ≡ next_sibling s ps m → (sibling ≡ 0 → ⊥) → (m < sibling) × (sibling < length ps) × (sibling ≡ s → ⊥)
  unfolding next_sibling
  sibling-later zero sibling b q = absurd (q b)
  sibling-later (suc m) sibling b q = rw b (let i = (found_from s ps (get_or ps (suc m) 0) (suc m + 1) (omega arith)).inside (omega arith) in (omega (arith, i.0), i.1, i.2))

module _ (v : Reach) (ps lent : List ℕ) where
  abbrev refusal : List ℕ → List ℕ → ℕ
  refusal codes ns = walk_refusal v ps lent codes ns

  abbrev after : List ℕ → List ℕ → List ℕ
  after ns codes = walk_after v ps lent ns codes

  after-append : (xs ys codes : List ℕ) → after (xs ++ ys) codes ≡ after ys (after xs codes)
  unfolding walk_after
  after-append [] ys codes = refl
  after-append (x ∷ xs) ys codes = after-append xs ys (node_after v ps lent x codes)

  abbrev at : ℕ → List ℕ
  at m = nodes_from v.spared ps m

  abbrev rest : ℕ → List ℕ
  rest m = left v.spared ps m

  -- ---- the check: it goes on at m, after changes or none, and tells of the nodes ns
  abbrev pub Goes : List ℕ → List ℕ → ℕ → Effect → Type 0
  Goes codes ns m effect = (refusal codes (at m) ≡ refusal codes ns) × (effect ≡ Stays → after (at m) codes ≡ after ns codes)

  -- what a check told of some nodes, once it is noted
  abbrev pub Noted : ℕ → List ℕ → List ℕ → Effect → Effect → Type 0
  Noted refused before later effect effect' = (refused ≡ 0) × (effect' ≡ Stays → (effect ≡ Stays) × (before ≡ later))

  pub note : (refused : ℕ) (before later : List ℕ) (effect told : Effect) → Told refused before later (Ok told) → Noted refused before later effect (together effect told)
  note refused before later Stays Stays t = (t.0, λ z. (refl, t.1))
  note refused before later Stays Changes t = (t, λ z. absurd (changes-not-stays z))
  note refused before later Changes Stays t = (t.0, λ z. absurd (changes-not-stays z))
  note refused before later Changes Changes t = (t, λ z. absurd (changes-not-stays z))

  module _ (codes ns : List ℕ) (m child sibling : ℕ) (l : m < length ps) (f : m ≡ v.spared → ⊥)
      (c : child ≡ child_from v.spared m (m + 1) (drop (m + 1) ps)) (b : sibling ≡ next_sibling v.spared ps m) where
    turn : refusal codes (at m) ≡ (node_refusal v ps lent codes m or (refusal codes (rest child) or refusal codes (rest sibling)))
    unfolding first_refusal
    turn =
        ap (refusal codes) (step v.spared ps m child sibling l f c b)
        ∙ ap (λ (k : ℕ). node_refusal v ps lent codes m or k) (first-append (node_refusal v ps lent codes) (rest child) (rest sibling))

    change : after (at m) codes ≡ after (rest sibling) (after (rest child) (node_after v ps lent m codes))
    unfolding walk_after
    change =
        ap (λ (xs : List ℕ). after xs codes) (step v.spared ps m child sibling l f c b)
        ∙ after-append (rest child) (rest sibling) (node_after v ps lent m codes)

    nothing-refused : (x : ℕ) → x ≡ 0 → refusal codes (rest x) ≡ 0
    unfolding first_refusal
    nothing-refused x q = ap (refusal codes) (left-none v.spared ps x q)

    module _ (effect : Effect) (goes : Goes codes ns m effect) where
      -- the node is refused
      pub refused-node : (r : Refusal) → Told (node_refusal v ps lent codes m) codes (node_after v ps lent m codes) (Err r) → ToldOf v ps lent codes ns (Err r)
      refused-node r t =
          sym (turn ∙ ap (λ (k : ℕ). k or (refusal codes (rest child) or refusal codes (rest sibling))) (sym t) ∙ or-positive (number r) _ (number_positive r)) ∙ goes.0

      module _ (effect' : Effect) (noted : Noted (node_refusal v ps lent codes m) codes (node_after v ps lent m codes) effect effect') where
        passed : (refusal codes (rest child) or refusal codes (rest sibling)) ≡ refusal codes ns
        passed = sym (turn ∙ ap (λ (k : ℕ). k or (refusal codes (rest child) or refusal codes (rest sibling))) noted.0) ∙ goes.0

        stayed : effect' ≡ Stays → after (rest sibling) (after (rest child) codes) ≡ after ns codes
        stayed z = ap (λ (cs : List ℕ). after (rest sibling) (after (rest child) cs)) (noted.1 z).1 ∙ sym change ∙ goes.1 (noted.1 z).0

        unchanged : (x : ℕ) (cs : List ℕ) → x ≡ 0 → after (rest x) cs ≡ cs
        unfolding walk_after
        unchanged x cs q = ap (λ (xs : List ℕ). after xs cs) (left-none v.spared ps x q)

        -- nothing is left
        pub done-last : sibling ≡ 0 → child ≡ 0 → ToldOf v ps lent codes ns (Ok effect')
        done-last p q = told effect' (λ z. stayed z)
          where
            none : refusal codes ns ≡ 0
            none = sym (ap₂ ◌or◌ (sym (nothing-refused child q)) (sym (nothing-refused sibling p)) ∙ passed)

            told : (e : Effect) → (e ≡ Stays → after (rest sibling) (after (rest child) codes) ≡ after ns codes) → ToldOf v ps lent codes ns (Ok e)
            told Changes h = none
            told Stays h = (none, sym (unchanged sibling (after (rest child) codes) p ∙ unchanged child codes q) ∙ h refl)

        -- its children are left
        pub goes-child : sibling ≡ 0 → (child ≡ 0 → ⊥) → Goes codes ns child effect'
        goes-child p q =
            let e = nodes-at v.spared ps child (omega arith) in (
              ap (refusal codes) e ∙ sym (or-none (refusal codes (rest child))) ∙ ap (λ (k : ℕ). refusal codes (rest child) or k) (sym (nothing-refused sibling p)) ∙ passed,
              λ z. ap (λ (xs : List ℕ). after xs codes) e ∙ sym (unchanged sibling (after (rest child) codes) p) ∙ stayed z,
            )

        -- it has none
        pub goes-leaf : (sibling ≡ 0 → ⊥) → child ≡ 0 → Goes codes ns sibling effect'
        goes-leaf p q =
            let e = nodes-at v.spared ps sibling (omega arith) in (
              ap (refusal codes) e ∙ ap (λ (k : ℕ). k or refusal codes (rest sibling)) (sym (nothing-refused child q)) ∙ passed,
              λ z. ap (λ (xs : List ℕ). after xs codes) e ∙ ap (after (rest sibling)) (sym (unchanged child codes q)) ∙ stayed z,
            )

        -- its children are checked
        module _ (p : sibling ≡ 0 → ⊥) (q : child ≡ 0 → ⊥) where
          below-same : at child ≡ rest child
          below-same = nodes-at v.spared ps child (omega arith)

          pub refused-below : (r : Refusal) → ToldOf v ps lent codes (at child) (Err r) → ToldOf v ps lent codes ns (Err r)
          refused-below r t =
              sym (or-positive (number r) (refusal codes (rest sibling)) (number_positive r)) ∙ ap (λ (k : ℕ). k or refusal codes (rest sibling)) (t ∙ ap (refusal codes) below-same) ∙ passed

          pub goes-sibling : (effect'' : Effect) → Noted (refusal codes (at child)) codes (after (at child) codes) effect' effect'' → Goes codes ns sibling effect''
          goes-sibling effect'' noted'' =
              let e = nodes-at v.spared ps sibling (omega arith) in (
                ap (refusal codes) e ∙ ap (λ (k : ℕ). k or refusal codes (rest sibling)) (sym noted''.0 ∙ ap (refusal codes) below-same) ∙ passed,
                λ z. ap (λ (xs : List ℕ). after xs codes) e ∙ ap (after (rest sibling)) ((noted''.1 z).1 ∙ ap (λ (xs : List ℕ). after xs codes) below-same) ∙ stayed (noted''.1 z).0,
              )

    -- ---- the change: the node is changed
    module _ (codes' : List ℕ) (h : codes' ≡ node_after v ps lent m codes) where
      changed : after (at m) codes ≡ after (rest sibling) (after (rest child) codes')
      changed = change ∙ ap (λ (cs : List ℕ). after (rest sibling) (after (rest child) cs)) (sym h)

      nothing_left : (x : ℕ) (cs : List ℕ) → x ≡ 0 → after (rest x) cs ≡ cs
      unfolding walk_after
      nothing_left x cs q = ap (λ (xs : List ℕ). after xs cs) (left-none v.spared ps x q)

      pub changed-last : sibling ≡ 0 → child ≡ 0 → codes' ≡ after (at m) codes
      changed-last p q = sym (changed ∙ nothing_left sibling (after (rest child) codes') p ∙ nothing_left child codes' q)

      pub changed-child : sibling ≡ 0 → (child ≡ 0 → ⊥) → after (at child) codes' ≡ after (at m) codes
      changed-child p q = ap (λ (xs : List ℕ). after xs codes') (nodes-at v.spared ps child (omega arith)) ∙ sym (changed ∙ nothing_left sibling (after (rest child) codes') p)

      pub changed-leaf : (sibling ≡ 0 → ⊥) → child ≡ 0 → after (at sibling) codes' ≡ after (at m) codes
      changed-leaf p q = ap (λ (xs : List ℕ). after xs codes') (nodes-at v.spared ps sibling (omega arith)) ∙ sym (changed ∙ ap (after (rest sibling)) (nothing_left child codes' q))

      pub changed-below : (sibling ≡ 0 → ⊥) → (child ≡ 0 → ⊥) → (deeper : List ℕ) → deeper ≡ after (at child) codes' → after (at sibling) deeper ≡ after (at m) codes
      changed-below p q deeper e =
          ap (λ (xs : List ℕ). after xs deeper) (nodes-at v.spared ps sibling (omega arith))
          ∙ sym (changed ∙ ap (after (rest sibling)) (sym (e ∙ ap (λ (xs : List ℕ). after xs codes') (nodes-at v.spared ps child (omega arith)))))
