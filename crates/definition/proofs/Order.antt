-- The order of visiting: each node once, parents before children, children in the order they were made, the spared node and its descendants left out.
-- Each once: a sum over the order is the sum over 0, 1, .. (`order-sum`). In order: a node is followed at once by its descendants (`piece`).
use Rattle.std.specs.Prelude.{if◌then◌else◌}
use Prim.Native.Nat.{ℕ, zero, suc, ◌+◌, ◌≤◌, ◌<◌}
use mathlib.Core.Path.{◌≡◌, refl, sym, ap, ap₂, subst, ◌∙◌}
use mathlib.Core.Bool.{Bool, true, false, not, ◌||◌, or-true}
use mathlib.Core.Logic.{inl, inr, ⊎_elim}
use mathlib.Core.Option.{Option, none, some}
use mathlib.Core.List.{List, [], ◌∷◌, ◌++◌}
use native.Mathlib.Nat.{zero-add}
use native.Mathlib.Decide.{ℕ_discrete, dec_lt}
use native.Mathlib.Omega.{arith}
use lib.Dec.{eqb}
use lib.ListN.{length, get_or, drop, length-drop}
use lib.Seq.{drop-cons}
use borrow.Author.Tests.{eq-eqb, ne_eqb}
use Rattle.definition.specs.Notation.{table_from, table, filter, sum_of}
use Rattle.definition.specs.Tree.{is_above_within, is_above, is_spared, descendants, preorder, visiting_order}
use Rattle.definition.specs.Valid.{All}
use Rattle.definition.proofs.Booleans.{or-neither}
use Rattle.definition.proofs.Lists.{table-length}
use Rattle.definition.proofs.Alls.{all_append}
use Rattle.definition.proofs.Counts.{count, Member, Before, sum-append, sum-length, range-once, count_past, counted-member, member_right, member-split, before-left, before-right, filter-in, filter-out, filter-append, filter-all, filter_none, filter-kept, count-filter, before-filter}
use Rattle.definition.proofs.Trees.{Parents, parent-earlier, above_parent, root-above, not-above-smaller}

-- ---- one step of the order: node m, whose parent is p
module _ (n m p : ℕ) (qs : List ℕ) where
  child-step : p ≡ n → descendants n m (p ∷ qs) ≡ m ∷ (descendants m (suc m) qs ++ descendants n (suc m) qs)
  unfolding descendants
  child-step e = rw (descendants, eq-eqb p n e)

  other_step : (p ≡ n → ⊥) → descendants n m (p ∷ qs) ≡ descendants n (suc m) qs
  unfolding descendants
  other_step e = rw (descendants, ne_eqb p n e)

-- the parents from m on begin with that of m
parent_of : (ps : List ℕ) (m p : ℕ) (qs : List ℕ) → drop m ps ≡ p ∷ qs → (get_or ps m 0 ≡ p) × (drop (suc m) ps ≡ qs)
parent_of ps m p qs e =
    let c : drop m ps ≡ get_or ps m 0 ∷ drop (suc m) ps = drop-cons ps m 0 (omega (arith, ap length e, length-drop m ps)) in
    (cc, cc)

root-step : (ps : List ℕ) → 0 < length ps → preorder ps ≡ 0 ∷ descendants 0 1 (drop 1 ps)
unfolding preorder
root-step [] z = absurd (omega arith)
root-step (p ∷ ps) z = refl

-- where none is spared, all nodes are visited
pub none-spared : (ps : List ℕ) → visiting_order ps none ≡ preorder ps
unfolding visiting_order
none-spared ps = filter-all (λ n. not (is_spared ps none n)) (λ n. refl) (preorder ps)

-- ---- the order as a walk that does not go into s, as code does it
-- the descendants of n among the nodes m, m + 1, .., whose parents are listed, without s and its own
unfoldable pub walk : ℕ → ℕ → ℕ → List ℕ → List ℕ
walk s n m [] = []
walk s n m (p ∷ ps) = (if eqb p n then (if eqb m s then [] else m ∷ walk s m (suc m) ps) else []) ++ walk s n (suc m) ps

module _ (s n m p : ℕ) (qs : List ℕ) where
  pub walk-child : p ≡ n → (m ≡ s → ⊥) → walk s n m (p ∷ qs) ≡ m ∷ (walk s m (suc m) qs ++ walk s n (suc m) qs)
  unfolding walk
  walk-child e h = rw (eq-eqb p n e, ne_eqb m s h)

  pub walk-spared : p ≡ n → m ≡ s → walk s n m (p ∷ qs) ≡ walk s n (suc m) qs
  unfolding walk
  walk-spared e h = rw (eq-eqb p n e, eq-eqb m s h)

  pub walk-other : (p ≡ n → ⊥) → walk s n m (p ∷ qs) ≡ walk s n (suc m) qs
  unfolding walk
  walk-other e = rw (ne_eqb p n e)

-- where s is no node
same-walk : (s n m : ℕ) (qs : List ℕ) → m + length qs ≤ s → descendants n m qs ≡ walk s n m qs
unfolding descendants walk
same-walk s n m [] h = refl
same-walk s n m (p ∷ qs) h =
    let own : descendants m (suc m) qs ≡ walk s m (suc m) qs = same-walk s m (suc m) qs (omega arith) in
    let others : descendants n (suc m) qs ≡ walk s n (suc m) qs = same-walk s n (suc m) qs (omega arith) in
    elim (ℕ_discrete p n) [
      | yes e ↦ child-step n m p qs e ∙ ap₂ (λ (xs ys : List ℕ). m ∷ (xs ++ ys)) own others ∙ sym (walk-child s n m p qs e (λ q. absurd (omega arith)))
      | no e ↦ other_step n m p qs e ∙ others ∙ sym (walk-other s n m p qs e)
    ]

pub walk_none : (ps : List ℕ) (s : ℕ) → length ps ≤ s → 0 < length ps → visiting_order ps none ≡ 0 ∷ walk s 0 1 (drop 1 ps)
walk_none ps s h z =
    none-spared ps ∙ root-step ps z ∙ ap (λ (l : List ℕ). 0 ∷ l) (same-walk s 0 1 (drop 1 ps) (omega (arith, length-drop 1 ps)))

module _ (ps : List ℕ) (tree : Parents ps) (s : ℕ) where
  abbrev visits : ℕ → Bool
  visits n = not (is_above ps s n)

  -- s lies above a child of n if it is that child or lies above n
  above-child : (n m p : ℕ) → 0 < m → get_or ps m 0 ≡ p → p ≡ n → is_above ps s m ≡ (eqb m s || is_above ps s n)
  above-child n m p z c e = above_parent ps tree s m z ∙ ap (λ (x : ℕ). eqb m s || is_above ps s x) (c ∙ e)

  -- below a spared node no node is visited
  all-spared : (n m : ℕ) (qs : List ℕ) → drop m ps ≡ qs → 0 < m → is_above ps s n ≡ true → filter visits (descendants n m qs) ≡ []
  unfolding descendants filter
  all-spared n m [] d z h = refl
  all-spared n m (p ∷ qs) d z h =
      let c = parent_of ps m p qs d in
      let others : filter visits (descendants n (suc m) qs) ≡ [] = all-spared n (suc m) qs c.1 (omega arith) h in
      elim (ℕ_discrete p n) [
        | yes e ↦
            let up : is_above ps s m ≡ true = above-child n m p z c.0 e ∙ rw h (or-true (eqb m s)) in
            ap (filter visits) (child-step n m p qs e)
            ∙ filter-out visits m (descendants m (suc m) qs ++ descendants n (suc m) qs) (ap not up)
            ∙ filter-append visits (descendants m (suc m) qs) (descendants n (suc m) qs)
            ∙ ap₂ ◌++◌ (all-spared m (suc m) qs c.1 (omega arith) up) others
        | no e ↦ ap (filter visits) (other_step n m p qs e) ∙ others
      ]

  spared-walk : (n m : ℕ) (qs : List ℕ) → drop m ps ≡ qs → 0 < m → is_above ps s n ≡ false → filter visits (descendants n m qs) ≡ walk s n m qs
  unfolding descendants filter walk
  spared-walk n m [] d z h = refl
  spared-walk n m (p ∷ qs) d z h =
      let c = parent_of ps m p qs d in
      let others : filter visits (descendants n (suc m) qs) ≡ walk s n (suc m) qs = spared-walk n (suc m) qs c.1 (omega arith) h in
      elim (ℕ_discrete p n) [
        | yes e ↦
            let up : is_above ps s m ≡ (eqb m s || is_above ps s n) = above-child n m p z c.0 e in
            let own = spared-walk m (suc m) qs c.1 (omega arith) in
            ap (filter visits) (child-step n m p qs e)
            ∙ elim (ℕ_discrete m s) [
              | yes q ↦
                  let up : is_above ps s m ≡ true = up ∙ rw (eq-eqb m s q) in
                  filter-out visits m (descendants m (suc m) qs ++ descendants n (suc m) qs) (ap not up)
                  ∙ filter-append visits (descendants m (suc m) qs) (descendants n (suc m) qs)
                  ∙ ap₂ ◌++◌ (all-spared m (suc m) qs c.1 (omega arith) up) others
                  ∙ sym (walk-spared s n m p qs e q)
              | no q ↦
                  let up : is_above ps s m ≡ false = up ∙ rw (ne_eqb m s q) h in
                  filter-in visits m (descendants m (suc m) qs ++ descendants n (suc m) qs) (ap not up)
                  ∙ ap (λ (l : List ℕ). m ∷ l) (filter-append visits (descendants m (suc m) qs) (descendants n (suc m) qs) ∙ ap₂ ◌++◌ (own up) others)
                  ∙ sym (walk-child s n m p qs e q)
            ]
        | no e ↦ ap (filter visits) (other_step n m p qs e) ∙ others ∙ sym (walk-other s n m p qs e)
      ]

  pub walk-some : 0 < s → 0 < length ps → visiting_order ps (some s) ≡ 0 ∷ walk s 0 1 (drop 1 ps)
  unfolding visiting_order
  walk-some z l =
      let root : is_above ps s 0 ≡ false = not-above-smaller ps tree s 0 z in
      ap (filter visits) (root-step ps l)
      ∙ filter-in visits 0 (descendants 0 1 (drop 1 ps)) (ap not root)
      ∙ ap (λ (ns : List ℕ). 0 ∷ ns) (spared-walk 0 1 (drop 1 ps) refl (omega arith) root)

-- ---- which nodes are visited
-- f 0 + f 1 + .., of the given number
abbrev sum_to : ℕ → (ℕ → ℕ) → ℕ
sum_to zero f = 0
sum_to (suc m) f = sum_to m f + f m

sum-zero : (m : ℕ) → sum_to m (λ n. 0) ≡ 0
sum-zero zero = refl
sum-zero (suc m) = omega (arith, sum-zero m)

sum_same : (m : ℕ) (f g : ℕ → ℕ) → ((n : ℕ) → f n ≡ g n) → sum_to m f ≡ sum_to m g
sum_same zero f g h = refl
sum_same (suc m) f g h = ap₂ ◌+◌ (sum_same m f g h) (h m)

-- c more at one place
module _ (p c : ℕ) (f : ℕ → ℕ) where
  abbrev more : ℕ → ℕ
  more n = (if eqb p n then c else 0) + f n

  not-yet-more : (m : ℕ) → m ≤ p → sum_to m more ≡ sum_to m f
  not-yet-more zero h = refl
  not-yet-more (suc m) h = rw (ne_eqb p m (omega arith)) (omega (arith, not-yet-more m (omega arith)))

  sum_more : (m : ℕ) → p < m → sum_to m more ≡ c + sum_to m f
  sum_more zero h = absurd (omega arith)
  sum_more (suc m) h =
      elim (ℕ_discrete p m) [
        | yes e ↦ rw (eq-eqb p m e) (omega (arith, not-yet-more m (omega arith)))
        | no e ↦ rw (ne_eqb p m e) (omega (arith, sum_more m (omega arith)))
      ]

-- f of each node that one step of the order adds
step_sum : (f : ℕ → ℕ) (n m p : ℕ) (qs : List ℕ)
    → sum_of f (descendants n m (p ∷ qs)) ≡ (if eqb p n then f m + sum_of f (descendants m (suc m) qs) else 0) + sum_of f (descendants n (suc m) qs)
unfolding sum_of
step_sum f n m p qs =
    elim (ℕ_discrete p n) [
      | yes e ↦ rw (child-step n m p qs e, eq-eqb p n e) (omega (arith, sum-append f (descendants m (suc m) qs) (descendants n (suc m) qs)))
      | no e ↦ rw (other_step n m p qs e, ne_eqb p n e) (sym (zero-add (sum_of f (descendants n (suc m) qs))))
    ]

-- over all nodes before m: node m and its descendants come once more
step-sums : (f : ℕ → ℕ) (m p : ℕ) (qs : List ℕ) → p < m
    → sum_to m (λ n. sum_of f (descendants n m (p ∷ qs))) ≡ (f m + sum_of f (descendants m (suc m) qs)) + sum_to m (λ n. sum_of f (descendants n (suc m) qs))
step-sums f m p qs l =
    let own : ℕ = f m + sum_of f (descendants m (suc m) qs) in
    sum_same m (λ n. sum_of f (descendants n m (p ∷ qs))) (more p own (λ n. sum_of f (descendants n (suc m) qs))) (λ n. step_sum f n m p qs)
    ∙ sum_more p own (λ n. sum_of f (descendants n (suc m) qs)) m l

descendants-below : (k n m : ℕ) (qs : List ℕ) → m + length qs ≤ k → All (λ j. j < k) (descendants n m qs)
unfolding descendants
descendants-below k n m [] h = tt
descendants-below k n m (p ∷ qs) h =
    let others : All (λ j. j < k) (descendants n (suc m) qs) = descendants-below k n (suc m) qs (omega arith) in
    elim (ℕ_discrete p n) [
      | yes e ↦
          subst (All (λ j. j < k)) (sym (child-step n m p qs e))
          (omega arith, all_append (λ j. j < k) (descendants m (suc m) qs) (descendants n (suc m) qs) (descendants-below k m (suc m) qs (omega arith)) others)
      | no e ↦ subst (All (λ j. j < k)) (sym (other_step n m p qs e)) others
    ]

order_below : (ps : List ℕ) → All (λ j. j < length ps) (preorder ps)
unfolding preorder
order_below [] = tt
order_below (p ∷ ps) = (omega arith, descendants-below (suc (length ps)) 0 1 ps (omega arith))

-- nothing but nodes is visited
pub visits-only-nodes : (ps : List ℕ) (s : Option ℕ) → All (λ j. j < length ps) (visiting_order ps s)
unfolding visiting_order
visits-only-nodes ps s = filter-kept (λ n. not (is_spared ps s n)) (λ j. j < length ps) (preorder ps) (order_below ps)

module _ (ps : List ℕ) (tree : Parents ps) where
  -- each of the nodes from m on descends from one node before m
  descendants-sum : (f : ℕ → ℕ) (m : ℕ) (qs : List ℕ) → drop m ps ≡ qs → 0 < m
      → sum_to m (λ n. sum_of f (descendants n m qs)) ≡ sum_of f (table_from m (length qs) (λ n. n))
  unfolding descendants sum_of table_from
  descendants-sum f m [] d z = sum-zero m
  descendants-sum f m (p ∷ qs) d z =
      let c = parent_of ps m p qs d in
      let l : p < m = subst (λ (x : ℕ). x < m) c.0 (parent-earlier ps tree m z) in
      omega (arith, step-sums f m p qs l, descendants-sum f (suc m) qs c.1 (omega arith))

-- a sum over the order is the sum over 0, 1, .., each once
pub order-sum : (ps : List ℕ) → Parents ps → (f : ℕ → ℕ) → sum_of f (preorder ps) ≡ sum_of f (table (length ps) (λ n. n))
unfolding preorder sum_of table_from
order-sum [] tree f = refl
order-sum (p ∷ ps) tree f = omega (arith, descendants-sum (p ∷ ps) tree f 1 ps refl (omega arith))

module _ (ps : List ℕ) (tree : Parents ps) where
  pub order-length : length (preorder ps) ≡ length ps
  order-length =
      sym (sum-length (preorder ps)) ∙ order-sum ps tree (λ n. 1) ∙ sum-length (table (length ps) (λ n. n)) ∙ table-length (λ n. n) 0 (length ps)

  -- each node is visited once
  pub visits-each : (j : ℕ) → j < length ps → count j (preorder ps) ≡ 1
  visits-each j l = order-sum ps tree (λ n. if eqb n j then 1 else 0) ∙ range-once j 0 (length ps) (omega arith) (omega arith)

  -- each but the spared node and its descendants
  pub visits-others : (s : Option ℕ) (j : ℕ) → j < length ps → count j (visiting_order ps s) ≡ (if is_spared ps s j then 0 else 1)
  unfolding visiting_order
  visits-others s j l = count-filter (λ n. not (is_spared ps s n)) j (preorder ps) ∙ rw (visits-each j l) (turned (is_spared ps s j) 1 0)
    where
      turned : (b : Bool) (x y : ℕ) → (if not b then x else y) ≡ (if b then y else x)
      turned true x y = refl
      turned false x y = refl

  -- no number stands in the order twice
  pub visits-once : (s : Option ℕ) (j : ℕ) → count j (visiting_order ps s) ≤ 1
  visits-once s j =
      elim (dec_lt j (length ps)) [
        | yes l ↦ subst (λ (c : ℕ). c ≤ 1) (sym (visits-others s j l)) (at_most (is_spared ps s j))
        | no l ↦ subst (λ (c : ℕ). c ≤ 1) (sym (count_past j (length ps) (visiting_order ps s) (visits-only-nodes ps s) (omega arith))) (omega arith)
      ]
    where
      at_most : (b : Bool) → (if b then 0 else 1) ≤ 1
      at_most true = omega arith
      at_most false = omega arith

  -- a visit that spares the root visits nothing
  pub root-spared : visiting_order ps (some 0) ≡ []
  unfolding visiting_order
  root-spared = filter_none (λ n. not (is_spared ps (some 0) n)) (λ n. ap not (root-above ps tree n)) (preorder ps)

-- ---- parents before children, children in the order they were made
module _ (ps : List ℕ) where
  -- a node and its descendants, as they follow each other
  abbrev subtree : ℕ → List ℕ
  subtree n = n ∷ descendants n (suc n) (drop (suc n) ps)

  child-listed : (n m : ℕ) (qs : List ℕ) → drop m ps ≡ qs → (j : ℕ) → m ≤ j → j < length ps → get_or ps j 0 ≡ n → Member j (descendants n m qs)
  child-listed n m [] d j a l e = absurd (omega (arith, ap length d, length-drop m ps))
  child-listed n m (p ∷ qs) d j a l e =
      let c = parent_of ps m p qs d in
      let later : m < j → Member j (descendants n (suc m) qs) = λ b. child-listed n (suc m) qs c.1 j b l e in
      elim (ℕ_discrete p n) [
        | yes q ↦
            subst (Member j) (sym (child-step n m p qs q))
            (elim (ℕ_discrete m j) [
              | yes i ↦ inl i
              | no i ↦ inr (member_right j (descendants m (suc m) qs) (descendants n (suc m) qs) (later (omega arith)))
            ])
        | no q ↦ subst (Member j) (sym (other_step n m p qs q)) (later (omega (arith, not-here q c.0)))
      ]
    where
      not-here : (p ≡ n → ⊥) → get_or ps m 0 ≡ p → (m ≡ j → ⊥)
      not-here q h i = q (sym h ∙ ap (λ (x : ℕ). get_or ps x 0) i ∙ e)

  -- what stands in order among the later nodes still does with one node more
  still_before : (a b n m p : ℕ) (qs : List ℕ) → Before a b (descendants n (suc m) qs) → Before a b (descendants n m (p ∷ qs))
  still_before a b n m p qs h =
      elim (ℕ_discrete p n) [
        | yes q ↦ subst (Before a b) (sym (child-step n m p qs q)) (inr (before-right a b (descendants m (suc m) qs) (descendants n (suc m) qs) h))
        | no q ↦ subst (Before a b) (sym (other_step n m p qs q)) h
      ]

  children-listed : (n m : ℕ) (qs : List ℕ) → drop m ps ≡ qs → (i j : ℕ) → m ≤ i → i < j → j < length ps → get_or ps i 0 ≡ n → get_or ps j 0 ≡ n
      → Before i j (descendants n m qs)
  children-listed n m [] d i j a b l e f = absurd (omega (arith, ap length d, length-drop m ps))
  children-listed n m (p ∷ qs) d i j a b l e f =
      let c = parent_of ps m p qs d in
      elim (ℕ_discrete m i) [
        | yes q ↦
            subst (Before i j) (sym (child-step n m p qs (sym c.0 ∙ ap (λ (x : ℕ). get_or ps x 0) q ∙ e)))
            (inl (q, member_right j (descendants m (suc m) qs) (descendants n (suc m) qs) (child-listed n (suc m) qs c.1 j (omega arith) l f)))
        | no q ↦ still_before i j n m p qs (children-listed n (suc m) qs c.1 i j (omega arith) b l e f)
      ]

  -- the subtree of a node stands in one piece
  piece : (a b q : ℕ) → Before a b (subtree q) → (n m : ℕ) (qs : List ℕ) → drop m ps ≡ qs → Member q (descendants n m qs) → Before a b (descendants n m qs)
  unfolding descendants
  piece a b q h n m [] d i = absurd i
  piece a b q h n m (p ∷ qs) d i =
      let c = parent_of ps m p qs d in
      let own = descendants m (suc m) qs in
      let others = descendants n (suc m) qs in
      let later : Member q others → Before a b others = piece a b q h n (suc m) qs c.1 in
      elim (ℕ_discrete p n) [
        | yes e ↦
            subst (Before a b) (sym (child-step n m p qs e))
            (⊎_elim (λ here. before-left a b (m ∷ own) others (at-m here c.1))
            (λ behind.
            ⊎_elim (λ k. inr (before-left a b own others (piece a b q h m (suc m) qs c.1 k)))
            (λ k. inr (before-right a b own others (later k))) (member-split q own others behind))
            (subst (Member q) (child-step n m p qs e) i))
        | no e ↦ still_before a b n m p qs (later (subst (Member q) (other_step n m p qs e) i))
      ]
    where
      at-m : m ≡ q → drop (suc m) ps ≡ qs → Before a b (m ∷ descendants m (suc m) qs)
      at-m here rest =
          subst (λ (l : List ℕ). Before a b (m ∷ descendants m (suc m) l)) rest (subst (λ (x : ℕ). Before a b (subtree x)) (sym here) h)

module _ (ps : List ℕ) (tree : Parents ps) where
  in_order : (a b q : ℕ) → q < length ps → Before a b (subtree ps q) → Before a b (preorder ps)
  in_order a b q l h =
      let root : preorder ps ≡ subtree ps 0 = root-step ps (omega arith) in
      let listed : Member q (preorder ps) = counted-member q (preorder ps) (omega (arith, visits-each ps tree q l)) in
      subst (Before a b) (sym root)
      (⊎_elim (λ here. subst (λ (x : ℕ). Before a b (subtree ps x)) (sym here) h)
      (λ below. inr (piece ps a b q h 0 1 (drop 1 ps) refl below)) (subst (Member q) root listed))

  pub parents-first : (j : ℕ) → 0 < j → j < length ps → Before (get_or ps j 0) j (preorder ps)
  parents-first j z l =
      let q : ℕ = get_or ps j 0 in
      let e : get_or ps j 0 < j = parent-earlier ps tree j z in
      in_order q j q (omega arith) (inl (refl, child-listed ps q (suc q) (drop (suc q) ps) refl j e l refl))

  pub children-in-order : (i j : ℕ) → 0 < i → i < j → j < length ps → get_or ps i 0 ≡ get_or ps j 0 → Before i j (preorder ps)
  children-in-order i j z b l e =
      let q : ℕ = get_or ps i 0 in
      let d : get_or ps i 0 < i = parent-earlier ps tree i z in
      in_order i j q (omega arith) (inr (children-listed ps q (suc q) (drop (suc q) ps) refl i j d b l refl (sym e)))

  -- ---- so too where a node is spared
  before-visited : (s : Option ℕ) (a b : ℕ) → is_spared ps s a ≡ false → is_spared ps s b ≡ false → Before a b (preorder ps) → Before a b (visiting_order ps s)
  unfolding visiting_order
  before-visited s a b x y h = before-filter (λ n. not (is_spared ps s n)) a b (ap not x) (ap not y) (preorder ps) h

  -- a node that is visited has a parent that is
  parent-visited : (s : Option ℕ) (j : ℕ) → 0 < j → is_spared ps s j ≡ false → is_spared ps s (get_or ps j 0) ≡ false
  parent-visited none j z e = refl
  parent-visited (some s) j z e = (or-neither (eqb j s) (is_above ps s (get_or ps j 0)) (sym (above_parent ps tree s j z) ∙ e)).1

  pub visits-parents-first : (s : Option ℕ) (j : ℕ) → 0 < j → j < length ps → is_spared ps s j ≡ false → Before (get_or ps j 0) j (visiting_order ps s)
  visits-parents-first s j z l e = before-visited s (get_or ps j 0) j (parent-visited s j z e) e (parents-first j z l)

  pub visits-children-in-order : (s : Option ℕ) (i j : ℕ) → 0 < i → i < j → j < length ps → get_or ps i 0 ≡ get_or ps j 0
      → is_spared ps s i ≡ false → is_spared ps s j ≡ false → Before i j (visiting_order ps s)
  visits-children-in-order s i j z b l e x y = before-visited s i j x y (children-in-order i j z b l e)

-- ---- an example: the root has the children 1 and 2, these the children 3 and 4
example : preorder (0 ∷ 0 ∷ 0 ∷ 1 ∷ 2 ∷ []) ≡ 0 ∷ 1 ∷ 3 ∷ 2 ∷ 4 ∷ []
unfolding preorder descendants
example = refl

example-spared : visiting_order (0 ∷ 0 ∷ 0 ∷ 1 ∷ 2 ∷ []) (some 1) ≡ 0 ∷ 2 ∷ 4 ∷ []
unfolding visiting_order preorder descendants filter is_above_within
example-spared = refl
