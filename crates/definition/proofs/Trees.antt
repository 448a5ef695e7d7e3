-- A tree whose parents are earlier, and who lies above whom in it. A law about every node goes up from it: by way of its parent to the root (`upwards`).
use Prim.Native.Nat.{ℕ, zero, suc, ◌≤◌, ◌<◌}
use mathlib.Core.Path.{◌≡◌, refl, sym, ap, subst, ◌∙◌}
use mathlib.Core.Bool.{Bool, true, false, ◌||◌, or-true, or_self}
use mathlib.Core.Logic.{◌⊎◌, inl, inr}
use mathlib.Core.List.{List, [], ◌∷◌, ◌++◌}
use native.Mathlib.Nat.{le_of_eq, le_of_lt}
use native.Mathlib.Decide.{ℕ_discrete, dec_lt}
use native.Mathlib.Omega.{arith}
use lib.Dec.{eqb}
use lib.ListN.{length, get_or, length-append, length-map, get_or-eq_default, get_or-append, get_or-map}
use lib.Seq.{get_or-append_seam}
use borrow.Author.Tests.{eq-eqb, ne_eqb, eqb-true}
use Rattle.definition.specs.Tree.{Node, no_node, node_at, parents, is_above_within, is_above}
use Rattle.definition.specs.Memory.{Allocation}
use Rattle.definition.specs.Valid.{Placed, ValidAllocation}
use Rattle.definition.proofs.Places.{all_from_at}

-- "parents earlier in the same allocation": each node's parent is an earlier node; the root's is noted as 0
pub record Parents (ps : List ℕ) : Type 0 where
  pub root : get_or ps 0 0 ≡ 0
  pub earlier : (j : ℕ) → 0 < j → j < length ps → get_or ps j 0 < j

-- a node lies above itself
pub above-itself : (ps : List ℕ) (n : ℕ) → is_above ps n n ≡ true
unfolding is_above_within
above-itself ps n = within n
  where
    within : (steps : ℕ) → is_above_within steps ps n n ≡ true
    within zero = eq-eqb n n refl
    within (suc steps) = rw (eq-eqb n n refl)

module _ (ps : List ℕ) (tree : Parents ps) where
  -- also where there is no node: 0 stands for its parent
  pub parent-earlier : (j : ℕ) → 0 < j → get_or ps j 0 < j
  parent-earlier j z = elim (dec_lt j (length ps)) [ yes l ↦ tree.earlier j z l | no l ↦ rw (get_or-eq_default ps 0 {n = j} (omega arith)) z ]

  pub parent-le : (j : ℕ) → get_or ps j 0 ≤ j
  parent-le zero = le_of_eq tree.root
  parent-le (suc j) = le_of_lt (parent-earlier (suc j) (omega arith))

  -- what holds of the root, and of a node if of its parent, holds of every node
  pub upwards : (P : ℕ → Type 0) → P 0 → ((j : ℕ) → 0 < j → P (get_or ps j 0) → P j) → (j : ℕ) → P j
  upwards P base step j = go j j (omega arith)
    where
      go : (bound j : ℕ) → j ≤ bound → P j
      go zero zero l = base
      go zero (suc j) l = absurd (omega arith)
      go (suc bound) zero l = base
      go (suc bound) (suc j) l = step (suc j) (omega arith) (go bound (get_or ps (suc j) 0) (omega (arith, parent-earlier (suc j) (omega arith))))

  -- as many steps as a node's number are enough
  root-within : (n steps : ℕ) → is_above_within steps ps n 0 ≡ eqb 0 n
  unfolding is_above_within
  root-within n zero = refl
  root-within n (suc steps) = rw tree.root (ap (λ (b : Bool). eqb 0 n || b) (root-within n steps) ∙ or_self (eqb 0 n))

  steps-enough : (n j f g : ℕ) → j ≤ f → j ≤ g → is_above_within f ps n j ≡ is_above_within g ps n j
  unfolding is_above_within
  steps-enough n =
      upwards (λ j. (f g : ℕ) → j ≤ f → j ≤ g → is_above_within f ps n j ≡ is_above_within g ps n j) (λ f g a b. root-within n f ∙ sym (root-within n g)) step
    where
      step : (j : ℕ) → 0 < j → ((f g : ℕ) → get_or ps j 0 ≤ f → get_or ps j 0 ≤ g → is_above_within f ps n (get_or ps j 0) ≡ is_above_within g ps n (get_or ps j 0))
          → (f g : ℕ) → j ≤ f → j ≤ g → is_above_within f ps n j ≡ is_above_within g ps n j
      step j z up zero g a b = absurd (omega arith)
      step j z up (suc f) zero a b = absurd (omega arith)
      step j z up (suc f) (suc g) a b =
          let l : get_or ps j 0 < j = parent-earlier j z in
          ap (λ (b : Bool). eqb j n || b) (up f g (omega arith) (omega arith))

  -- a node lies above j if it is j or lies above j's parent
  pub above_parent : (n j : ℕ) → 0 < j → is_above ps n j ≡ (eqb j n || is_above ps n (get_or ps j 0))
  unfolding is_above_within
  above_parent n zero z = absurd (omega arith)
  above_parent n (suc j) z =
      let l : get_or ps (suc j) 0 < suc j = parent-earlier (suc j) z in
      ap (λ (b : Bool). eqb (suc j) n || b) (steps-enough n (get_or ps (suc j) 0) j (get_or ps (suc j) 0) (omega arith) (omega arith))

  -- the root lies above every node
  pub root-above : (j : ℕ) → is_above ps 0 j ≡ true
  root-above = upwards (λ j. is_above ps 0 j ≡ true) (above-itself ps 0) (λ j z up. rw (above_parent 0 j z, up) (or-true (eqb j 0)))

  -- no node lies above one of a smaller number
  pub not-above-smaller : (n j : ℕ) → j < n → is_above ps n j ≡ false
  not-above-smaller n =
      upwards (λ j. j < n → is_above ps n j ≡ false) (λ l. root-within n 0 ∙ ne_eqb 0 n (omega arith))
      (λ j z up l. rw (above_parent n j z, ne_eqb j n (omega arith)) (up (omega (arith, parent-earlier j z))))

  from-parent : (j : ℕ) → 0 < j → (n : ℕ) → (j ≡ n → ⊥) → is_above ps n j ≡ true → is_above ps n (get_or ps j 0) ≡ true
  from-parent j z n q e = ap (λ (t : Bool). t || is_above ps n (get_or ps j 0)) (sym (ne_eqb j n q)) ∙ sym (above_parent n j z) ∙ e

  pub above-trans : (a b c : ℕ) → is_above ps a b ≡ true → is_above ps b c ≡ true → is_above ps a c ≡ true
  above-trans a b c ab =
      upwards (λ c. is_above ps b c ≡ true → is_above ps a c ≡ true)
      (λ e. subst (λ (x : ℕ). is_above ps a x ≡ true) (sym (eqb-true 0 b (sym (root-within b 0) ∙ e))) ab) step c
    where
      step : (j : ℕ) → 0 < j → (is_above ps b (get_or ps j 0) ≡ true → is_above ps a (get_or ps j 0) ≡ true) → is_above ps b j ≡ true → is_above ps a j ≡ true
      step j z up e =
          elim (ℕ_discrete j b) [
            | yes q ↦ subst (λ (x : ℕ). is_above ps a x ≡ true) (sym q) ab
            | no q ↦
                rw (above_parent a j z, up (from-parent j z b q e)) (or-true (eqb j a))
          ]

  -- of two nodes above a third, one lies above the other
  pub above-linear : (a b c : ℕ) → is_above ps a c ≡ true → is_above ps b c ≡ true → (is_above ps a b ≡ true) ⊎ (is_above ps b a ≡ true)
  above-linear a b =
      upwards (λ c. is_above ps a c ≡ true → is_above ps b c ≡ true → (is_above ps a b ≡ true) ⊎ (is_above ps b a ≡ true))
      (λ h k. inl (subst (λ (x : ℕ). is_above ps x b ≡ true) (eqb-true 0 a (sym (root-within a 0) ∙ h)) (root-above b))) step
    where
      step : (j : ℕ) → 0 < j → (is_above ps a (get_or ps j 0) ≡ true → is_above ps b (get_or ps j 0) ≡ true → (is_above ps a b ≡ true) ⊎ (is_above ps b a ≡ true))
          → is_above ps a j ≡ true → is_above ps b j ≡ true → (is_above ps a b ≡ true) ⊎ (is_above ps b a ≡ true)
      step j z up h k =
          elim (ℕ_discrete j a) [
            | yes q ↦ inr (subst (λ (x : ℕ). is_above ps b x ≡ true) q k)
            | no q ↦
                elim (ℕ_discrete j b) [
                  | yes r ↦ inl (subst (λ (x : ℕ). is_above ps a x ≡ true) r h)
                  | no r ↦ up (from-parent j z a q h) (from-parent j z b r k)
                ]
          ]

-- ---- nodes made later
module _ (ps : List ℕ) (tree : Parents ps) where
  -- they do not change who lies above whom among the earlier ones
  pub above-append : (qs : List ℕ) (n j : ℕ) → j < length ps → is_above (ps ++ qs) n j ≡ is_above ps n j
  unfolding is_above_within
  above-append qs n j l = within j j l
    where
      within : (steps j : ℕ) → j < length ps → is_above_within steps (ps ++ qs) n j ≡ is_above_within steps ps n j
      within zero j l = refl
      within (suc steps) j l =
          ap (λ (b : Bool). eqb j n || b)
          (rw (get_or-append ps qs 0 j l) (within steps (get_or ps j 0) (omega (arith, parent-le ps tree j))))

  pub grown-tree : (p : ℕ) → p < length ps → Parents (ps ++ (p ∷ []))
  grown-tree p l =
      record {
        root = get_or-append ps (p ∷ []) 0 0 (omega arith) ∙ tree.root;
        earlier =
            λ j z k.
            elim (ℕ_discrete j (length ps)) [
              | yes e ↦ subst (λ (i : ℕ). get_or (ps ++ (p ∷ [])) i 0 < i) (sym e) (rw (get_or-append_seam ps p [] 0) l)
              | no e ↦
                  let i : j < length ps = omega (arith, k, length-append ps (p ∷ [])) in
                  rw (get_or-append ps (p ∷ []) 0 j i) (tree.earlier j z i)
            ];
      }

-- ---- the tree of a well-formed allocation
placed-later : (j : ℕ) (x : Node) → 0 < j → Placed j x → x.parent < j
placed-later zero x z p = absurd (omega arith)
placed-later (suc j) x z p = omega arith

pub valid-tree : (a : Allocation) → ValidAllocation a → Parents (parents a.nodes)
valid-tree a v =
    record {
      root = parent-at 0 ∙ (placed 0 v.root).0;
      earlier =
          λ j z l.
          let k : j < length a.nodes = omega (arith, length-map a.nodes (λ x. x.parent)) in
          subst (λ (p : ℕ). p < j) (sym (parent-at j)) (placed-later j (node_at a.nodes j) z (placed j k));
    }
  where
    parent-at : (j : ℕ) → get_or (parents a.nodes) j 0 ≡ (node_at a.nodes j).parent
    parent-at j = get_or-map (λ x. x.parent) a.nodes j no_node

    placed : (j : ℕ) → j < length a.nodes → Placed j (node_at a.nodes j)
    placed j l = (all_from_at _ no_node a.nodes v.nodes j l).placed
