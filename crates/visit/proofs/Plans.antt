-- How a plan is made, from the last node down: each node is linked in front of the children of its parent, and noted to be on the path if it is on the path.
use Rattle.std.specs.Prelude.{if◌then◌else◌}
use Prim.Native.Nat.{ℕ, ◌+◌, ◌-◌, ◌*◌, ◌≤◌, ◌<◌}
use mathlib.Core.Path.{◌≡◌, refl, sym, ap, subst, ◌∙◌}
use mathlib.Core.Bool.{Bool, true, false, not, ◌||◌, or-true, or-false}
use mathlib.Core.List.{List, ◌++◌}
use native.Mathlib.Nat.{le_refl, min-le_left}
use native.Mathlib.Decide.{ℕ_discrete, dec_lt}
use native.Mathlib.Omega.{arith}
use borrow.Author.Tests.{eq-eqb, ne_eqb}
use lib.Dec.{eqb}
use lib.ListN.{length, get_or, take, drop, set, replicate, get_or-replicate, length-replicate, length-set, length-take, get_or-eq_default}
use lib.Seq.{get_or-set_same, get_or-set_other, get_or-take, take_at}
use Rattle.definition.specs.Permission.NodeRelation.{Local, Foreign}
use Rattle.definition.specs.Tree.{relation, is_above}
use Rattle.definition.proofs.Trees.{Parents, parent-earlier, above-itself, above_parent, not-above-smaller}
use Rattle.visit.specs.declared.Reach.{Reach}
use Rattle.visit.specs.Plan.{child_from, linked_in, Linked, TellsPath, Planned, Zeros, Roomy}
use Rattle.visit.proofs.Children.{search-here, search-spared, search-other, search-end, search-from, sibling-root, sibling-at}

-- ---- the links
-- the nodes from m on are linked
pub record Linking (s : ℕ) (ps plan : List ℕ) (m : ℕ) : Type 0 where
  pub first : (k : ℕ) → k < length ps → get_or plan (4 * k) 0 ≡ child_from s k m (drop m ps)
  pub next : (k : ℕ) → m ≤ k → k < length ps → get_or plan (4 * k + 1) 0 ≡ child_from s (get_or ps k 0) (k + 1) (drop (k + 1) ps)
  pub root : get_or plan 1 0 ≡ 0

module _ (s : ℕ) (ps : List ℕ) where
  pub linking-none : (plan : List ℕ) → Zeros plan → Linking s ps plan (length ps)
  linking-none plan z =
      record { first = λ k l. z (4 * k) ∙ sym (search-end s ps k (length ps) (le_refl (length ps))); next = λ k h l. absurd (omega arith); root = z 1 }

  pub linked : Parents ps → (plan : List ℕ) → (m : ℕ) → m ≤ 1 → (0 < length ps → 0 < m) → Linking s ps plan m → Linked s ps plan
  linked tree plan m h z links =
      record {
        first = λ k l. links.first k l ∙ search-from s ps tree k k m (omega (arith, z (omega arith))) (z (omega arith));
        next = λ k l.
            elim (ℕ_discrete k 0) [
              | yes q ↦ ap (λ (i : ℕ). get_or plan (4 * i + 1) 0) q ∙ links.root ∙ sym (sibling-root s ps k q)
              | no q ↦ links.next k (omega arith) l ∙ sym (sibling-at s ps k (omega arith))
            ];
      }

  -- node m in front of the children of its parent
  module _ (plan : List ℕ) (m : ℕ) (room : Roomy ps plan) (z : 0 < m) (l : m < length ps) (p : ℕ) (e : p ≡ get_or ps m 0) (below : p < m) (links : Linking s ps plan (m + 1)) where
    abbrev followed : List ℕ
    followed = set plan (4 * m + 1) (get_or plan (4 * p) 0)

    next-linked : (k : ℕ) → m ≤ k → k < length ps → get_or followed (4 * k + 1) 0 ≡ child_from s (get_or ps k 0) (k + 1) (drop (k + 1) ps)
    next-linked k h i =
        elim (ℕ_discrete k m) [
          | yes q ↦
              subst (λ (j : ℕ). get_or followed (4 * j + 1) 0 ≡ child_from s (get_or ps j 0) (j + 1) (drop (j + 1) ps)) (sym q)
              (get_or-set_same plan (4 * m + 1) (get_or plan (4 * p) 0) 0 (omega (arith, room.size))
              ∙ links.first p (omega arith)
              ∙ ap (λ (j : ℕ). child_from s j (m + 1) (drop (m + 1) ps)) e)
          | no q ↦ get_or-set_other plan (4 * m + 1) (4 * k + 1) _ 0 (λ r. absurd (omega arith)) ∙ links.next k (omega arith) i
        ]

    first-kept : (k : ℕ) → k < length ps → get_or followed (4 * k) 0 ≡ child_from s k (m + 1) (drop (m + 1) ps)
    first-kept k i = get_or-set_other plan (4 * m + 1) (4 * k) _ 0 (λ r. absurd (omega arith)) ∙ links.first k i

    root_kept : get_or followed 1 0 ≡ 0
    root_kept = get_or-set_other plan (4 * m + 1) 1 _ 0 (λ r. absurd (omega arith)) ∙ links.root

    linked-spared : m ≡ s → Linking s ps followed m
    linked-spared q =
        record {
          first = λ k i.
              elim (ℕ_discrete (get_or ps m 0) k) [
                | yes c ↦ first-kept k i ∙ sym (search-spared s ps k m l c q)
                | no c ↦ first-kept k i ∙ sym (search-other s ps k m l c)
              ];
          next = next-linked;
          root = root_kept;
        }

    linked-first : (m ≡ s → ⊥) → length followed ≡ length plan → Linking s ps (set followed (4 * p) m) m
    linked-first q same =
        record {
          first = λ k i.
              elim (ℕ_discrete k p) [
                | yes c ↦
                    subst (λ (j : ℕ). get_or (set followed (4 * p) m) (4 * j) 0 ≡ child_from s j m (drop m ps)) (sym c)
                    (get_or-set_same followed (4 * p) m 0 (omega (arith, same, room.size)) ∙ sym (search-here s ps p m l (sym e) q))
                | no c ↦
                    get_or-set_other followed (4 * p) (4 * k) m 0 (λ r. absurd (omega arith)) ∙ first-kept k i ∙ sym (search-other s ps k m l (λ r. c (sym (e ∙ r))))
              ];
          next = λ k h i. get_or-set_other followed (4 * p) (4 * k + 1) m 0 (λ r. absurd (omega arith)) ∙ next-linked k h i;
          root = get_or-set_other followed (4 * p) 1 m 0 (λ r. absurd (omega arith)) ∙ root_kept;
        }

    pub linked-at : Linking s ps (linked_in s p m plan) m
    linked-at = elim (ℕ_discrete m s) [
      | yes q ↦ rw (eq-eqb m s q) (linked-spared q)
      | no q ↦ rw (ne_eqb m s q) (linked-first q (length-set plan (4 * m + 1) (get_or plan (4 * p) 0)))
    ]

-- the path is as before
pub path-left : (s p m : ℕ) (plan : List ℕ) (k : ℕ) → get_or (linked_in s p m plan) (4 * k + 2) 0 ≡ get_or plan (4 * k + 2) 0
path-left s p m plan k =
    let followed = set plan (4 * m + 1) (get_or plan (4 * p) 0) in
    let kept : get_or followed (4 * k + 2) 0 ≡ get_or plan (4 * k + 2) 0 = get_or-set_other plan (4 * m + 1) (4 * k + 2) _ 0 (λ r. absurd (omega arith)) in
    elim (ℕ_discrete m s) [
      | yes q ↦ rw (eq-eqb m s q) kept
      | no q ↦ rw (ne_eqb m s q) (get_or-set_other followed (4 * p) (4 * k + 2) m 0 (λ r. absurd (omega arith)) ∙ kept)
    ]

pub linked-length : (s p m : ℕ) (plan : List ℕ) → length (linked_in s p m plan) ≡ length plan
linked-length s p m plan =
    let followed = set plan (4 * m + 1) (get_or plan (4 * p) 0) in
    let kept : length followed ≡ length plan = length-set plan (4 * m + 1) (get_or plan (4 * p) 0) in
    elim (ℕ_discrete m s) [
      | yes q ↦ rw (eq-eqb m s q) kept
      | no q ↦ rw (ne_eqb m s q) (length-set followed (4 * p) m ∙ kept)
    ]

-- the links are as before where a node is noted
pub links-left : (s : ℕ) (ps plan : List ℕ) (m n : ℕ) → Linking s ps plan m → Linking s ps (set plan (4 * n + 2) 1) m
links-left s ps plan m n links =
    record {
      first = λ k l. get_or-set_other plan (4 * n + 2) (4 * k) 1 0 (λ r. absurd (omega arith)) ∙ links.first k l;
      next = λ k h l. get_or-set_other plan (4 * n + 2) (4 * k + 1) 1 0 (λ r. absurd (omega arith)) ∙ links.next k h l;
      root = get_or-set_other plan (4 * n + 2) 1 1 0 (λ r. absurd (omega arith)) ∙ links.root;
    }

-- ---- the path
-- what is noted, or lies above n, is what lies above the accessed node
abbrev pub Traced : List ℕ → ℕ → List ℕ → ℕ → Type 0
Traced ps accessed plan n = (k : ℕ) → k < length ps → is_above ps k accessed ≡ (not (eqb (get_or plan (4 * k + 2) 0) 0) || is_above ps k n)

module _ (ps : List ℕ) (tree : Parents ps) (accessed : ℕ) where
  pub traced-none : (plan : List ℕ) → Zeros plan → Traced ps accessed plan accessed
  traced-none plan z k l = sym (rw (z (4 * k + 2)))

  pub traced-linked : (s p m : ℕ) (plan : List ℕ) (n : ℕ) → Traced ps accessed plan n → Traced ps accessed (linked_in s p m plan) n
  traced-linked s p m plan n traced k l = traced k l ∙ ap (λ (x : ℕ). not (eqb x 0) || is_above ps k n) (sym (path-left s p m plan k))

  module _ (plan : List ℕ) (n : ℕ) (l : 4 * n + 2 < length plan) (traced : Traced ps accessed plan n) where
    abbrev stepped : List ℕ
    stepped = set plan (4 * n + 2) 1

    -- n is noted, and lies above the accessed node
    here : n < length ps → is_above ps n accessed ≡ true
    here i = traced n i ∙ rw (above-itself ps n) (or-true (not (eqb (get_or plan (4 * n + 2) 0) 0)))

    stepped-here : not (eqb (get_or stepped (4 * n + 2) 0) 0) ≡ true
    stepped-here = rw (get_or-set_same plan (4 * n + 2) 1 0 l)

    stepped-other : (k : ℕ) → (k ≡ n → ⊥) → get_or stepped (4 * k + 2) 0 ≡ get_or plan (4 * k + 2) 0
    stepped-other k q = get_or-set_other plan (4 * n + 2) (4 * k + 2) 1 0 (λ r. absurd (omega arith))

    pub traced-up : 0 < n → (up : ℕ) → up ≡ get_or ps n 0 → Traced ps accessed stepped up
    traced-up z up e k i =
        elim (ℕ_discrete k n) [
          | yes q ↦
              subst (λ (j : ℕ). is_above ps j accessed ≡ (not (eqb (get_or stepped (4 * j + 2) 0) 0) || is_above ps j up)) (sym q)
              (here (omega arith) ∙ sym (ap (λ (b : Bool). b || is_above ps n up) stepped-here))
          | no q ↦
              traced k i
              ∙ ap (λ (b : Bool). not (eqb (get_or plan (4 * k + 2) 0) 0) || b) (above_parent ps tree k n z ∙ rw (ne_eqb n k (λ r. q (sym r)), sym e))
              ∙ ap (λ (x : ℕ). not (eqb x 0) || is_above ps k up) (sym (stepped-other k q))
        ]

    told : (up flag : Bool) → up ≡ not flag → (if up then Local else Foreign) ≡ (if flag then Foreign else Local)
    told true true e = cc
    told true false e = refl
    told false true e = refl
    told false false e = cc

    pub traced-root : n ≡ 0 → TellsPath accessed ps stepped
    unfolding relation
    traced-root z k i =
        sym
        (told (is_above ps k accessed) (eqb (get_or stepped (4 * k + 2) 0) 0)
        (elim (ℕ_discrete k n) [
          | yes q ↦
              subst (λ (j : ℕ). is_above ps j accessed ≡ not (eqb (get_or stepped (4 * j + 2) 0) 0)) (sym q) (here (omega arith) ∙ sym stepped-here)
          | no q ↦
              traced k i
              ∙ ap (λ (b : Bool). not (eqb (get_or plan (4 * k + 2) 0) 0) || b) (not-above-smaller ps tree k n (omega arith))
              ∙ or-false (not (eqb (get_or plan (4 * k + 2) 0) 0))
              ∙ ap (λ (x : ℕ). not (eqb x 0)) (sym (stepped-other k q))
        ]))

-- ---- the part of a scratch of zeros that a plan takes
pub zeros : (n : ℕ) → Zeros (replicate n 0)
zeros n i = elim (dec_lt i n) [
  | yes l ↦ get_or-replicate n i 0 0 l
  | no l ↦ get_or-eq_default (replicate n 0) 0 {n = i} (omega (arith, length-replicate {A = ℕ} n 0))
]

module _ (scratch : List ℕ) (size : ℕ) where
  pub zeros-taken : Zeros scratch → Zeros (take size scratch)
  zeros-taken z i = elim (dec_lt i size) [
    | yes l ↦ get_or-take size scratch i 0 l ∙ z i
    | no l ↦ get_or-eq_default (take size scratch) 0 {n = i} (omega (arith, length-take size scratch, min-le_left size (length scratch)))
  ]

-- the plan as the front of the scratch
pub planned-lent : (v : Reach) (ps plan rest : List ℕ) (size : ℕ) → length plan ≡ size → Planned v ps plan → Planned v ps (take size (plan ++ rest))
planned-lent v ps plan rest size e made = subst (λ (p : List ℕ). Planned v ps p) (sym (take_at plan rest size e)) made

-- a node's numbers are in the plan
pub in-plan : {ps plan : List ℕ} → Roomy ps plan → (n : ℕ) → n < length ps → (4 * n + 2 < length plan) × (length plan ≤ 4096)
in-plan room n l = (omega (arith, room.size), omega (arith, room.size, room.few))

-- ---- a turn of the making: node m - 1 is linked, in front of the nodes from m on
module _ (s accessed : ℕ) (ps : List ℕ) (tree : Parents ps) (plan linked-plan : List ℕ) (room : Roomy ps plan) (m parent : ℕ) (z : 1 < m) (l : m ≤ length ps)
    (e : parent ≡ get_or ps (m - 1) 0) (w : linked-plan ≡ linked_in s parent (m - 1) plan) where
  pub turn-linked : Linking s ps plan m → Linking s ps linked-plan (m - 1)
  turn-linked links =
      let back : m ≡ m - 1 + 1 = omega arith in
      subst (λ (q : List ℕ). Linking s ps q (m - 1)) (sym w)
      (linked-at s ps plan (m - 1) room (omega arith) (omega arith) parent e (omega (arith, parent-earlier ps tree (m - 1) (omega arith), e)) (subst (Linking s ps plan) back links))

  pub turn-traced : (n : ℕ) → Traced ps accessed plan n → Traced ps accessed linked-plan n
  turn-traced n traced = subst (λ (q : List ℕ). Traced ps accessed q n) (sym w) (traced-linked ps tree accessed s parent (m - 1) plan n traced)

  pub turn-length : length linked-plan ≡ length plan
  turn-length = ap length w ∙ linked-length s parent (m - 1) plan
