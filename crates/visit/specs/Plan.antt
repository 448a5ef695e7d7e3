-- The plan of a visit: for node k, four places from 4 * k on, of which the last is not used.
use Rattle.std.specs.Prelude.{ℕ, zero, suc, ◌+◌, ◌*◌, ◌≤◌, ◌<◌, ◌≡◌, List, [], ◌∷◌, eqb, length, get_or, set, drop, if◌then◌else◌}
use Rattle.definition.specs.Permission.{NodeRelation}
use Rattle.definition.specs.Permission.NodeRelation.{Local, Foreign}
use Rattle.definition.specs.Tree.{relation}
use Rattle.visit.specs.declared.Reach.{Reach}
use Rattle.visit.specs.Walk.{Ready}

-- the first child of n among the nodes m, m + 1, .., whose parents are listed, but for s; 0 where there is none
unfoldable pub child_from : ℕ → ℕ → ℕ → List ℕ → ℕ
child_from s n m [] = 0
child_from s n m (p ∷ ps) = if eqb p n then (if eqb m s then child_from s n (suc m) ps else m) else child_from s n (suc m) ps

-- the next child of a node's parent; the root is nobody's child
unfoldable pub next_sibling : ℕ → List ℕ → ℕ → ℕ
next_sibling s ps zero = 0
next_sibling s ps (suc m) = child_from s (get_or ps (suc m) 0) (suc m + 1) (drop (suc m + 1) ps)

-- what the plan says that node n is to the accessed one
abbrev pub relation_in : List ℕ → ℕ → NodeRelation
relation_in plan n = if eqb (get_or plan (4 * n + 2) 0) 0 then Foreign else Local

-- each node's first child and next sibling are in the plan; the root has no sibling
pub record Linked (s : ℕ) (ps plan : List ℕ) : Type 0 where
  pub first : (k : ℕ) → k < length ps → get_or plan (4 * k) 0 ≡ child_from s k (k + 1) (drop (k + 1) ps)
  pub next : (k : ℕ) → k < length ps → get_or plan (4 * k + 1) 0 ≡ next_sibling s ps k

-- and so is what it is to the accessed node
abbrev pub TellsPath : ℕ → List ℕ → List ℕ → Type 0
TellsPath accessed ps plan = (k : ℕ) → k < length ps → relation_in plan k ≡ relation ps k accessed

-- a plan has four places for each of at most 1,024 nodes
pub record Roomy (ps plan : List ℕ) : Type 0 where
  pub size : length plan ≡ 4 * length ps
  pub few : length ps ≤ 1024

-- the plan of a visit
pub record Planned (v : Reach) (ps plan : List ℕ) : Type 0 where
  pub room : Roomy ps plan
  pub links : Linked v.spared ps plan
  pub path : TellsPath v.node ps plan

-- a visit that can be made from a node on
pub record VisitFrom (v : Reach) (ps plan codes : List ℕ) (first : ℕ) : Type 0 where
  pub planned : Planned v ps plan
  pub ready : Ready v ps codes
  pub inside : first < length ps
  pub visited : first ≡ v.spared → ⊥

-- ---- while it is made
abbrev pub Zeros : List ℕ → Type 0
Zeros plan = (i : ℕ) → get_or plan i 0 ≡ 0

-- node m in front of the children of its parent p, but for s
abbrev pub linked_in : ℕ → ℕ → ℕ → List ℕ → List ℕ
linked_in s p m plan =
    let followed = set plan (4 * m + 1) (get_or plan (4 * p) 0) in
    if eqb m s then followed else set followed (4 * p) m
