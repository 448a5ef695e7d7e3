-- One turn of a pass, at node m, by the numbers of the plan: the node, and then its first child or its next sibling.
use Prim.Native.Nat.{ℕ, ◌+◌, ◌-◌, ◌*◌, ◌≤◌, ◌<◌}
use mathlib.Core.Path.{◌≡◌, refl, sym, ap, subst, ◌∙◌}
use mathlib.Core.List.{List, ◌++◌}
use native.Mathlib.Nat.{le_refl}
use native.Mathlib.Omega.{arith}
use lib.ListN.{length, get_or, take, drop}
use lib.Seq.{take-length}
use Rattle.definition.specs.Permission.{NodeRelation}
use Rattle.definition.specs.Tree.{relation}
use Rattle.std.specs.Prelude.{Ok, Err}
use Rattle.refusal.specs.declared.Refusal.{Refusal}
use Rattle.visit.specs.declared.Effect.{Effect}
use Rattle.visit.specs.declared.Reach.{Reach}
use Rattle.visit.specs.Plan.{child_from, next_sibling, relation_in, Planned, VisitFrom}
use Rattle.visit.specs.Walk.{Answer, Ready, Told, ToldRow, ToldOf, together, nodes_from, node_refusal, node_after, walk_after, row_at, with_row_at, row_after}
use Rattle.visit.proofs.Places.{ready-again, told-node}
use Rattle.visit.proofs.Plans.{in-plan, planned-lent}
use Rattle.visit.proofs.Children as children
use Rattle.visit.proofs.Children.{Goes, Noted, note, child-later, sibling-later}

-- the whole plan, as the part that is handed on, is as long
pub as_long : (plan : List ℕ) → length plan ≡ length (take (length plan) plan)
as_long plan = sym (ap length (take-length plan))

-- a pass that went on from `first` is at m, which is visited
pub record At (v : Reach) (ps : List ℕ) (first m : ℕ) : Type 0 where
  pub inside : m < length ps
  pub visited : m ≡ v.spared → ⊥
  pub later : first ≤ m

-- a visit of the whole tree, from the root on, with a plan that is the front of an array
pub from_root : {v : Reach} {ps plan codes : List ℕ} (rest : List ℕ) → Planned v ps plan → Ready v ps codes × (0 < v.spared) → VisitFrom v ps (take (4 * length ps) (plan ++ rest)) codes 0
from_root {v} {ps} {plan} rest p r = record {
  planned = planned-lent v ps plan rest (4 * length ps) p.room.size p;
  ready = r.0;
  inside = omega (arith, r.0.node);
  visited = λ e. absurd (omega (arith, r.1, e));
}

pub at_first : {v : Reach} {ps plan codes : List ℕ} {first : ℕ} → VisitFrom v ps plan codes first → At v ps first first
at_first {first = first} p = record { inside = p.inside; visited = p.visited; later = le_refl first }

module _ {v : Reach} {ps plan codes : List ℕ} {first m : ℕ} (p : VisitFrom v ps plan codes first) (at : At v ps first m) where
  pub planned-here : (4 * m + 2 < length plan) × (length plan ≤ 4096)
  planned-here = in-plan p.planned.room m at.inside

  child-is : (child : ℕ) → child ≡ get_or plan (4 * m) 0 → child ≡ child_from v.spared m (m + 1) (drop (m + 1) ps)
  child-is child c = c ∙ p.planned.links.first m at.inside

  sibling-is : (sibling : ℕ) → sibling ≡ get_or plan (4 * m + 1) 0 → sibling ≡ next_sibling v.spared ps m
  sibling-is sibling b = b ∙ p.planned.links.next m at.inside

  -- where the pass goes on
  pub at-child : (child : ℕ) → child ≡ get_or plan (4 * m) 0 → (child ≡ 0 → ⊥) → (m < child) × At v ps first child
  at-child child c q =
      let l = child-later v.spared ps m child (child-is child c) q in
      (l.0, record { inside = l.1; visited = l.2; later = omega (arith, l.0, at.later) })

  pub at-sibling : (sibling : ℕ) → sibling ≡ get_or plan (4 * m + 1) 0 → (sibling ≡ 0 → ⊥) → (m < sibling) × At v ps first sibling
  at-sibling sibling b q =
      let l = sibling-later v.spared ps m sibling (sibling-is sibling b) q in
      (l.0, record { inside = l.1; visited = l.2; later = omega (arith, l.0, at.later) })

  -- a visit of the child can be made with the plan that is handed on, on a table of the same length
  pub from-child : (child : ℕ) → child ≡ get_or plan (4 * m) 0 → (child ≡ 0 → ⊥) → (codes' : List ℕ) → length codes' ≡ length codes → VisitFrom v ps (take (length plan) plan) codes' child
  from-child child c q codes' e =
      let next = (at-child child c q).1 in
      subst (λ (l : List ℕ). VisitFrom v ps l codes' child) (sym (take-length plan))
      (record { planned = p.planned; ready = ready-again v ps codes codes' e p.ready; inside = next.inside; visited = next.visited })

  relation-here : (r : NodeRelation) → r ≡ relation_in plan m → r ≡ relation ps m v.node
  relation-here r e = e ∙ p.planned.path m at.inside

  -- ---- the check
  module _ (lent : List ℕ) (effect : Effect) (goes : Goes v ps lent codes (nodes_from v.spared ps first) m effect)
      (r : NodeRelation) (e : r ≡ relation_in plan m) where
    abbrev whole : List ℕ
    whole = nodes_from v.spared ps first

    node : (answer : Answer) → ToldRow v lent r (row_at v.width m codes) answer → Told (node_refusal v ps lent codes m) codes (node_after v ps lent m codes) answer
    node answer t =
        told-node v ps lent codes m answer (subst (λ (q : NodeRelation). ToldRow v lent q (row_at v.width m codes) answer) (relation-here r e) t)

    pub refused-here : (refusal : Refusal) → ToldRow v lent r (row_at v.width m codes) (Err refusal) → ToldOf v ps lent codes whole (Err refusal)
    refused-here refusal t = children.refused-node v ps lent codes whole m _ _ at.inside at.visited refl refl effect goes refusal (node (Err refusal) t)

    module _ (here : Effect) (t : ToldRow v lent r (row_at v.width m codes) (Ok here)) (child sibling : ℕ)
        (c : child ≡ get_or plan (4 * m) 0) (b : sibling ≡ get_or plan (4 * m + 1) 0) where
      -- what was told of the node, noted
      abbrev noted : Effect
      noted = together effect here

      seen : Noted v ps lent (node_refusal v ps lent codes m) codes (node_after v ps lent m codes) effect noted
      seen = note v ps lent _ codes _ effect here (node (Ok here) t)

      pub nothing_left : sibling ≡ 0 → child ≡ 0 → ToldOf v ps lent codes whole (Ok noted)
      nothing_left = children.done-last v ps lent codes whole m child sibling at.inside at.visited (child-is child c) (sibling-is sibling b) effect goes noted seen

      pub child-left : sibling ≡ 0 → (child ≡ 0 → ⊥) → Goes v ps lent codes whole child noted
      child-left = children.goes-child v ps lent codes whole m child sibling at.inside at.visited (child-is child c) (sibling-is sibling b) effect goes noted seen

      pub sibling-left : (sibling ≡ 0 → ⊥) → child ≡ 0 → Goes v ps lent codes whole sibling noted
      sibling-left = children.goes-leaf v ps lent codes whole m child sibling at.inside at.visited (child-is child c) (sibling-is sibling b) effect goes noted seen

      -- the child with its descendants and siblings was checked
      module _ (s : sibling ≡ 0 → ⊥) (q : child ≡ 0 → ⊥) where
        pub refused-below : (refusal : Refusal) → ToldOf v ps lent codes (nodes_from v.spared ps child) (Err refusal) → ToldOf v ps lent codes whole (Err refusal)
        refused-below =
            children.refused-below v ps lent codes whole m child sibling at.inside at.visited (child-is child c) (sibling-is sibling b) effect goes noted seen s q

        pub past : (deeper : Effect) → ToldOf v ps lent codes (nodes_from v.spared ps child) (Ok deeper) → Goes v ps lent codes whole sibling (together noted deeper)
        past deeper u =
            children.goes-sibling v ps lent codes whole m child sibling at.inside at.visited (child-is child c) (sibling-is sibling b) effect goes noted seen s q _
            (note v ps lent _ codes _ noted deeper u)

  -- ---- the change
  module _ (lent : List ℕ) (r : NodeRelation) (e : r ≡ relation_in plan m) (codes' : List ℕ)
      (w : codes' ≡ with_row_at v.width m (row_after v lent r (row_at v.width m codes)) codes) where
    changed-node : codes' ≡ node_after v ps lent m codes
    unfolding node_after
    changed-node = w ∙ ap (λ (q : NodeRelation). with_row_at v.width m (row_after v lent q (row_at v.width m codes)) codes) (relation-here r e)

    abbrev after : ℕ → List ℕ → List ℕ
    after n cs = walk_after v ps lent (nodes_from v.spared ps n) cs

    module _ (child sibling : ℕ) (c : child ≡ get_or plan (4 * m) 0) (b : sibling ≡ get_or plan (4 * m + 1) 0) where
      pub changed-last : sibling ≡ 0 → child ≡ 0 → codes' ≡ after m codes
      changed-last = children.changed-last v ps lent codes codes m child sibling at.inside at.visited (child-is child c) (sibling-is sibling b) codes' changed-node

      pub changed-child : sibling ≡ 0 → (child ≡ 0 → ⊥) → after child codes' ≡ after m codes
      changed-child = children.changed-child v ps lent codes codes m child sibling at.inside at.visited (child-is child c) (sibling-is sibling b) codes' changed-node

      pub changed-leaf : (sibling ≡ 0 → ⊥) → child ≡ 0 → after sibling codes' ≡ after m codes
      changed-leaf = children.changed-leaf v ps lent codes codes m child sibling at.inside at.visited (child-is child c) (sibling-is sibling b) codes' changed-node

      pub changed-below : (sibling ≡ 0 → ⊥) → (child ≡ 0 → ⊥) → (deeper : List ℕ) → deeper ≡ after child codes' → after sibling deeper ≡ after m codes
      changed-below = children.changed-below v ps lent codes codes m child sibling at.inside at.visited (child-is child c) (sibling-is sibling b) codes' changed-node

-- on a table of the same length
pub still : {v : Reach} {ps plan codes codes' : List ℕ} {first : ℕ} → length codes' ≡ length codes → VisitFrom v ps plan codes first → VisitFrom v ps plan codes' first
still {v} {ps} {plan} {codes} {codes'} e p = record { planned = p.planned; ready = ready-again v ps codes codes' e p.ready; inside = p.inside; visited = p.visited }

-- fewer nodes are later than a child
pub fewer : (n first m child : ℕ) → first ≤ m → m < child → 4 * m + 2 < n → n - 4 * child < n - 4 * first
fewer n first m child l h i = omega arith

-- ---- what holds at m, whatever tree the plan is of
abbrev pub Checking : List ℕ → List ℕ → List ℕ → Reach → ℕ → ℕ → Effect → Type 0
Checking plan codes lent v first m effect =
    (ps : List ℕ) → VisitFrom v ps plan codes first → At v ps first m × Goes v ps lent codes (nodes_from v.spared ps first) m effect

abbrev pub Applying : List ℕ → List ℕ → List ℕ → Reach → ℕ → ℕ → List ℕ → Type 0
Applying plan codes₀ lent v first m codes =
    (ps : List ℕ) → VisitFrom v ps plan codes₀ first
    → At v ps first m × (walk_after v ps lent (nodes_from v.spared ps m) codes ≡ walk_after v ps lent (nodes_from v.spared ps first) codes₀)
