-- The end of any node's protector is accepted, in every tree that requests make (`Releasable`). It holds of a new allocation's tree, and a visit, a new child
-- and a release keep it. What it takes of the permissions is one test over all pairs of them, at one byte of two nodes (`end_kept`): whatever an access that
-- is not refused leaves of the two, the end of the one's protector is still accepted at the other.
use Rattle.std.specs.Prelude.{if◌then◌else◌}
use Prim.Native.Nat.{ℕ, zero, suc, ◌<◌}
use mathlib.Core.Path.{◌≡◌, refl, sym, ap, ap₂, subst, ◌∙◌}
use mathlib.Core.Bool.{Bool, true, false, ◌&&◌, false≢true}
use mathlib.Core.Logic.{◌⊎◌, inl, inr, ⊎_elim}
use mathlib.Core.Option.{Option, none, some}
use mathlib.Core.List.{List, [], ◌∷◌, ◌++◌}
use native.Mathlib.Decide.{ℕ_discrete, dec_lt}
use native.Mathlib.Omega.{arith}
use lib.Dec.{T, eqb, eqb→eq}
use lib.ListN.{length, replicate, length-append, length-map, get_or-eq_default, get_or-append, get_or-map}
use lib.Seq.{get_or-append_seam}
use Rattle.definition.specs.Notation.{◌or◌, mutate_at}
use Rattle.definition.specs.Permission.{AccessKind, NodeRelation, PermissionUnprot, PermissionProt, Permission, Protected, SafePointer, refusal, next, refusal_by, end_access, unprotected, mk_perm}
use Rattle.definition.specs.Permission.AccessKind.{Read, Write}
use Rattle.definition.specs.Permission.NodeRelation.{Local, Foreign}
use Rattle.definition.specs.Permission.LocalRead.{no_local_read}
use Rattle.definition.specs.Permission.ForeignRead.{no_foreign_read}
use Rattle.definition.specs.Permission.Permission.{Unprot, Prot}
use Rattle.definition.specs.Permission.Protected.{No, Weak, Strong}
use Rattle.definition.specs.Permission.SafePointer.{SharedRef, MutableRef, Box}
use Rattle.definition.specs.Tree.{Node, no_node, node_at, parents, is_above, relation, is_spared, Visit, visit_refusal, visited}
use Rattle.definition.specs.Layout.{FreezeMask}
use Rattle.definition.specs.Memory.{Allocation, Liveness, size, ThinPointer, node_of, offset}
use Rattle.definition.specs.Memory.Liveness.{Live, Dead}
use Rattle.definition.specs.Frame.{unprotect_node, release_visit, release_visit_refusal, released_nodes}
use Rattle.definition.specs.Retag.{ReborrowSettings, start_perm, reborrow_settings, child_node, with_child, init_visit, init_refusal, after_init}
use Rattle.definition.specs.Valid.{All}
use Rattle.definition.proofs.Booleans.{T-left, T-right, or_left, or_right}
use Rattle.definition.proofs.Lists.{mutate-map}
use Rattle.definition.proofs.Alls.{all_get_d, all_map, all-write, all_replicate}
use Rattle.definition.proofs.Places.{mutate-holds}
use Rattle.definition.proofs.Permissions.{every_permission, by-test}
use Rattle.definition.proofs.Trees.{Parents, above-trans, above-linear, above-append, grown-tree, not-above-smaller}
use Rattle.definition.proofs.Visits.{visited-parents}
use Rattle.definition.proofs.Rows.{row_at, permission_at, cell-accepts, Reach, reach_by, reached_refusal, reached_next, visited-at, visit-accepted, visit-accepts}
use Rattle.definition.proofs.Rows.Reach.{Spared, Reached}
use Rattle.definition.proofs.Leaves.{parents-append}

-- ---- one byte of two nodes
abbrev towards : Bool → NodeRelation
towards above = if above then Local else Foreign

-- the access that the end of p's protector makes is not refused at q, whose node lies above p's, or apart from it. Below it the access reaches no node.
-- Where p is not protected its end makes none, so nothing has to be known about which nodes are
abbrev pub EndAccepted : Bool → Permission → Permission → Type 0
EndAccepted above p q = refusal_by (end_access p) (towards above) q ≡ 0

-- what a visit can be to p's node and to q's, with q's above p's or apart from it. An access is made below both, between them or outside both; at or below the
-- one or the other of two apart, or elsewhere. A release spares p's node, q's or both, and is local to the nodes above the released one
data Possible : Bool → Reach → Reach → Type 0 where
  below_both : Possible true (Reached Local) (Reached Local)
  between : Possible true (Reached Foreign) (Reached Local)
  outside_both : Possible true (Reached Foreign) (Reached Foreign)
  lower_spared : Possible true Spared (Reached Local)
  at_first : Possible false (Reached Local) (Reached Foreign)
  at_second : Possible false (Reached Foreign) (Reached Local)
  elsewhere : Possible false (Reached Foreign) (Reached Foreign)
  first_spared : Possible false Spared (Reached Foreign)
  second_spared : Possible false (Reached Foreign) Spared
  both_spared : (above : Bool) → Possible above Spared Spared

-- ---- a computed test of all pairs of permissions, under each access
-- where the refusals before are none, the one after is none
abbrev none_after : ℕ → ℕ → Bool
none_after before after = if eqb before 0 then eqb after 0 else true

none_after_lem : (before after : ℕ) → T (none_after before after) → before ≡ 0 → after ≡ 0
none_after_lem zero after t e = eqb→eq after 0 t
none_after_lem (suc n) after t e = absurd (omega arith)

abbrev every_access : (Option AccessKind → Bool) → Bool
every_access f = f none && f (some Read) && f (some Write)

by-access : (f : Option AccessKind → Bool) → T (every_access f) → (x : Option AccessKind) → T (f x)
by-access f t none = T-left (f none) (f (some Read)) (T-left (f none && f (some Read)) (f (some Write)) t)
by-access f t (some Read) = T-right (f none) (f (some Read)) (T-left (f none && f (some Read)) (f (some Write)) t)
by-access f t (some Write) = T-right (f none && f (some Read)) (f (some Write)) t

-- p's node is reached so (i), and q's so (j)
module _ (above : Bool) (i j : Reach) where
  abbrev end_before : Option AccessKind → Permission → Permission → ℕ
  end_before x p q = reached_refusal x i p or reached_refusal x j q or refusal_by (end_access p) (towards above) q

  abbrev end_after : Option AccessKind → Permission → Permission → ℕ
  end_after x p q = refusal_by (end_access (reached_next x i p)) (towards above) (reached_next x j q)

  abbrev keeps_end : Option AccessKind → Permission → Permission → Bool
  keeps_end x p q = none_after (end_before x p q) (end_after x p q)

  by-pairs : T (every_access (λ x. every_permission (λ p. every_permission (keeps_end x p)))) → (x : Option AccessKind) (p q : Permission)
      → reached_refusal x i p ≡ 0 → reached_refusal x j q ≡ 0 → EndAccepted above p q → EndAccepted above (reached_next x i p) (reached_next x j q)
  by-pairs t x p q e f h =
      let of_access = by-access (λ x. every_permission (λ p. every_permission (keeps_end x p))) t x in
      let of_pair = by-test (keeps_end x p) (by-test (λ p. every_permission (keeps_end x p)) of_access p) q in
      none_after_lem (end_before x p q) (end_after x p q) of_pair (ap₂ ◌or◌ e (ap₂ ◌or◌ f h))

end_kept : {above : Bool} {i j : Reach} → Possible above i j → (x : Option AccessKind) (p q : Permission)
    → reached_refusal x i p ≡ 0 → reached_refusal x j q ≡ 0 → EndAccepted above p q → EndAccepted above (reached_next x i p) (reached_next x j q)
unfolding refusal next
end_kept below_both = by-pairs true (Reached Local) (Reached Local) tt
end_kept between = by-pairs true (Reached Foreign) (Reached Local) tt
end_kept outside_both = by-pairs true (Reached Foreign) (Reached Foreign) tt
end_kept lower_spared = by-pairs true Spared (Reached Local) tt
end_kept at_first = by-pairs false (Reached Local) (Reached Foreign) tt
end_kept at_second = by-pairs false (Reached Foreign) (Reached Local) tt
end_kept elsewhere = by-pairs false (Reached Foreign) (Reached Foreign) tt
end_kept first_spared = by-pairs false Spared (Reached Foreign) tt
end_kept second_spared = by-pairs false (Reached Foreign) Spared tt
end_kept (both_spared above) = λ x p q e f h. h

-- a permission, and the same without its protector
abbrev Less : Permission → Permission → Type 0
Less p q = (q ≡ p) ⊎ (q ≡ unprotected p)

-- no access is refused that was not
abbrev still_accepts : NodeRelation → Option AccessKind → Permission → Bool
still_accepts r x p = none_after (refusal_by x r p) (refusal_by x r (unprotected p))

unprotected-accepts : (x : Option AccessKind) (r : NodeRelation) (p : Permission) → refusal_by x r p ≡ 0 → refusal_by x r (unprotected p) ≡ 0
unfolding refusal
unprotected-accepts x r p e = none_after_lem (refusal_by x r p) (refusal_by x r (unprotected p)) (tested r) e
  where
    tested : (r : NodeRelation) → T (still_accepts r x p)
    tested Local = by-test (still_accepts Local x) (by-access (λ x. every_permission (still_accepts Local x)) tt x) p
    tested Foreign = by-test (still_accepts Foreign x) (by-access (λ x. every_permission (still_accepts Foreign x)) tt x) p

-- and an end that makes no access is accepted everywhere
no_end : (above : Bool) (p q : Permission) → end_access p ≡ none → EndAccepted above p q
no_end above p q e = ap (λ (x : Option AccessKind). refusal_by x (towards above) q) e

unprotected-end : (p : Permission) → end_access (unprotected p) ≡ none
unprotected-end (Unprot u) = refl
unprotected-end (Prot p) = refl

less-end : (above : Bool) (p q p' q' : Permission) → Less p p' → Less q q' → EndAccepted above p q → EndAccepted above p' q'
less-end above p q p' q' a b h =
    ⊎_elim
    (λ (e : p' ≡ p).
    subst (λ (t : Permission). EndAccepted above t q') (sym e)
    (⊎_elim (λ (i : q' ≡ q). subst (λ (t : Permission). EndAccepted above p t) (sym i) h)
    (λ (i : q' ≡ unprotected q). subst (λ (t : Permission). EndAccepted above p t) (sym i) (unprotected-accepts (end_access p) (towards above) q h)) b))
    (λ (e : p' ≡ unprotected p). no_end above p' q' (ap end_access e ∙ unprotected-end p)) a

-- ---- a tree
abbrev EndsAccepted : List ℕ → List Node → Type 0
EndsAccepted ps nodes = (n k b : ℕ) → is_above ps n k ≡ false → EndAccepted (is_above ps k n) (permission_at nodes n b) (permission_at nodes k b)

-- the end of node n's protector is accepted at every node k that is not n or below it
pub record Releasable (nodes : List Node) : Type 0 where
  pub tree : Parents (parents nodes)
  pub ends : (n k b : ℕ) → is_above (parents nodes) n k ≡ false → EndAccepted (is_above (parents nodes) k n) (permission_at nodes n b) (permission_at nodes k b)

-- ---- what a visit can be to two nodes n and k, where n is not above k. The Booleans say who is above whom: `kn`, that k is above n
-- an access of node x
accessed-so : (kn nx kx : Bool) → (kn ≡ true → nx ≡ true → kx ≡ true) → (nx ≡ true → kx ≡ true → kn ≡ true) → Possible kn (Reached (towards nx)) (Reached (towards kx))
accessed-so true true true below joined = below_both
accessed-so true true false below joined = absurd (false≢true (below refl refl))
accessed-so true false true below joined = between
accessed-so true false false below joined = outside_both
accessed-so false true true below joined = absurd (false≢true (joined refl refl))
accessed-so false true false below joined = at_first
accessed-so false false true below joined = at_second
accessed-so false false false below joined = elsewhere

-- a release of node x, which spares those that x is above
record Spares (kn nx kx xn xk : Bool) : Type 0 where
  on_path : xn ≡ true → xk ≡ false → kn ≡ true → kx ≡ true
  through : xn ≡ true → kx ≡ true → kn ≡ true
  both : xk ≡ true → kn ≡ true → xn ≡ true
  never : xk ≡ true → nx ≡ true → ⊥

released-so : (kn nx kx xn xk : Bool) → Spares kn nx kx xn xk → Possible kn (Reached (towards nx)) (Reached (towards kx))
    → Possible kn (reach_by xn (towards nx)) (reach_by xk (towards kx))
released-so kn nx kx true true c accessed = both_spared kn
released-so true nx true true false c accessed = lower_spared
released-so true nx false true false c accessed = absurd (false≢true (c.on_path refl refl refl))
released-so false nx true true false c accessed = absurd (false≢true (c.through refl refl))
released-so false nx false true false c accessed = first_spared
released-so true nx kx false true c accessed = absurd (false≢true (c.both refl refl))
released-so false true kx false true c accessed = absurd (c.never refl refl)
released-so false false kx false true c accessed = second_spared
released-so kn nx kx false false c accessed = accessed

-- a visit spares none, or the accessed node with those below it
abbrev SparesAccessed : Option ℕ → ℕ → Type 0
SparesAccessed none x = Unit {0}
SparesAccessed (some s) x = s ≡ x

module _ (ps : List ℕ) (tree : Parents ps) (n k : ℕ) (apart : is_above ps n k ≡ false) where
  not-above : is_above ps n k ≡ true → ⊥
  not-above e = false≢true (sym apart ∙ e)

  accessed : (x : ℕ) → Possible (is_above ps k n) (Reached (towards (is_above ps n x))) (Reached (towards (is_above ps k x)))
  accessed x =
      accessed-so (is_above ps k n) (is_above ps n x) (is_above ps k x) (above-trans ps tree k n x)
      (λ nx kx. ⊎_elim (λ nk. absurd (not-above nk)) (λ kn. kn) (above-linear ps tree n k x nx kx))

  spares : (x : ℕ) → Spares (is_above ps k n) (is_above ps n x) (is_above ps k x) (is_above ps x n) (is_above ps x k)
  spares x =
      record {
        on_path = λ xn xk kn. ⊎_elim (λ kx. kx) (λ e. absurd (false≢true (sym xk ∙ e))) (above-linear ps tree k x n kn xn);
        through = λ xn kx. above-trans ps tree k x n kx xn;
        both = above-trans ps tree x k n;
        never = λ xk nx. not-above (above-trans ps tree n x k nx xk);
      }

  possible : (spared : Option ℕ) (x : ℕ) → SparesAccessed spared x
      → Possible (is_above ps k n) (reach_by (is_spared ps spared n) (relation ps n x)) (reach_by (is_spared ps spared k) (relation ps k x))
  unfolding relation
  possible none x e = accessed x
  possible (some s) x e =
      subst (λ (x : ℕ). Possible (is_above ps k n) (reach_by (is_above ps s n) (towards (is_above ps n x))) (reach_by (is_above ps s k) (towards (is_above ps k x)))) e
      (released-so (is_above ps k n) (is_above ps n s) (is_above ps k s) (is_above ps s n) (is_above ps s k) (spares s) (accessed s))

-- ---- a visit
pub visited-releasable : (v : Visit) → SparesAccessed v.spared v.accessed → (nodes : List Node) → visit_refusal v nodes ≡ 0 → Releasable nodes → Releasable (visited v nodes)
visited-releasable v own nodes e h =
    let ps : List ℕ = parents nodes in
    record {
      tree = subst Parents (sym (visited-parents v nodes)) h.tree;
      ends =
          subst (λ (qs : List ℕ). EndsAccepted qs (visited v nodes)) (sym (visited-parents v nodes))
          (λ n k b apart.
          rw (visited-at v nodes n b, visited-at v nodes k b)
          (end_kept (possible ps h.tree n k apart v.spared v.accessed own) (v.access_at b) (permission_at nodes n b) (permission_at nodes k b)
          (visit-accepted v nodes h.tree e n b) (visit-accepted v nodes h.tree e k b) (h.ends n k b apart)));
    }

-- ---- a release
unprotected-at : (state : Liveness) (n : ℕ) (nodes : List Node) (j b : ℕ) → Less (permission_at nodes j b) (permission_at (mutate_at n (unprotect_node state) nodes) j b)
unprotected-at state n nodes j b =
    mutate-holds (λ x. Less (permission_at nodes j b) (row_at x.permissions b)) no_node (unprotect_node state) nodes n j
    (λ e h.
    inr (get_or-map unprotected (node_at nodes n).permissions b (Unprot PermissionUnprot.Cell) ∙ ap (λ (i : ℕ). unprotected (permission_at nodes i b)) e)) (inl refl)

pub unprotected-parents : (state : Liveness) (n : ℕ) (nodes : List Node) → parents (mutate_at n (unprotect_node state) nodes) ≡ parents nodes
unprotected-parents state n nodes = mutate-map (λ x. x.parent) (unprotect_node state) (λ x. refl) n nodes

unprotected-releasable : (state : Liveness) (n : ℕ) (nodes : List Node) → Releasable nodes → Releasable (mutate_at n (unprotect_node state) nodes)
unprotected-releasable state n nodes h =
    let after : List Node = mutate_at n (unprotect_node state) nodes in
    let same : parents after ≡ parents nodes = unprotected-parents state n nodes in
    record {
      tree = subst Parents (sym same) h.tree;
      ends =
          subst (λ (qs : List ℕ). EndsAccepted qs after) (sym same)
          (λ i k b apart.
          less-end (is_above (parents nodes) k i) (permission_at nodes i b) (permission_at nodes k b) (permission_at after i b) (permission_at after k b)
          (unprotected-at state n nodes i b) (unprotected-at state n nodes k b) (h.ends i k b apart));
    }

pub release-accepted : (state : Liveness) (n : ℕ) (nodes : List Node) → Releasable nodes → release_visit_refusal state n nodes ≡ 0
release-accepted Dead n nodes h = refl
release-accepted Live n nodes h =
    let ps : List ℕ = parents nodes in
    let after : List Node = mutate_at n (unprotect_node Live) nodes in
    visit-accepts (release_visit n nodes) after
    (λ j b.
    subst (λ (qs : List ℕ). reached_refusal (end_access (permission_at nodes n b)) (reach_by (is_above qs n j) (relation qs j n)) (permission_at after j b) ≡ 0) (sym (unprotected-parents Live n nodes))
    (go j b (is_above ps n j) (h.ends n j b)))
  where
    go : (j b : ℕ) (t : Bool) → (t ≡ false → EndAccepted (is_above (parents nodes) j n) (permission_at nodes n b) (permission_at nodes j b))
        → reached_refusal (end_access (permission_at nodes n b)) (reach_by t (relation (parents nodes) j n)) (permission_at (mutate_at n (unprotect_node Live) nodes) j b) ≡ 0
    go j b true f = refl
    go j b false f =
        unfold relation in
        less-end (is_above (parents nodes) j n) (permission_at nodes n b) (permission_at nodes j b) (permission_at nodes n b) (permission_at (mutate_at n (unprotect_node Live) nodes) j b)
        (inl refl) (unprotected-at Live n nodes j b) (f refl)

pub released-releasable : (state : Liveness) (n : ℕ) (nodes : List Node) → release_visit_refusal state n nodes ≡ 0 → Releasable nodes → Releasable (released_nodes state n nodes)
released-releasable Live n nodes e h = visited-releasable (release_visit n nodes) refl (mutate_at n (unprotect_node Live) nodes) e (unprotected-releasable Live n nodes h)
released-releasable Dead n nodes e h = unprotected-releasable Dead n nodes h

-- ---- a new node: its permissions' ends make no access, and no foreign access is refused at them
abbrev Starts : Permission → Type 0
Starts p = (end_access p ≡ none) × ((x : Option AccessKind) → refusal_by x Foreign p ≡ 0)

starts : (p : Permission) → end_access p ≡ none → refusal Read Foreign p ≡ 0 → refusal Write Foreign p ≡ 0 → Starts p
starts p e r w = (e, by)
  where
    by : (x : Option AccessKind) → refusal_by x Foreign p ≡ 0
    by none = refl
    by (some Read) = r
    by (some Write) = w

mk_perm-starts : (protected : Protected) (u : PermissionUnprot) (p : PermissionProt) → Starts (Unprot u) → Starts (Prot p) → Starts (mk_perm protected u p)
mk_perm-starts No u p a b = a
mk_perm-starts Weak u p a b = b
mk_perm-starts Strong u p a b = b

start_perm-starts : (pointer : SafePointer) (protected : Protected) (freeze : Bool) → Starts (start_perm pointer protected freeze)
unfolding refusal
start_perm-starts SharedRef protected true = mk_perm-starts protected PermissionUnprot.Frozen (PermissionProt.Frozen no_local_read) (starts _ refl refl refl) (starts _ refl refl refl)
start_perm-starts SharedRef protected false = mk_perm-starts protected PermissionUnprot.Cell PermissionProt.Cell (starts _ refl refl refl) (starts _ refl refl refl)
start_perm-starts MutableRef protected true = mk_perm-starts protected PermissionUnprot.Reserved (PermissionProt.Reserved no_local_read no_foreign_read) (starts _ refl refl refl) (starts _ refl refl refl)
start_perm-starts MutableRef protected false = mk_perm-starts protected PermissionUnprot.ReservedIm (PermissionProt.Reserved no_local_read no_foreign_read) (starts _ refl refl refl) (starts _ refl refl refl)
start_perm-starts Box protected true = mk_perm-starts protected PermissionUnprot.Reserved (PermissionProt.Reserved no_local_read no_foreign_read) (starts _ refl refl refl) (starts _ refl refl refl)
start_perm-starts Box protected false = mk_perm-starts protected PermissionUnprot.ReservedIm (PermissionProt.Reserved no_local_read no_foreign_read) (starts _ refl refl refl) (starts _ refl refl refl)

row-starts : (row : List Permission) → All Starts row → (b : ℕ) → Starts (row_at row b)
row-starts row h b = all_get_d Starts row b (Unprot PermissionUnprot.Cell) h (refl, λ x. cell-accepts x Foreign)

module _ (nodes : List Node) (child : Node) (new : All Starts child.permissions) where
  abbrev family : List Node
  family = nodes ++ (child ∷ [])

  -- whatever is no earlier node
  later-starts : (n : ℕ) → (n < length nodes → ⊥) → (b : ℕ) → Starts (permission_at family n b)
  later-starts n l b =
      elim (ℕ_discrete n (length nodes)) [
        | yes e ↦
            subst (λ (x : Node). Starts (row_at x.permissions b)) (sym (ap (node_at family) e ∙ get_or-append_seam nodes child [] no_node)) (row-starts child.permissions new b)
        | no e ↦
            subst (λ (x : Node). Starts (row_at x.permissions b)) (sym (get_or-eq_default family no_node {n = n} (omega (arith, length-append nodes (child ∷ [])))))
            (row-starts [] tt b)
      ]

  appended-releasable : child.parent < length nodes → Releasable nodes → Releasable (nodes ++ (child ∷ []))
  appended-releasable l h =
      let ps : List ℕ = parents nodes in
      let qs : List ℕ = ps ++ (child.parent ∷ []) in
      let many : length ps ≡ length nodes = length-map nodes (λ x. x.parent) in
      let tree : Parents qs = grown-tree ps h.tree child.parent (omega arith) in
      record {
        tree = subst Parents (sym (parents-append nodes child)) tree;
        ends =
            subst (λ (rs : List ℕ). EndsAccepted rs family) (sym (parents-append nodes child))
            (λ n k b apart.
            elim (dec_lt n (length nodes)) [
              | yes i ↦
                  elim (dec_lt k (length nodes)) [
                    | yes j ↦
                        rw (
                          get_or-append nodes (child ∷ []) no_node n i,
                          get_or-append nodes (child ∷ []) no_node k j,
                          above-append ps h.tree (child.parent ∷ []) k n (omega arith),
                        )
                        (h.ends n k b (sym (above-append ps h.tree (child.parent ∷ []) n k (omega arith)) ∙ apart))
                    | no j ↦ rw (not-above-smaller qs tree k n (omega arith)) ((later-starts k j b).1 (end_access (permission_at family n b)))
                  ]
              | no i ↦ no_end (is_above qs k n) (permission_at family n b) (permission_at family k b) (later-starts n i b).0
            ]);
      }

module _ (pointer : SafePointer) (protected : Protected) (mask : FreezeMask) (freeze : Bool) (p : ThinPointer) (a : Allocation) where
  abbrev w : ReborrowSettings
  w = reborrow_settings pointer protected mask freeze

  child-starts : All Starts (child_node w p a).permissions
  unfolding child_node
  child-starts =
      all-write Starts (offset a p) w.inside (replicate (size a) w.outside)
      (all_map Starts (start_perm pointer protected) (start_perm-starts pointer protected) mask)
      (all_replicate Starts (size a) w.outside (start_perm-starts pointer protected freeze))

  pub with_child-releasable : node_of p.provenance < length a.nodes → Releasable a.nodes → Releasable (with_child (reborrow_settings pointer protected mask freeze) p a)
  unfolding with_child child_node
  with_child-releasable l h = appended-releasable a.nodes (child_node w p a) child-starts l h

pub init-releasable : (child b : ℕ) (inside : List Permission) (nodes : List Node) → init_refusal child b inside nodes ≡ 0 → Releasable nodes → Releasable (after_init child b inside nodes)
unfolding init_refusal after_init
init-releasable child b [] nodes e h = h
init-releasable child b (p ∷ inside) nodes e h =
    let first : ℕ = visit_refusal (init_visit child b p) nodes in
    let after : List Node = visited (init_visit child b p) nodes in
    let later : ℕ = init_refusal child (suc b) inside after in
    init-releasable child (suc b) inside after (or_right first later e) (visited-releasable (init_visit child b p) tt nodes (or_left first later e) h)

-- ---- trees without a protector: no node's end makes an access
pub no-end-releasable : (nodes : List Node) → Parents (parents nodes) → ((n b : ℕ) → end_access (permission_at nodes n b) ≡ none) → Releasable nodes
no-end-releasable nodes tree h = record { tree = tree; ends = λ n k b apart. no_end (is_above (parents nodes) k n) (permission_at nodes n b) (permission_at nodes k b) (h n b) }
