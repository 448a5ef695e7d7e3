-- A retag's reads byte by byte: what is left of them from the k-th byte on. None is refused if the visit that makes them all at once is not.
use Prim.Native.Nat.{ℕ, zero, suc, ◌+◌, ◌-◌, ◌≤◌, ◌<◌}
use mathlib.Core.Path.{◌≡◌, refl, sym, ap, ap₂, subst, subst⁻¹, ◌∙◌}
use mathlib.Core.Logic.{◌⊎◌, inl, inr, ⊎_elim}
use mathlib.Core.Option.{Option, none, some}
use mathlib.Core.List.{List, [], ◌∷◌, map}
use native.Mathlib.Nat.{add-zero}
use native.Mathlib.Numerals.{add-one}
use native.Mathlib.Decide.{ℕ_discrete, dec_lt}
use native.Mathlib.Omega.{arith}
use borrow.Author.Tests.{lt-ltb, le-ltb}
use lib.ListN.{length, get_or, drop, length-map, drop_of_length-le, get_or-map, get_or-eq_default}
use Rattle.definition.specs.Notation.{◌or◌, first_refusal}
use Rattle.definition.specs.Permission.{AccessKind, NodeRelation, Permission, permissions, permission, init_access, refusal_by}
use Rattle.definition.specs.Permission.Permission.{Unprot}
use Rattle.definition.specs.Permission.PermissionUnprot.{Cell}
use Rattle.definition.specs.Tree.{Node, node_at, parents, relation, visiting_order, row_refusal, node_refusal, visit_refusal, access_visit}
use Rattle.definition.proofs.Booleans.{or_left, or_right}
use Rattle.definition.proofs.Lists.{first-none}
use Rattle.definition.proofs.Ranges.{range-places, list-places}
use Rattle.definition.proofs.Retags.{byte_refusal, reads_refusal, reads_visit, reads-step}
use Rattle.permission.specs.Codes.{init_access_code}
use Rattle.visit.proofs.Rows.{or-positive}

-- a number that is no code is read as Cell, which has no access either
pub init-access-permission : (c : ℕ) → init_access_code c ≡ init_access (permission c)
unfolding init_access_code
init-access-permission c = elim (dec_lt c 15) [
  | yes lt ↦ rw (lt-ltb c 15 lt)
  | no ge ↦ rw (le-ltb c 15 (omega arith)) (sym (ap init_access (get_or-eq_default permissions (Unprot Cell) {n = c} (omega arith))))
]

module _ (node from : ℕ) (inside : List ℕ) (nodes : List Node) where
  abbrev pub reads_left : ℕ → ℕ
  reads_left k = reads_refusal node (from + k) (drop k (map permission inside)) nodes

  pub reads_all : reads_left 0 ≡ reads_refusal node from (map permission inside) nodes
  reads_all = ap (λ (b : ℕ). reads_refusal node b (map permission inside) nodes) (add-zero from)

  module _ (k : ℕ) (l : k < length inside) (x : Option AccessKind) (e : x ≡ init_access_code (get_or inside k 0)) where
    step : reads_left k ≡ (byte_refusal x node (from + k) nodes or reads_left (k + 1))
    step =
        reads-step node from (map permission inside) nodes (permission 0) k (omega (arith, length-map inside permission))
        ∙ ap₂ (λ (y : Option AccessKind) (i : ℕ). byte_refusal y node (from + k) nodes or reads_left i)
        (ap init_access (get_or-map permission inside k 0) ∙ sym (init-access-permission (get_or inside k 0)) ∙ sym e) (sym (add-one k))

    pub reads-skipped : x ≡ none → reads_left (k + 1) ≡ reads_left k
    reads-skipped n = sym (step ∙ rw n)

    pub reads-passed : (a : AccessKind) (r : ℕ) → x ≡ some a → r ≡ visit_refusal (access_visit a node (from + k) 1) nodes → r ≡ 0 → reads_left (k + 1) ≡ reads_left k
    reads-passed a r s q z = sym (step ∙ rw (s, sym q ∙ z))

    pub reads-refused : (a : AccessKind) (r : ℕ) → x ≡ some a → r ≡ visit_refusal (access_visit a node (from + k) 1) nodes → (r ≡ 0 → ⊥) → r ≡ reads_left k
    reads-refused a r s q z = sym (step ∙ rw (s, sym q) (or-positive r (reads_left (k + 1)) (omega arith)))

  pub reads_end : (k : ℕ) → length inside ≤ k → reads_left k ≡ 0
  unfolding reads_refusal
  reads_end k l =
      ap (λ ps. reads_refusal node (from + k) ps nodes) (drop_of_length-le (map permission inside) {i = k} (omega (arith, length-map inside permission)))

-- ---- all the reads at once
first-fewer : (f g : ℕ → ℕ) → ((n : ℕ) → f n ≡ 0 → g n ≡ 0) → (ns : List ℕ) → first_refusal f ns ≡ 0 → first_refusal g ns ≡ 0
unfolding first_refusal
first-fewer f g h [] e = refl
first-fewer f g h (n ∷ ns) e = ap₂ ◌or◌ (h n (or_left (f n) _ e)) (first-fewer f g h ns (or_right (f n) _ e))

-- of a row that accesses are not refused in, fewer of them are not refused either
row-fewer : (f g : ℕ → Option AccessKind) → ((b : ℕ) → (g b ≡ none) ⊎ (g b ≡ f b)) → (r : NodeRelation) (b : ℕ) (row : List Permission) → row_refusal f r b row ≡ 0 → row_refusal g r b row ≡ 0
unfolding row_refusal
row-fewer f g h r b [] e = refl
row-fewer f g h r b (p ∷ row) e =
    ap₂ ◌or◌
    (⊎_elim (λ z. ap (λ (x : Option AccessKind). refusal_by x r p) z) (λ z. ap (λ (x : Option AccessKind). refusal_by x r p) z ∙ or_left (refusal_by (f b) r p) _ e) (h b))
    (row-fewer f g h r (suc b) row (or_right (refusal_by (f b) r p) _ e))

module _ (node from : ℕ) (inside : List ℕ) (nodes : List Node) (none-refused : visit_refusal (reads_visit node from (map permission inside)) nodes ≡ 0) where
  -- the k-th byte's read is one of them
  module _ (k : ℕ) (a : AccessKind) (e : init_access_code (get_or inside k 0) ≡ some a) (l : k < length inside) where
    elsewhere : (b : ℕ) → (b ≡ from + k → ⊥) → (access_visit a node (from + k) 1).access_at b ≡ none
    elsewhere b q =
        elim (dec_lt b (from + k)) [
          | yes h ↦ (range-places a (from + k) 1).before b h
          | no h ↦
              let later : b ≡ from + k + suc (b - suc (from + k)) = omega arith in
              ap (access_visit a node (from + k) 1).access_at later ∙ (range-places a (from + k) 1).at (suc (b - suc (from + k)))
        ]

    here : (access_visit a node (from + k) 1).access_at (from + k) ≡ (reads_visit node from (map permission inside)).access_at (from + k)
    here =
        ap (access_visit a node (from + k) 1).access_at (sym (add-zero (from + k)))
        ∙ (range-places a (from + k) 1).at 0
        ∙ sym
        ((list-places from (map init_access (map permission inside))).at k
        ∙ init-at inside k l
        ∙ e)
      where
        init-at : (cs : List ℕ) (k : ℕ) → k < length cs → get_or (map init_access (map permission cs)) k none ≡ init_access_code (get_or cs k 0)
        init-at [] k l = absurd (omega arith)
        init-at (c ∷ cs) zero l = sym (init-access-permission c)
        init-at (c ∷ cs) (suc k) l = init-at cs k (omega arith)

    byte-passes : visit_refusal (access_visit a node (from + k) 1) nodes ≡ 0
    unfolding visit_refusal node_refusal
    byte-passes =
        first-fewer _ _
        (λ n z.
        row-fewer (reads_visit node from (map permission inside)).access_at (access_visit a node (from + k) 1).access_at
        (λ b. elim (ℕ_discrete b (from + k)) [
          | yes q ↦ inr (ap (access_visit a node (from + k) 1).access_at q ∙ here ∙ ap (reads_visit node from (map permission inside)).access_at (sym q))
          | no q ↦ inl (elsewhere b q)
        ]) _ 0 _ z) _ none-refused

  byte-none : (k : ℕ) → k < length inside → (x : Option AccessKind) → init_access_code (get_or inside k 0) ≡ x → byte_refusal x node (from + k) nodes ≡ 0
  byte-none k l none e = refl
  byte-none k l (some a) e = byte-passes k a e l

  left-none : (steps k : ℕ) → k + steps ≡ length inside → reads_left node from inside nodes k ≡ 0
  left-none zero k e = reads_end node from inside nodes k (omega arith)
  left-none (suc steps) k e =
      step node from inside nodes k (omega arith) (init_access_code (get_or inside k 0)) refl
      ∙ ap₂ ◌or◌ (byte-none k (omega arith) (init_access_code (get_or inside k 0)) refl) (left-none steps (k + 1) (omega arith))

  pub reads_none : reads_refusal node from (map permission inside) nodes ≡ 0
  reads_none = sym (reads_all node from inside nodes) ∙ left-none (length inside) 0 (omega arith)

-- ---- and the other way: where no read is refused, the visit that makes them all at once is not
first-family : (f : ℕ → ℕ → ℕ) (g : ℕ → ℕ) → ((n : ℕ) → ((k : ℕ) → f k n ≡ 0) → g n ≡ 0) → (ns : List ℕ) → ((k : ℕ) → first_refusal (f k) ns ≡ 0) → first_refusal g ns ≡ 0
unfolding first_refusal
first-family f g h [] e = refl
first-family f g h (n ∷ ns) e = ap₂ ◌or◌ (h n (λ k. or_left (f k n) _ (e k))) (first-family f g h ns (λ k. or_right (f k n) _ (e k)))

row-family : (f : ℕ → Option AccessKind) (g : ℕ → ℕ → Option AccessKind) → ((b : ℕ) → (f b ≡ none) ⊎ ((k : ℕ) × (f b ≡ g k b))) → (r : NodeRelation) (b : ℕ) (row : List Permission)
    → ((k : ℕ) → row_refusal (g k) r b row ≡ 0) → row_refusal f r b row ≡ 0
unfolding row_refusal
row-family f g h r b [] e = refl
row-family f g h r b (p ∷ row) e =
    ap₂ ◌or◌
    (⊎_elim (λ z. ap (λ (x : Option AccessKind). refusal_by x r p) z) (λ z. ap (λ (x : Option AccessKind). refusal_by x r p) z.1 ∙ or_left (refusal_by (g z.0 b) r p) _ (e z.0)) (h b))
    (row-family f g h r (suc b) row (λ k. or_right (refusal_by (g k b) r p) _ (e k)))

none_row : (r : NodeRelation) (b : ℕ) (row : List Permission) → row_refusal (λ b. none) r b row ≡ 0
unfolding row_refusal
none_row r b [] = refl
none_row r b (p ∷ row) = none_row r (suc b) row

module _ (node : ℕ) (nodes : List Node) where
  reads_bytes : (b : ℕ) (ps : List Permission) → reads_refusal node b ps nodes ≡ 0 → (k : ℕ) → byte_refusal (get_or (map init_access ps) k none) node (b + k) nodes ≡ 0
  unfolding reads_refusal
  reads_bytes b [] e k = refl
  reads_bytes b (p ∷ ps) e zero = rw (add-zero b) (or_left (byte_refusal (init_access p) node b nodes) _ e)
  reads_bytes b (p ∷ ps) e (suc k) =
      let next : suc b + k ≡ b + suc k = omega arith in
      subst (λ (i : ℕ). byte_refusal (get_or (map init_access ps) k none) node i nodes ≡ 0) next (reads_bytes (suc b) ps (or_right (byte_refusal (init_access p) node b nodes) _ e) k)

  -- the accesses of one byte's read
  abbrev alone : Option AccessKind → ℕ → ℕ → Option AccessKind
  alone none at b = none
  alone (some a) at b = (access_visit a node at 1).access_at b

  alone-there : (x : Option AccessKind) (at : ℕ) → alone x at at ≡ x
  alone-there none at = refl
  alone-there (some a) at = ap (access_visit a node at 1).access_at (sym (add-zero at)) ∙ (range-places a at 1).at 0

  module _ (from : ℕ) (ps : List Permission) (e : reads_refusal node from ps nodes ≡ 0) where
    alone-passes : (k : ℕ) (x : Option AccessKind) → byte_refusal x node (from + k) nodes ≡ 0
        → first_refusal (λ n. row_refusal (alone x (from + k)) (relation (parents nodes) n node) 0 (node_at nodes n).permissions) (visiting_order (parents nodes) none) ≡ 0
    unfolding visit_refusal node_refusal
    alone-passes k none q = first-none _ (λ n. none_row (relation (parents nodes) n node) 0 (node_at nodes n).permissions) (visiting_order (parents nodes) none)
    alone-passes k (some a) q = q

    read-somewhere : (b : ℕ) → ((reads_visit node from ps).access_at b ≡ none) ⊎ ((k : ℕ) × ((reads_visit node from ps).access_at b ≡ alone (get_or (map init_access ps) k none) (from + k) b))
    read-somewhere b =
        elim (dec_lt b from) [
          | yes h ↦ inl ((list-places from (map init_access ps)).before b h)
          | no h ↦
              let there : b ≡ from + (b - from) = omega arith in
              inr (
                b - from,
                subst⁻¹ (λ (i : ℕ). (reads_visit node from ps).access_at i ≡ alone (get_or (map init_access ps) (b - from) none) (from + (b - from)) i) there
                    ((list-places from (map init_access ps)).at (b - from) ∙ sym (alone-there (get_or (map init_access ps) (b - from) none) (from + (b - from)))),
              )
        ]

    pub reads-together : visit_refusal (reads_visit node from ps) nodes ≡ 0
    unfolding visit_refusal node_refusal
    reads-together =
        first-family (λ k n. row_refusal (alone (get_or (map init_access ps) k none) (from + k)) (relation (parents nodes) n node) 0 (node_at nodes n).permissions) _
        (λ n q. row-family (reads_visit node from ps).access_at (λ k. alone (get_or (map init_access ps) k none) (from + k)) read-somewhere (relation (parents nodes) n node) 0 (node_at nodes n).permissions q)
        (visiting_order (parents nodes) none) (λ k. alone-passes k (get_or (map init_access ps) k none) (reads_bytes from ps e k))
