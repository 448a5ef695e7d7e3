-- 24's test, over the tables: a row as the write leaves it, and a node that prevents deallocation then.
use Rattle.std.specs.Prelude.{if◌then◌else◌}
use Prim.Native.Nat.{ℕ, ◌+◌, ◌-◌, ◌*◌, ◌<◌}
use mathlib.Core.Path.{◌≡◌, refl, sym, ap, ap₂, ◌∙◌}
use mathlib.Core.Bool.{Bool, true, false, ◌&&◌}
use mathlib.Core.Option.{some}
use mathlib.Core.List.{List, [], ◌∷◌, ◌++◌, map, append-nil}
use native.Mathlib.Omega.{arith}
use lib.ListN.{length, get_or, take, drop, drop_of_length-le}
use lib.Seq.{take_all}
use Rattle.definition.specs.Notation.{◌when◌, ◌or◌, any}
use Rattle.definition.specs.Refusal.{strong_protector}
use Rattle.definition.specs.Permission.{Permission, NodeRelation, Protected, is_strong, prevents_deallocation, next, code}
use Rattle.definition.specs.Permission.AccessKind.{Write}
use Rattle.definition.specs.Permission.Protected.{No, Weak, Strong}
use Rattle.definition.specs.Tree.{Node, no_node, node_at, parents, relation, row_after, node_after, Visit, visit_refusal, visited, access_visit}
use Rattle.definition.specs.Memory.{node_prevents_deallocation}
use Rattle.definition.proofs.Places.{each_at}
use Rattle.definition.proofs.Ranges.{access_in, range-after}
use Rattle.permission.specs.Codes.{next_code, prevents_code}
use Rattle.permission.proofs.Codes.{next-code, prevents-code}
use Rattle.tree.specs.Table.{rows_of, protector_number, HoldsAll}
use Rattle.visit.specs.Walk.{row_at}
use Rattle.tree.specs.Requests.{deallocate_refusal, Deallocated}
use Rattle.visit.proofs.Rows.{or-positive}
use Rattle.tree.proofs.Held.{wide_at}
use Rattle.visit.proofs.Places.{part-row}
use Rattle.tree.proofs.Visits.{accepted-nodes, refused-nodes}
use Rattle.tree.proofs.Releases.{held-row, mark-at}

-- ---- a row
abbrev pub prevents_after_write : NodeRelation → ℕ → Bool
prevents_after_write r c = prevents_code (next_code (some Write) r c)

row-prevents : (r : NodeRelation) (row : List Permission) → any (prevents_after_write r) (map code row) ≡ any prevents_deallocation (map (next Write r) row)
unfolding any
row-prevents r [] = refl
row-prevents r (p ∷ row) =
    ap₂ (λ (a b : Bool). if a then true else b) (ap prevents_code (next-code (some Write) r p) ∙ prevents-code (next Write r p)) (row-prevents r row)

-- a write to all bytes of a row
written : (r : NodeRelation) (width : ℕ) (row : List Permission) → length row ≡ width → row_after (access_in Write 0 width) r row ≡ map (next Write r) row
written r width row e =
    range-after Write r 0 width row
    ∙ ap₂ (λ (a b : List Permission). map (next Write r) a ++ b) (take_all width row (omega arith)) (drop_of_length-le row {i = width} (omega arith))
    ∙ append-nil (map (next Write r) row)

-- ---- marks
strong : (p : Protected) → protector_number p ≡ 2 → is_strong p ≡ true
strong No e = absurd (omega arith)
strong Weak e = absurd (omega arith)
strong Strong e = refl

not-strong : (p : Protected) → (protector_number p ≡ 2 → ⊥) → is_strong p ≡ false
not-strong No h = refl
not-strong Weak h = refl
not-strong Strong h = absurd (h refl)

-- ---- a node
module _ (nodes : List Node) (width : ℕ) (ps protectors codes : List ℕ) (held : HoldsAll nodes width ps protectors codes) (node n : ℕ) (l : n < length nodes) where
  abbrev after : List Node
  after = visited (access_visit Write node 0 width) nodes

  after-at : node_at after n ≡ node_after (access_visit Write node 0 width) (parents nodes) n (node_at nodes n)
  unfolding visited
  after-at = each_at (node_after (access_visit Write node 0 width) (parents nodes)) no_node no_node nodes n l

  mark_of : get_or protectors n 0 ≡ protector_number (node_at nodes n).protected
  mark_of = ap (λ (m : List ℕ). get_or m n 0) held.marked ∙ mark-at nodes n

  prevents-at : node_prevents_deallocation (node_at after n) ≡ (is_strong (node_at nodes n).protected && any (prevents_after_write (relation ps n node)) (row_at width n codes))
  unfolding node_after
  prevents-at =
      ap node_prevents_deallocation after-at
      ∙ ap (λ (row : List Permission). is_strong (node_at nodes n).protected && any prevents_deallocation row) (written (relation (parents nodes) n node) width (node_at nodes n).permissions (wide_at width nodes held.holds.table.wide n l))
      ∙ ap (λ (b : Bool). is_strong (node_at nodes n).protected && b)
      (sym (row-prevents (relation (parents nodes) n node) (node_at nodes n).permissions)
      ∙ ap₂ (λ (qs cs : List ℕ). any (prevents_after_write (relation qs n node)) cs) (sym held.holds.parents) (sym (held-row nodes width codes held.holds.table n l)))

  -- what the search of the row of a strongly protected node answers
  pub strong-prevents : get_or protectors n 0 ≡ 2 → (r : Bool) (rel : NodeRelation) → rel ≡ relation ps n node
      → r ≡ any (prevents_after_write rel) (take (n * width + width - n * width) (drop (n * width) codes)) → node_prevents_deallocation (node_at after n) ≡ r
  strong-prevents e r rel q a =
      prevents-at
      ∙ rw (strong (node_at nodes n).protected (sym mark_of ∙ e))
      (sym (a ∙ ap₂ (λ (x : NodeRelation) (row : List ℕ). any (prevents_after_write x) row) q (part-row width n codes)))

  pub other-prevents-not : (get_or protectors n 0 ≡ 2 → ⊥) → node_prevents_deallocation (node_at after n) ≡ false
  other-prevents-not h = prevents-at ∙ rw (not-strong (node_at nodes n).protected (λ q. h (mark_of ∙ q)))

-- ---- the answer: the write is refused, or a strong protector prevents, or neither
module _ (nodes : List Node) (node width answer : ℕ) (codes : List ℕ) where
  abbrev write : Visit
  write = access_visit Write node 0 width

  refused : answer ≡ deallocate_refusal node width nodes → (answer ≡ 0 → ⊥) → codes ≡ rows_of nodes → Deallocated node width nodes answer codes
  refused e z t =
      record { refusal = e; table = t ∙ ap rows_of (sym (refused-nodes (deallocate_refusal node width nodes) nodes (visited write nodes) (λ q. z (e ∙ q)))) }

  pub write-refused : answer ≡ visit_refusal write nodes → (answer ≡ 0 → ⊥) → codes ≡ rows_of nodes → Deallocated node width nodes answer codes
  unfolding deallocate_refusal
  write-refused e z t = refused (e ∙ sym (or-positive (visit_refusal write nodes) _ (omega arith))) z t

  pub strong-refused : visit_refusal write nodes ≡ 0 → any node_prevents_deallocation (visited write nodes) ≡ true → answer ≡ 24 → codes ≡ rows_of nodes → Deallocated node width nodes answer codes
  unfolding deallocate_refusal
  strong-refused n s e t =
      refused (e ∙ sym (ap₂ (λ (k : ℕ) (b : Bool). k or strong_protector when b) n s)) (λ q. absurd (omega arith)) t

  pub write-accepted : visit_refusal write nodes ≡ 0 → any node_prevents_deallocation (visited write nodes) ≡ false → answer ≡ 0 → codes ≡ rows_of (visited write nodes) → Deallocated node width nodes answer codes
  unfolding deallocate_refusal
  write-accepted n s e t =
      let none : deallocate_refusal node width nodes ≡ 0 = ap₂ (λ (k : ℕ) (b : Bool). k or strong_protector when b) n s in
      record { refusal = e ∙ sym none; table = t ∙ ap rows_of (sym (accepted-nodes (deallocate_refusal node width nodes) nodes (visited write nodes) none)) }
