-- A table of rows and the nodes that it holds: row n of the table is node n's, and the table with another row n holds the nodes with another node n.
use Prim.Native.Nat.{ℕ, zero, suc, ◌+◌, ◌*◌, ◌≤◌, ◌<◌}
use mathlib.Core.Path.{◌≡◌, sym, ap, ap₂, ◌∙◌}
use mathlib.Core.List.{List, [], ◌∷◌, ◌++◌, map, append_assoc}
use native.Mathlib.Nat.{suc-mul, zero-mul, add_comm}
use native.Mathlib.Omega.{arith}
use lib.ListN.{length, take, drop, length-append, length-map}
use lib.Seq.{take_at, drop_at, take-append-add, drop-append-add}
use Rattle.definition.specs.Notation.{mutate_at}
use Rattle.definition.specs.Permission.{code}
use Rattle.definition.specs.Tree.{Node, node_at}
use Rattle.definition.specs.Valid.{All}
use Rattle.definition.proofs.Parts.{row_fits}
use Rattle.tree.specs.Table.{rows_of, concat_map, protector_number, marks, HoldsRows, Holds, HoldsMarks, HoldsAll}
use Rattle.visit.specs.Walk.{row_at, with_row_at}

module _ (width : ℕ) where
  -- each row has `width` codes
  abbrev pub Wide : List Node → Type 0
  Wide nodes = All (λ x. length x.permissions ≡ width) nodes

  pub wide_at : (nodes : List Node) → Wide nodes → (n : ℕ) → n < length nodes → length (node_at nodes n).permissions ≡ width
  wide_at [] w n l = absurd (omega arith)
  wide_at (x ∷ nodes) w zero l = w.0
  wide_at (x ∷ nodes) w (suc n) l = wide_at nodes w.1 n (omega arith)

  pub rows-length : (nodes : List Node) → Wide nodes → length (rows_of nodes) ≡ length nodes * width
  unfolding concat_map
  rows-length [] w = sym (zero-mul width)
  rows-length (x ∷ nodes) w =
      length-append (map code x.permissions) (rows_of nodes)
      ∙ rw (length-map x.permissions code, w.0, rows-length nodes w.1, suc-mul (length nodes) width) (add_comm width (length nodes * width))

  -- behind the first row
  module _ (x : Node) (e : length x.permissions ≡ width) (rest : List ℕ) (n : ℕ) where
    at : suc n * width ≡ length (map code x.permissions) + n * width
    at = suc-mul n width ∙ omega (arith, length-map x.permissions code)

    drop-row : drop (suc n * width) (map code x.permissions ++ rest) ≡ drop (n * width) rest
    drop-row = ap (λ (k : ℕ). drop k (map code x.permissions ++ rest)) at ∙ drop-append-add (map code x.permissions) rest (n * width)

    take_row : take (suc n * width) (map code x.permissions ++ rest) ≡ map code x.permissions ++ take (n * width) rest
    take_row = ap (λ (k : ℕ). take k (map code x.permissions ++ rest)) at ∙ take-append-add (map code x.permissions) rest (n * width)

  pub row-held : (nodes : List Node) → Wide nodes → (n : ℕ) → n < length nodes → row_at width n (rows_of nodes) ≡ map code (node_at nodes n).permissions
  unfolding concat_map
  row-held [] w n l = absurd (omega arith)
  row-held (x ∷ nodes) w zero l =
      rw (zero-mul width) (take_at (map code x.permissions) (rows_of nodes) width (length-map x.permissions code ∙ w.0))
  row-held (x ∷ nodes) w (suc n) l = ap (take width) (drop-row x w.0 (rows_of nodes) n) ∙ row-held nodes w.1 n (omega arith)

  pub row-changed : (f : Node → Node) (nodes : List Node) → Wide nodes → (n : ℕ) → n < length nodes
      → with_row_at width n (map code (f (node_at nodes n)).permissions) (rows_of nodes) ≡ rows_of (mutate_at n f nodes)
  unfolding concat_map mutate_at
  row-changed f [] w n l = absurd (omega arith)
  row-changed f (x ∷ nodes) w zero l =
      rw (zero-mul width)
      (ap (λ (l : List ℕ). map code (f x).permissions ++ l) (drop_at (map code x.permissions) (rows_of nodes) width (length-map x.permissions code ∙ w.0)))
  row-changed f (x ∷ nodes) w (suc n) l =
      let new : List ℕ = map code (f (node_at nodes n)).permissions in
      ap₂ (λ (a b : List ℕ). a ++ (new ++ drop width b)) (take_row x w.0 (rows_of nodes) n) (drop-row x w.0 (rows_of nodes) n)
      ∙ append_assoc (map code x.permissions) (take (n * width) (rows_of nodes)) (new ++ drop width (drop (n * width) (rows_of nodes)))
      ∙ ap (λ (l : List ℕ). map code x.permissions ++ l) (row-changed f nodes w.1 n (omega arith))

  -- another node n keeps the rows wide
  pub wide-changed : (f : Node → Node) → ((x : Node) → length (f x).permissions ≡ length x.permissions) → (nodes : List Node) (n : ℕ) → Wide nodes → Wide (mutate_at n f nodes)
  unfolding mutate_at
  wide-changed f e [] n w = w
  wide-changed f e (x ∷ nodes) zero w = (e x ∙ w.0, w.1)
  wide-changed f e (x ∷ nodes) (suc n) w = (w.0, wide-changed f e nodes n w.1)

-- ---- how much the tables hold
pub held_fits : (nodes : List Node) (width : ℕ) (codes : List ℕ) → HoldsRows nodes width codes → (n : ℕ) → n < length nodes → n * width + width ≤ length codes
held_fits nodes width codes h n l = omega (arith, ap length h.rows, rows-length width nodes h.wide, row_fits n (length nodes) width l)

pub held-count : {nodes : List Node} {width : ℕ} {ps codes : List ℕ} → Holds nodes width ps codes → length ps ≡ length nodes
held-count {nodes} h = ap length h.parents ∙ length-map nodes (λ x. x.parent)

pub node-fits : {nodes : List Node} {width : ℕ} {ps codes : List ℕ} → Holds nodes width ps codes → (n : ℕ) → n < length ps → n * width + width ≤ length codes
node-fits {nodes} {width} {ps} {codes} h n l = held_fits nodes width codes h.table n (omega (arith, held-count h))

pub marks-count : (nodes : List Node) (protectors : List ℕ) → protectors ≡ marks nodes → length protectors ≡ length nodes
marks-count nodes protectors e = ap length e ∙ length-map nodes (λ x. protector_number x.protected)

pub marked-fits : {nodes : List Node} {width : ℕ} {protectors codes : List ℕ} → HoldsMarks nodes width protectors codes → (n : ℕ) → n < length protectors → n * width + width ≤ length codes
marked-fits {nodes} {width} {protectors} {codes} h n l = held_fits nodes width codes h.table n (omega (arith, marks-count nodes protectors h.marked))

-- the tables of marks and codes by themselves
pub held-marks : {nodes : List Node} {width : ℕ} {ps protectors codes : List ℕ} → HoldsAll nodes width ps protectors codes → HoldsMarks nodes width protectors codes
held-marks h = record { table = h.holds.table; marked = h.marked }
