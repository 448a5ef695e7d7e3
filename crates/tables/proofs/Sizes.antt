-- How long the parts of a valid memory are: they fit the buffers, and the sums of the definition are the lengths used.
use Prim.Native.Nat.{ℕ, zero, ◌+◌, suc, ◌*◌, ◌≤◌, ◌<◌}
use mathlib.Core.Path.{◌≡◌, refl, sym, ◌∙◌}
use mathlib.Core.Bool.{Bool}
use mathlib.Core.List.{List, [], ◌∷◌, ◌++◌}
use native.Mathlib.Nat.{suc-mul, zero-mul}
use native.Mathlib.Omega.{arith}
use lib.ListN.{length, take, drop, length-append, length-map}
use lib.Seq.{take_at, drop_at, drop-drop}
use Rattle.definition.specs.Notation.{sum_of}
use Rattle.definition.specs.Permission.{code}
use Rattle.definition.specs.Tree.{Node, node_at}
use Rattle.definition.specs.Memory.{Allocation, Memory, size, node_count, code_count, allocation_at}
use Rattle.definition.specs.Valid.{All, AllFrom, ValidNode, ValidAllocation, Valid}
use Rattle.definition.proofs.Alls.{all-imp}
use Rattle.definition.proofs.Places.{valid-at}
use Rattle.tables.specs.Encoding.{parents_of, protectors_of, words_of, row_of, codes_of, concat_map}

-- ---- one allocation
pub length-parents : (a : Allocation) → length (parents_of a) ≡ node_count a
unfolding parents_of
length-parents a = length-map a.nodes _

pub length-protectors : (a : Allocation) → length (protectors_of a) ≡ node_count a
unfolding protectors_of
length-protectors a = length-map a.nodes _

pub length-rows : (bytes : ℕ) (live : Bool) (n : ℕ) (nodes : List Node) → AllFrom n (ValidNode bytes live) nodes
    → length (concat_map row_of nodes) ≡ length nodes * bytes
unfolding concat_map
length-rows bytes live n [] v = sym (zero-mul bytes)
length-rows bytes live n (x ∷ nodes) v =
    length-append (row_of x) (concat_map row_of nodes)
    ∙ omega (arith, length-map x.permissions code, v.0.wide, length-rows bytes live (suc n) nodes v.1, suc-mul (length nodes) bytes)

-- a node's row among them
pub row-part : (bytes : ℕ) (live : Bool) (n : ℕ) (nodes : List Node) (j : ℕ) → AllFrom n (ValidNode bytes live) nodes → j < length nodes
    → take bytes (drop (j * bytes) (concat_map row_of nodes)) ≡ row_of (node_at nodes j)
unfolding concat_map
row-part bytes live n [] j v h = absurd (omega arith)
row-part bytes live n (x ∷ nodes) zero v h =
    rw (zero-mul bytes) (take_at (row_of x) (concat_map row_of nodes) bytes (length-map x.permissions code ∙ v.0.wide))
row-part bytes live n (x ∷ nodes) (suc j) v h =
    let e : suc j * bytes ≡ bytes + j * bytes = suc-mul j bytes ∙ omega arith in
    rw (e, ← drop-drop (j * bytes) bytes (row_of x ++ concat_map row_of nodes), drop_at (row_of x) (concat_map row_of nodes) bytes (length-map x.permissions code ∙ v.0.wide))
    (row-part bytes live (suc n) nodes j v.1 (omega arith))

pub length-codes : (a : Allocation) → ValidAllocation a → length (codes_of a) ≡ code_count a
unfolding codes_of
length-codes a v = length-rows (size a) _ 0 a.nodes v.nodes

-- ---- all of them
length-concat : (f : Allocation → List ℕ) (s : Allocation → ℕ) (m : Memory) → All (λ a. length (f a) ≡ s a) m → length (concat_map f m) ≡ sum_of s m
unfolding concat_map sum_of
length-concat f s [] h = refl
length-concat f s (a ∷ m) h = length-append (f a) (concat_map f m) ∙ omega (arith, h.0, length-concat f s m h.1)

every : (Q : Allocation → Type 0) → ((a : Allocation) → Q a) → (m : Memory) → All Q m
every Q h [] = tt
every Q h (a ∷ m) = (h a, every Q h m)

pub words-used : (m : Memory) → length (concat_map words_of m) ≡ sum_of size m
words-used m = length-concat words_of size m (every (λ a. length (words_of a) ≡ size a) (λ a. refl) m)

pub parents-used : (m : Memory) → length (concat_map parents_of m) ≡ sum_of node_count m
parents-used m = length-concat parents_of node_count m (every (λ a. length (parents_of a) ≡ node_count a) length-parents m)

pub protectors-used : (m : Memory) → length (concat_map protectors_of m) ≡ sum_of node_count m
protectors-used m = length-concat protectors_of node_count m (every (λ a. length (protectors_of a) ≡ node_count a) length-protectors m)

pub codes-used : (m : Memory) → All ValidAllocation m → length (concat_map codes_of m) ≡ sum_of code_count m
codes-used m v = length-concat codes_of code_count m (all-imp ValidAllocation (λ a. length (codes_of a) ≡ code_count a) length-codes m v)

-- ---- a valid memory fits the buffers
module _ (m : Memory) (v : Valid m) where
  pub words-fit : length (concat_map words_of m) ≤ 4096
  words-fit = omega (arith, words-used m, v.bounded.words)

  pub parents-fit : length (concat_map parents_of m) ≤ 1024
  parents-fit = omega (arith, parents-used m, v.bounded.nodes)

  pub protectors-fit : length (concat_map protectors_of m) ≤ 1024
  protectors-fit = omega (arith, protectors-used m, v.bounded.nodes)

  pub codes-fit : length (concat_map codes_of m) ≤ 32768
  codes-fit = omega (arith, codes-used m v.each, v.bounded.codes)

  pub codes_at : (a : ℕ) → a < length m → length (codes_of (allocation_at m a)) ≡ code_count (allocation_at m a)
  codes_at a h = length-codes (allocation_at m a) (valid-at m a v h)
