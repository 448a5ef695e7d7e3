-- How long the lines of a memory are at most.
use Prim.Native.Nat.{ℕ, zero, suc, ◌+◌, ◌*◌, ◌^◌, ◌≤◌, ◌<◌}
use mathlib.Core.Bool.{Bool}
use mathlib.Core.List.{List, [], ◌∷◌, ◌++◌}
use mathlib.Core.Path.{◌≡◌}
use native.Mathlib.Nat.{suc-mul}
use native.Mathlib.Omega.{arith}
use lib.ListN.{length, length-append, length-map}
use Rattle.definition.specs.Memory.AllocationKind.{Stack, Heap, Global, Function, VTable}
use Rattle.definition.specs.Memory.Liveness.{Live, Dead}
use Rattle.definition.specs.Memory.{Liveness, AllocationKind, Allocation, Memory, is_live, size, node_count, code_count}
use Rattle.definition.specs.Notation.{sum_of}
use Rattle.definition.specs.Output.{Text, digit, decimal, words, ended, liveness_name, kind_name, parent_name, protector_name, codes, allocation_line, data_line, node_line, node_lines, allocation_lines, memory_lines}
use Rattle.definition.specs.Permission.Protected.{No, Weak, Strong}
use Rattle.definition.specs.Permission.{Permission, Protected, code}
use Rattle.definition.specs.Tree.{Node}
use Rattle.definition.specs.Valid.{All, AllFrom, Placed, ValidNode, ValidAllocation, Valid}
use Rattle.report.proofs.Lines.{field-length, end-length, words-length}
use Rattle.report.proofs.Numbers.{decimal-length}

-- ---- fields
liveness-length : (s : Liveness) → length (liveness_name s) ≤ 4
unfolding liveness_name
liveness-length Live = omega arith
liveness-length Dead = omega arith

kind-length : (k : AllocationKind) → length (kind_name k) ≤ 8
unfolding kind_name
kind-length Stack = omega arith
kind-length Heap = omega arith
kind-length Global = omega arith
kind-length Function = omega arith
kind-length VTable = omega arith

protector-length : (p : Protected) → length (protector_name p) ≤ 6
unfolding protector_name
protector-length No = omega arith
protector-length Weak = omega arith
protector-length Strong = omega arith

parent-length : (k parent : ℕ) → parent < 2 ^ 64 → length (parent_name k parent) ≤ 20
unfolding parent_name
parent-length zero parent h = omega arith
parent-length (suc k) parent h = decimal-length parent h

codes-length : (row : List Permission) → length (codes row) ≤ 1 + length row
unfolding codes
codes-length [] = omega arith
codes-length (p ∷ row) = omega (arith, length-map (p ∷ row) (λ q. digit (code q)))

-- ---- lines
fields-length : (fs : List Text) → length (ended fs) ≡ sum_of (λ f. 1 + length f) fs + 1
unfolding sum_of
fields-length [] = end-length
fields-length (f ∷ fs) = omega (arith, field-length f fs, fields-length fs)

allocation-length : (n : ℕ) (a : Allocation) → n < 2 ^ 64 → ValidAllocation a → length (allocation_line n a) ≤ 100
unfolding allocation_line sum_of
allocation-length n a h v =
    omega (
      arith,
      fields-length
          (decimal n ∷ liveness_name a.state ∷ kind_name a.kind ∷ decimal a.address ∷ decimal (size a) ∷ decimal a.exponent ∷ []),
      decimal-length n h,
      liveness-length a.state,
      kind-length a.kind,
      decimal-length a.address (omega (arith, v.in_space)),
      decimal-length (size a) (omega (arith, v.in_space)),
      decimal-length a.exponent (omega (arith, v.exponent)),
    )

data-length : (n : ℕ) (a : Allocation) → n < 2 ^ 64 → length (data_line n a) ≤ 25 + 9 * size a
unfolding data_line
data-length n a h = omega (arith, field-length (decimal n) (words a.words), decimal-length n h, words-length a.words)

parent-small : (k : ℕ) (x : Node) → k < 2 ^ 64 → Placed k x → x.parent < 2 ^ 64
parent-small zero x h p = omega (arith, p.0)
parent-small (suc k) x h p = omega (arith, p)

node-length : (n k : ℕ) (x : Node) → n < 2 ^ 64 → k < 2 ^ 64 → Placed k x → length (node_line n k x) ≤ 74 + length x.permissions
unfolding node_line sum_of
node-length n k x h l p =
    omega (
      arith,
      fields-length (decimal n ∷ decimal k ∷ parent_name k x.parent ∷ protector_name x.protected ∷ codes x.permissions ∷ []),
      decimal-length n h,
      decimal-length k l,
      parent-length k x.parent (parent-small k x l p),
      protector-length x.protected,
      codes-length x.permissions,
    )

nodes-length : (n k bytes : ℕ) (live : Bool) (nodes : List Node) → n < 2 ^ 64 → k + length nodes < 2 ^ 64 → AllFrom k (ValidNode bytes live) nodes
    → length (node_lines n k nodes) ≤ 74 * length nodes + length nodes * bytes
unfolding node_lines
nodes-length n k bytes live [] h l v = omega arith
nodes-length n k bytes live (x ∷ nodes) h l v =
    omega (
      arith,
      length-append (node_line n k x) (node_lines n (suc k) nodes),
      node-length n k x h (omega arith) v.0.placed,
      v.0.wide,
      nodes-length n (suc k) bytes live nodes h (omega arith) v.1,
      suc-mul (length nodes) bytes,
    )

lines-length : (n : ℕ) (a : Allocation) → n < 2 ^ 64 → node_count a < 2 ^ 64 → ValidAllocation a
    → length (allocation_lines n a) ≤ 125 + 9 * size a + 74 * node_count a + code_count a
unfolding allocation_lines
lines-length n a h l v =
    omega (
      arith,
      length-append (allocation_line n a) (data_line n a ++ node_lines n 0 a.nodes),
      length-append (data_line n a) (node_lines n 0 a.nodes),
      allocation-length n a h v,
      data-length n a h,
      nodes-length n 0 (size a) (is_live a.state) a.nodes h (omega arith) v.nodes,
    )

all-length : (n : ℕ) (m : Memory) → n + length m < 2 ^ 64 → sum_of node_count m < 2 ^ 64 → All ValidAllocation m
    → length (memory_lines n m) ≤ 125 * length m + 9 * sum_of size m + 74 * sum_of node_count m + sum_of code_count m
unfolding memory_lines sum_of
all-length n [] h l v = omega arith
all-length n (a ∷ m) h l v =
    omega (
      arith,
      length-append (allocation_lines n a) (memory_lines (suc n) m),
      lines-length n a (omega arith) (omega arith) v.0,
      all-length (suc n) m (omega arith) (omega arith) v.1,
    )

pub memory-length : (m : Memory) → Valid m → length (memory_lines 0 m) ≤ 0x28000
memory-length m v =
    let b = v.bounded in
    omega (
      arith,
      all-length 0 m (omega (arith, b.allocations)) (omega (arith, b.nodes)) v.each,
      b.allocations,
      b.words,
      b.nodes,
      b.codes,
    )
