-- The memory that five buffers hold: `encode` read back. Only well-formed buffers are read.
use Rattle.std.specs.Prelude.{ℕ, zero, suc, ◌*◌, List, [], ◌∷◌, map, eqb, get_or, take, drop, if◌then◌else◌}
use Rattle.definition.specs.Permission.{Protected, permission}
use Rattle.definition.specs.Permission.Protected.{No, Weak, Strong}
use Rattle.definition.specs.Tree.{Node}
use Rattle.definition.specs.Memory.{Liveness, AllocationKind, Allocation, Memory, allocation_kinds}
use Rattle.definition.specs.Memory.Liveness.{Live, Dead}
use Rattle.definition.specs.Memory.AllocationKind.{Stack}
use Rattle.tables.specs.Encoding.{Buffers}

-- ---- numbers
abbrev pub liveness : ℕ → Liveness
liveness n = if eqb n 1 then Live else Dead

abbrev pub allocation_kind : ℕ → AllocationKind
allocation_kind n = get_or allocation_kinds n Stack

abbrev pub protector : ℕ → Protected
protector n = get_or (No ∷ Weak ∷ Strong ∷ []) n No

-- ---- what stands at the front of the lists
-- a node with `bytes` permissions
abbrev pub node_in : ℕ → List ℕ → List ℕ → List ℕ → Node
node_in bytes P R C =
    record { parent = get_or P 0 0; protected = protector (get_or R 0 0); permissions = map permission (take bytes C) }

-- so many nodes
unfoldable pub nodes_in : ℕ → ℕ → List ℕ → List ℕ → List ℕ → List Node
nodes_in zero bytes P R C = []
nodes_in (suc n) bytes P R C = node_in bytes P R C ∷ nodes_in n bytes (drop 1 P) (drop 1 R) (drop bytes C)

-- an allocation
abbrev pub allocation_in : List ℕ → List ℕ → List ℕ → List ℕ → List ℕ → Allocation
allocation_in A P R W C =
    record {
      state = liveness (get_or A 0 0);
      kind = allocation_kind (get_or A 1 0);
      exponent = get_or A 2 0;
      address = get_or A 3 0;
      words = take (get_or A 4 0) W;
      nodes = nodes_in (get_or A 5 0) (get_or A 4 0) P R C;
    }

-- so many allocations
unfoldable pub allocations_in : ℕ → List ℕ → List ℕ → List ℕ → List ℕ → List ℕ → Memory
allocations_in zero A P R W C = []
allocations_in (suc k) A P R W C =
    let bytes = get_or A 4 0 in
    let count = get_or A 5 0 in
    allocation_in A P R W C
    ∷ allocations_in k (drop 9 A) (drop count P) (drop count R) (drop bytes W) (drop (count * bytes) C)

-- how many of at most k records were made: those before the first whose state is 0
unfoldable pub made_in : ℕ → List ℕ → ℕ
made_in zero A = 0
made_in (suc k) A = let rest = made_in k (drop 9 A) in if eqb (get_or A 0 0) 0 then 0 else suc rest

-- the memory
unfoldable pub view : Buffers → Memory
view b = allocations_in (made_in 128 b.allocs) b.allocs b.parents b.protectors b.words b.codes
