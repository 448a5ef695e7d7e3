-- What a deallocation asks and what it leaves, said of each memory that the buffers hold.
use Rattle.std.specs.Prelude.{ℕ, ◌<◌, ◌≡◌, not, List, eqb, length}
use Rattle.std.proofs.Math.Option.{some}
use Rattle.definition.specs.Notation.{◌when◌, ◌or◌}
use Rattle.definition.specs.Refusal.{never_made, dead_allocation, away_from_start, another_kind, another_size, another_alignment}
use Rattle.definition.specs.Permission.AccessKind.{Write}
use Rattle.definition.specs.Tree.{access_visit}
use Rattle.definition.specs.Memory.{Provenance, ThinPointer, Memory, AllocationKind, allocation_at, size, node_count, kind_number, names_never_made, deallocate}
use Rattle.answer.specs.Answer.{answer_of, reply_to}
use Rattle.answer.specs.Answer.Gives.{Nothing}
use Rattle.answer.specs.declared.Answer.{Answer}
use Rattle.tables.specs.Encoding.{state_number, codes_of, held_records, held}
use Rattle.tree.specs.Requests.{deallocate_refusal}
use Rattle.tables.specs.declared.Allocation as lent_record
use Rattle.tables.proofs.Lookup.{record_at}
use Rattle.parts.specs.Trees.{HoldsMarked, TreeVisited}

-- ---- before the tree is visited
-- 8 and 10 to 13, by an allocation's record
unfoldable pub record_refusal : (state kind exponent address bytes : ℕ) → (at of_kind len alignment : ℕ) → ℕ
record_refusal state kind exponent address bytes at of_kind len alignment =
    dead_allocation when not (eqb state 1)
    or away_from_start when not (eqb at address)
    or another_kind when not (eqb of_kind kind)
    or another_size when not (eqb len bytes)
    or another_alignment when not (eqb alignment exponent)

-- 4, 8 and 10 to 13, through a provenance
unfoldable pub refusal_through : Provenance → (at of_kind len alignment : ℕ) → Memory → ℕ
refusal_through t at of_kind len alignment m =
    let a = allocation_at m t.allocation in
    never_made when names_never_made m (some t)
    or record_refusal (state_number a.state) (kind_number a.kind) a.exponent a.address (size a) at of_kind len alignment

-- ---- what it leaves
-- allocation n's record is a, and the parents, the protectors and the codes are those of m
pub record FoundMarked (m : Memory) (n : ℕ) (a : lent_record.Allocation) (P R C : List ℕ) : Type 0 where
  pub records : List ℕ
  pub trees : HoldsMarked m records P R C
  pub read : a ≡ record_at records n

-- the node is in allocation n's tree
pub record NodeIn (m : Memory) (n node : ℕ) : Type 0 where
  pub made : n < length m
  pub in_tree : node < node_count (allocation_at m n)

-- the write to all bytes, and 24
abbrev pub WrittenAll : Memory → ℕ → ℕ → ℕ → List ℕ → Type 0
WrittenAll m n node answer C =
    let a = allocation_at m n in
    TreeVisited m n (deallocate_refusal node (size a) a.nodes) (access_visit Write node 0 (size a)) answer C

pub record Deallocated (p : ThinPointer) (k : AllocationKind) (len exponent : ℕ) (m : Memory) (answer : Answer) (A C : List ℕ) : Type 0 where
  pub reply : answer ≡ reply_to Nothing (deallocate p k len exponent m).0
  pub answers : (words : List ℕ) → answer_of answer words ≡ (deallocate p k len exponent m).0
  pub allocs : A ≡ held_records (deallocate p k len exponent m).1
  pub codes : C ≡ held 32768 codes_of (deallocate p k len exponent m).1
