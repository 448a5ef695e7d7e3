-- What `allocate` asks, and what it leaves in its two buffers. The other three stay as they are: what is new there is zeros.
use Rattle.std.specs.Prelude.{ℕ, ◌≤◌, ◌≡◌, List}
use Rattle.definition.specs.Memory.{Memory, AllocationKind, kind_number}
use Rattle.definition.specs.Memory as definition
use Rattle.answer.specs.Answer.{answer_of, reply_to}
use Rattle.answer.specs.Answer.Gives.{ThePointer}
use Rattle.answer.specs.declared.Answer.{Answer}
use Rattle.tables.specs.Encoding.{codes_of, held_records, held}
use Rattle.tables.specs.Held.{Records}

-- records and codes are those of m, and 2 was passed
pub record CanAllocate (m : Memory) (k : AllocationKind) (A C : List ℕ) (kind exponent : ℕ) : Type 0 where
  pub records : Records m A
  pub codes : C ≡ held 32768 codes_of m
  pub is_kind : kind ≡ kind_number k
  pub is_exponent : exponent ≤ 29

-- the answer, what it stands for in the definition, and the two buffers of the memory afterwards
pub record Allocated (outcome : definition.Answer × Memory) (r : Answer) (A C : List ℕ) : Type 0 where
  pub reply : r ≡ reply_to ThePointer outcome.0
  pub answer : (words : List ℕ) → answer_of r words ≡ outcome.0
  pub allocs : A ≡ held_records outcome.1
  pub codes : C ≡ held 32768 codes_of outcome.1
