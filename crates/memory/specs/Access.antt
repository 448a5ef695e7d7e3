-- What a load and a store ask and what they leave, said of each memory that the buffers hold.
use Rattle.std.specs.Prelude.{ℕ, ◌+◌, ◌-◌, ◌≤◌, ◌<◌, ◌≡◌, false, List, [], eqb, length, if◌then◌else◌}
use Rattle.definition.specs.Notation.{◌when◌, ◌or◌}
use Rattle.definition.specs.Refusal.{never_made, misaligned}
use Rattle.definition.specs.Permission.{AccessKind}
use Rattle.definition.specs.Permission.AccessKind.{Read, Write}
use Rattle.definition.specs.Tree.{Visit, access_visit}
use Rattle.definition.specs.Memory.{ThinPointer, Memory, MemoryAccess, allocation_of, allocation_at, target, offset, size, node_count, names_never_made, is_misaligned, check_ptr, access_refusal, perform_access}
use Rattle.answer.specs.Answer.{answer_of, Gives, reply_to}
use Rattle.answer.specs.Answer.Gives.{Nothing, TheWords}
use Rattle.answer.specs.declared.Answer.{Answer}
use Rattle.tables.specs.Encoding.{words_of, codes_of, held}
use Rattle.tables.specs.Held.{start_of}
use Rattle.tables.specs.declared.Allocation as lent_record
use Rattle.tables.proofs.Lookup.{record_at}
use Rattle.parts.specs.Trees.{HoldsTrees}

-- ---- the definition's accesses
abbrev pub access_of : AccessKind → ThinPointer → ℕ → ℕ → List ℕ → MemoryAccess
access_of kind p len exponent bytes = record { kind = kind; pointer = p; len = len; exponent = exponent; bytes = bytes }

abbrev pub load_of : ThinPointer → ℕ → ℕ → MemoryAccess
load_of p len exponent = access_of Read p len exponent []

abbrev pub store_of : ThinPointer → List ℕ → ℕ → MemoryAccess
store_of p bytes exponent = access_of Write p (length bytes) exponent bytes

-- ---- before the tree is visited
-- 4, 6 and 7 to 9
unfoldable pub pointer_refusal : ThinPointer → ℕ → ℕ → Memory → ℕ
pointer_refusal p len exponent m =
    never_made when names_never_made m p.provenance
    or misaligned when is_misaligned p.address exponent
    or check_ptr (target m p) p 0 len

-- 4 and 7 to 9 were passed
pub record Checked (m : Memory) (p : ThinPointer) (len : ℕ) : Type 0 where
  pub made : names_never_made m p.provenance ≡ false
  pub inside : check_ptr (target m p) p 0 len ≡ 0

-- node and bytes are in allocation n
pub record Reached (m : Memory) (n node address len : ℕ) : Type 0 where
  pub made : n < length m
  pub in_tree : node < node_count (allocation_at m n)
  pub above : (allocation_at m n).address ≤ address
  pub within : address + len ≤ (allocation_at m n).address + size (allocation_at m n)

-- its record is a, and the parents and the codes are those of m
pub record Found (m : Memory) (n : ℕ) (a : lent_record.Allocation) (P C : List ℕ) : Type 0 where
  pub records : List ℕ
  pub trees : HoldsTrees m records P C
  pub read : a ≡ record_at records n

-- an access of these bytes of it
abbrev pub visit_at : AccessKind → Memory → ℕ → ℕ → ℕ → ℕ → Visit
visit_at kind m n node address len = access_visit kind node (address - (allocation_at m n).address) len

-- where the bytes at a pointer start in the data; 0 where there are none
unfoldable pub words_start : ThinPointer → ℕ → Memory → ℕ
words_start p len m =
    if eqb len 0 then 0 else start_of words_of m (allocation_of p.provenance) + offset (target m p) p

-- ---- what they leave; `reply` is the code's own answer, and `answers` what it stands for in the definition
-- all but the words
pub record Accessed (x : MemoryAccess) (m : Memory) (answer : ℕ) (C : List ℕ) : Type 0 where
  pub refusal : answer ≡ access_refusal x m
  pub codes : C ≡ held 32768 codes_of (perform_access x m).1

-- what a load gives: the part of the data where the pointer points, of the length asked for
abbrev pub words_given : MemoryAccess → Memory → Gives
words_given x m = TheWords (words_start x.pointer x.len m) x.len

pub record Loaded (x : MemoryAccess) (m : Memory) (answer : Answer) (C : List ℕ) : Type 0 where
  pub reply : answer ≡ reply_to (words_given x m) (perform_access x m).0
  pub answers : answer_of answer (held 4096 words_of m) ≡ (perform_access x m).0
  pub codes : C ≡ held 32768 codes_of (perform_access x m).1

pub record Stored (x : MemoryAccess) (m : Memory) (answer : Answer) (W C : List ℕ) : Type 0 where
  pub reply : answer ≡ reply_to Nothing (perform_access x m).0
  pub answers : (words : List ℕ) → answer_of answer words ≡ (perform_access x m).0
  pub words : W ≡ held 4096 words_of (perform_access x m).1
  pub codes : C ≡ held 32768 codes_of (perform_access x m).1
