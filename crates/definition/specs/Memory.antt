-- The memory, and the requests that need no frame. mem.rs: `ThinPointer`, `Allocation`, `BasicMemory`, `TreeBorrowsMemory`;
-- document 01: "Allocation and bounds", refusals 4 to 13, 15, 24, 25.
use Rattle.std.specs.Prelude.{ℕ, zero, suc, ◌+◌, ◌-◌, ◌*◌, ◌%◌, ◌^◌, Bool, true, false, not, ◌&&◌, ◌||◌, List, [], ◌∷◌, ◌++◌, eqb, leb, ltb, length, get_or, take, drop, replicate, if◌then◌else◌}
use Rattle.std.proofs.Math.Option.{Option, none, some}
use Rattle.definition.specs.Notation.{◌when◌, ◌or◌, mutate_at, write_at, any, sum_of}
use Rattle.definition.specs.Refusal.{never_made, fails_pick, misaligned, missing_provenance, dead_allocation, out_of_bounds, away_from_start, another_kind, another_size, another_alignment, size_exceeded, strong_protector, memory_leak}
use Rattle.definition.specs.Width.{Width, addresses}
use Rattle.definition.specs.Permission.{AccessKind, prevents_deallocation, is_strong}
use Rattle.definition.specs.Permission.AccessKind.{Read, Write}
use Rattle.definition.specs.Permission.Permission.{Unprot}
use Rattle.definition.specs.Permission.PermissionUnprot.{Unique}
use Rattle.definition.specs.Permission.Protected.{No}
use Rattle.definition.specs.Tree.{Node, Visit, access_visit, visit_refusal, visited}

-- ---- pointers
-- `Provenance`, which is also a frame's entry: "entries of allocation and node"
pub record Provenance : Type 0 where
  pub allocation : ℕ
  pub node : ℕ

pub record ThinPointer : Type 0 where
  pub address : ℕ
  pub provenance : Option Provenance

-- `wrapping_offset`, by so many bytes back or ahead: "A pointer offset, in the library a signed 64-bit number, does wrap at 2^64."; M-110: at the width,
-- of which 2^64 is a multiple
unfoldable pub wrapping_offset : Width → ThinPointer → ℕ → ℕ → ThinPointer
wrapping_offset w p back ahead =
    record { address = (p.address + ahead + (2 ^ 64 - back)) % addresses w; provenance = p.provenance }

abbrev pub has_none : Option Provenance → Bool
has_none none = true
has_none (some t) = false

-- the numbers that a provenance names; read only where there is one
abbrev pub allocation_of : Option Provenance → ℕ
allocation_of none = 0
allocation_of (some t) = t.allocation

abbrev pub node_of : Option Provenance → ℕ
node_of none = 0
node_of (some t) = t.node

-- ---- allocations
pub data Liveness : Type 0 where
  Live Dead : Liveness

abbrev pub is_live : Liveness → Bool
is_live Live = true
is_live Dead = false

-- "0 Stack, 1 Heap, 2 Global, 3 Function, 4 VTable"
pub data AllocationKind : Type 0 where
  Stack Heap Global Function VTable : AllocationKind

abbrev pub allocation_kinds : List AllocationKind
allocation_kinds = Stack ∷ Heap ∷ Global ∷ Function ∷ VTable ∷ []

-- a kind's place in that list
abbrev pub kind_number : AllocationKind → ℕ
kind_number Stack = 0
kind_number Heap = 1
kind_number Global = 2
kind_number Function = 3
kind_number VTable = 4

-- the alignment is 2 ^ exponent; a word for each byte, which is stored unread (decision 52)
pub record Allocation : Type 0 where
  pub state : Liveness
  pub kind : AllocationKind
  pub exponent : ℕ
  pub address : ℕ
  pub words : List ℕ
  pub nodes : List Node

abbrev pub size : Allocation → ℕ
size a = length a.words

-- an allocation with another state, other words and other nodes
abbrev pub changed : Allocation → Liveness → List ℕ → List Node → Allocation
changed a state words nodes =
    record { state = state; kind = a.kind; exponent = a.exponent; address = a.address; words = words; nodes = nodes }

-- allocations by their number, in the order of making, the dead among them
abbrev pub Memory : Type 0
Memory = List Allocation

-- stands where no allocation is
abbrev pub no_allocation : Allocation
no_allocation = record { state = Dead; kind = Stack; exponent = 0; address = 0; words = []; nodes = [] }

abbrev pub allocation_at : Memory → ℕ → Allocation
allocation_at m n = get_or m n no_allocation

-- the allocation that a pointer points into; read only where it has provenance
abbrev pub target : Memory → ThinPointer → Allocation
target m p = allocation_at m (allocation_of p.provenance)

-- how far a pointer lies behind an allocation's start
abbrev pub offset : Allocation → ThinPointer → ℕ
offset a p = p.address - a.address

-- ---- answers
-- what an answer names: the pointer that it gives, if that has provenance (its address is the request's own), or the allocation that leaks
pub data Named : Type 0 where
  Pointer : Option Provenance → Named
  Leak : ℕ → Named

-- no pointer is given, or one without provenance
abbrev pub nothing : Named
nothing = Pointer none

-- the provenance of the pointer that is given
abbrev pub named_pointer : Named → Option Provenance
named_pointer (Pointer p) = p
named_pointer (Leak n) = none

-- "An answer is the refusal or 0, the pointer and the loaded words"; and the leak, as "Demand 3 compares it too" (document 02, M-104; decisions 39 and 104)
pub record Answer : Type 0 where
  pub refusal : ℕ
  pub names : Named
  pub words : List ℕ

-- with 0, which is no refusal, it is `accepted`
abbrev pub refused_with : ℕ → Answer
refused_with n = record { refusal = n; names = nothing; words = [] }

-- accepted, with nothing to give, with a pointer, with words
abbrev pub accepted : Answer
accepted = record { refusal = 0; names = nothing; words = [] }

abbrev pub gives_pointer : Option Provenance → Answer
gives_pointer p = record { refusal = 0; names = Pointer p; words = [] }

abbrev pub gives_words : List ℕ → Answer
gives_words ws = record { refusal = 0; names = nothing; words = ws }

-- the outcome of a request, unless it is refused: "the request then changes nothing"
abbrev pub unless_refused {ℓ} : {S : Type ℓ} → ℕ → S → Answer × S → Answer × S
unless_refused zero before outcome = outcome
unless_refused (suc n) before outcome = (refused_with (suc n), before)

-- ---- 4
abbrev pub was_made : Memory → Provenance → Bool
was_made m t = ltb t.allocation (length m) && ltb t.node (length (allocation_at m t.allocation).nodes)

abbrev pub names_never_made : Memory → Option Provenance → Bool
names_never_made m none = false
names_never_made m (some t) = not (was_made m t)

-- ---- 7, 8, 9: `check_ptr`, for `back` bytes below the pointer and `ahead` bytes from it on, of which one is 0
abbrev pub is_outside : Allocation → ThinPointer → ℕ → ℕ → Bool
is_outside a p back ahead = not (leb (a.address + back) p.address && leb (p.address + ahead) (a.address + size a))

-- "A zero length passes the bounds test with no provenance, dead or alive."
unfoldable pub check_ptr : Allocation → ThinPointer → ℕ → ℕ → ℕ
check_ptr a p back ahead =
    if eqb (back + ahead) 0 then 0
    else missing_provenance when has_none p.provenance
    or dead_allocation when not (is_live a.state)
    or out_of_bounds when is_outside a p back ahead

-- ---- load and store: one access each, a read or a write through the pointer's node (the paper).
-- A load has no bytes to store; a store's length is that of its bytes
pub record MemoryAccess : Type 0 where
  pub kind : AccessKind
  pub pointer : ThinPointer
  pub len : ℕ
  pub exponent : ℕ
  pub bytes : List ℕ

-- its visit of an allocation
abbrev pub visit_of : MemoryAccess → Allocation → Visit
visit_of x a = access_visit x.kind (node_of x.pointer.provenance) (offset a x.pointer) x.len

abbrev pub is_misaligned : ℕ → ℕ → Bool
is_misaligned address exponent = not (eqb (address % 2 ^ exponent) 0)

-- 6 to 9, and then 17 to 23 and 26 to 28, at its allocation
unfoldable pub access_refusal_in : MemoryAccess → Allocation → ℕ
access_refusal_in x a =
    misaligned when is_misaligned x.pointer.address x.exponent
    or check_ptr a x.pointer 0 x.len
    or (if eqb x.len 0 then 0 else visit_refusal (visit_of x a) a.nodes)

unfoldable pub access_refusal : MemoryAccess → Memory → ℕ
access_refusal x m = never_made when names_never_made m x.pointer.provenance or access_refusal_in x (target m x.pointer)

-- its allocation afterwards: the permissions as the visit leaves them, and a store's bytes in their place
unfoldable pub after_access_in : MemoryAccess → Allocation → Allocation
after_access_in x a =
    changed a a.state
    (write_at (offset a x.pointer) x.bytes a.words)
    (visited (visit_of x a) a.nodes)

-- the memory afterwards; at length zero nothing is touched
unfoldable pub after_access : MemoryAccess → Memory → Memory
after_access x m =
    if eqb x.len 0 then m else mutate_at (allocation_of x.pointer.provenance) (after_access_in x) m

-- "the loaded words"; a store has none
unfoldable pub loaded_words : MemoryAccess → Allocation → List ℕ
loaded_words x a = elim x.kind [ Read ↦ take x.len (drop (offset a x.pointer) a.words) | Write ↦ [] ]

unfoldable pub accept_access : MemoryAccess → Memory → Answer × Memory
accept_access x m = (gives_words (loaded_words x (target m x.pointer)), after_access x m)

unfoldable pub perform_access : MemoryAccess → Memory → Answer × Memory
perform_access x m = unless_refused (access_refusal x m) m (accept_access x m)

-- ---- allocate, at a proposed address
-- `overlaps`: "Touching ranges don't overlap unless they start equal, even at size 0."
abbrev pub ranges_overlap : ℕ → ℕ → ℕ → ℕ → Bool
ranges_overlap address len address' len' =
    if leb (address + len) address' || leb (address' + len') address then eqb address address' else true

abbrev pub overlaps : ℕ → ℕ → Allocation → Bool
overlaps address len a = is_live a.state && ranges_overlap a.address (size a) address len

-- what `pick` accepts: "above 0, a multiple of the alignment, address + size at most 2^64 − 1, no live allocation overlapping"; M-110: "Address plus size is
-- at most 2 to the width, less 1."
unfoldable pub is_pickable : Width → Memory → ℕ → ℕ → ℕ → Bool
is_pickable w m len exponent address =
    not (eqb address 0)
    && not (is_misaligned address exponent)
    && leb (address + len) (addresses w - 1)
    && not (any (overlaps address len) m)

-- "128 allocations; 4,096 words; 1,024 nodes; 32,768 codes"
pub record Sizes : Type 0 where
  pub allocations : ℕ
  pub words : ℕ
  pub nodes : ℕ
  pub codes : ℕ

abbrev pub bounds : Sizes
bounds = record { allocations = 128; words = 4096; nodes = 1024; codes = 32768 }

abbrev pub node_count : Allocation → ℕ
node_count a = length a.nodes

abbrev pub code_count : Allocation → ℕ
code_count a = node_count a * size a

-- 15: the memory with so much more would exceed a bound. "The Rust's first test, for a too large allocation, has its place here.": a size that it turns
-- down, from 2^63 on, exceeds the words
unfoldable pub exceeds_bounds : Memory → Sizes → Bool
exceeds_bounds m more =
    ltb bounds.allocations (length m + more.allocations)
    || ltb bounds.words (sum_of size m + more.words)
    || ltb bounds.nodes (sum_of node_count m + more.nodes)
    || ltb bounds.codes (sum_of code_count m + more.codes)

-- what an allocation of so many bytes adds: a root with a code for each byte
abbrev pub of_allocation : ℕ → Sizes
of_allocation len = record { allocations = 1; words = len; nodes = 1; codes = len }

-- the root is Unique (the paper: whoever made the allocation has it for itself), the bytes are uninitialised
unfoldable pub new_allocation : AllocationKind → ℕ → ℕ → ℕ → Allocation
new_allocation kind len exponent address =
    record {
      state = Live;
      kind = kind;
      exponent = exponent;
      address = address;
      words = replicate len 0;
      nodes = record { parent = 0; protected = No; permissions = replicate len (Unprot Unique) } ∷ [];
    }

unfoldable pub allocate_refusal : Width → Memory → ℕ → ℕ → ℕ → ℕ
allocate_refusal w m len exponent address =
    fails_pick when not (is_pickable w m len exponent address) or size_exceeded when exceeds_bounds m (of_allocation len)

unfoldable pub accept_allocate : AllocationKind → ℕ → ℕ → ℕ → Memory → Answer × Memory
accept_allocate kind len exponent address m = (
  gives_pointer (some (record { allocation = length m; node = 0 })),
  m ++ (new_allocation kind len exponent address ∷ []),
)

unfoldable pub allocate : Width → AllocationKind → ℕ → ℕ → ℕ → Memory → Answer × Memory
allocate w kind len exponent address m =
    unless_refused (allocate_refusal w m len exponent address) m (accept_allocate kind len exponent address m)

-- ---- deallocate: a write to all bytes, then 24 on the permissions as written (decision 31). The paper: a deallocation is a write of the whole allocation,
-- and undefined behaviour under a protector. "Deallocation under a strong protector that prevents it.": one that protects a byte which was accessed, the
-- write itself included, so that a node on the pointer's path prevents it too; a weak one never does
-- `contains_strong_protector_preventing_deallocation`, at one node
abbrev pub node_prevents_deallocation : Node → Bool
node_prevents_deallocation x = is_strong x.protected && any prevents_deallocation x.permissions

-- the write to all bytes
abbrev pub write_all : ThinPointer → Allocation → Visit
write_all p a = access_visit Write (node_of p.provenance) 0 (size a)

unfoldable pub deallocate_refusal : Memory → ThinPointer → AllocationKind → ℕ → ℕ → ℕ
deallocate_refusal m p kind len exponent =
    let a = target m p in
    never_made when names_never_made m p.provenance
    or missing_provenance when has_none p.provenance
    or dead_allocation when not (is_live a.state)
    or away_from_start when not (eqb p.address a.address)
    or another_kind when not (eqb (kind_number kind) (kind_number a.kind))
    or another_size when not (eqb len (size a))
    or another_alignment when not (eqb exponent a.exponent)
    or visit_refusal (write_all p a) a.nodes
    or strong_protector when any node_prevents_deallocation (visited (write_all p a) a.nodes)

unfoldable pub after_deallocate_in : ThinPointer → Allocation → Allocation
after_deallocate_in p a = changed a Dead a.words (visited (write_all p a) a.nodes)

unfoldable pub accept_deallocate : ThinPointer → Memory → Answer × Memory
accept_deallocate p m = (accepted, mutate_at (allocation_of p.provenance) (after_deallocate_in p) m)

unfoldable pub deallocate : ThinPointer → AllocationKind → ℕ → ℕ → Memory → Answer × Memory
deallocate p kind len exponent m =
    unless_refused (deallocate_refusal m p kind len exponent) m (accept_deallocate p m)

-- ---- `dereferenceable` and `signed_dereferenceable`, which stands above it: a length is so many bytes back or ahead. They change nothing.
-- "A negative signed length reaches back from the pointer; no address wraps there."
unfoldable pub dereferenceable : ThinPointer → ℕ → ℕ → Memory → Answer × Memory
dereferenceable p back ahead m = (
  refused_with (never_made when names_never_made m p.provenance or check_ptr (target m p) p back ahead),
  m,
)

-- ---- leak check
abbrev pub is_live_heap : Allocation → Bool
is_live_heap a = is_live a.state && eqb (kind_number a.kind) (kind_number Heap)

-- the first live heap allocation of those from number n on: "it must be the one with the lowest number"
unfoldable pub first_leak : ℕ → Memory → Option ℕ
first_leak n [] = none
first_leak n (a ∷ m) = if is_live_heap a then some n else first_leak (suc n) m

-- "a heap allocation is live; the answer names one such"
abbrev pub leak_answer : Option ℕ → Answer
leak_answer none = accepted
leak_answer (some n) = record { refusal = memory_leak; names = Leak n; words = [] }

unfoldable pub leak_check : Memory → Answer × Memory
leak_check m = (leak_answer (first_leak 0 m), m)
