-- Worked runs, by computation: every refusal from 2 to 28, and the slips that document 01 shuts out.
use Prim.Native.Nat.{ℕ, zero, suc, ◌+◌, ◌*◌, ◌^◌}
use mathlib.Core.Path.{◌≡◌, refl}
use mathlib.Core.Bool.{true, false}
use mathlib.Core.Option.{none, some}
use mathlib.Core.List.{List, [], ◌∷◌, ◌++◌, map}
use lib.ListN.{length, replicate, get_or, drop}
use Rattle.definition.specs.Notation.{first_refusal, table_from, map_from, mutate_at, write_at, filter, any, sum_of}
use Rattle.definition.specs.Width.Width.{Bits16, Bits32, Bits64}
use Rattle.definition.specs.Permission.{Protected, code, permission, refusal, next}
use Rattle.definition.specs.Tree.{Node, is_above_within, relation, descendants, preorder, visiting_order, row_refusal, node_refusal, visit_refusal, node_after, visited}
use Rattle.definition.specs.Layout.{cells_fit, is_freeze, nested_mask, freeze_mask}
use Rattle.definition.specs.Memory.{Memory, Named, nothing, refused_with, changed, new_allocation, wrapping_offset, check_ptr, access_refusal_in, access_refusal, after_access_in, after_access, loaded_words, accept_access, perform_access, is_pickable, exceeds_bounds, allocate_refusal, accept_allocate, allocate, deallocate_refusal, after_deallocate_in, accept_deallocate, deallocate, dereferenceable, first_leak, leak_check}
use Rattle.definition.specs.Frame.{empty, frame_at, entries, new_call, release_refusal_in, release_refusal, after_release_in, after_release, release_all_refusal, after_release_all, end_call_refusal, accept_end_call, end_call}
use Rattle.definition.specs.Retag.{child_node, with_child, init_refusal, after_init, reborrow_refusal, after_reborrow_in, accept_reborrow, reborrow, retag_without_node, retag}
use Rattle.definition.specs.Request.{request, following_length, is_miscounted, bad_byte, bad_settings, bad_metadata, bad_retag, is_malformed, is_too_far, is_too_big}
use Rattle.definition.specs.Run.{retag_with_mask, perform_retag, perform, step, start, width_after, turn, answers, final, words_of, cut_requests, requests_of, performed_count, program}
use Rattle.definition.specs.Output.{ascii, digit, decimal_within, decimal, ended, given, answer_line, answer_lines}
use Rattle.definition.specs.Permission.Protected.{No, Weak, Strong}
use Rattle.definition.specs.Memory.Liveness.{Live}
use Rattle.definition.specs.Memory.AllocationKind.{Stack}
use Rattle.definition.specs.Memory.Named.{Pointer, Leak}
use Rattle.definition.proofs.Stars.{bytes_of_words, bytes_of}

-- ---- requests, by their words
abbrev first_word : ℕ → ℕ → ℕ → ℕ → ℕ → ℕ → ℕ
first_word kind allocation node has_provenance exponent extra =
    kind * 2 ^ 28 + allocation * 2 ^ 21 + node * 2 ^ 9 + has_provenance * 2 ^ 8 + exponent * 2 ^ 3 + extra

-- below 2^32: through node n of allocation a, at an address, with the length or fourth word
abbrev through : ℕ → ℕ → ℕ → ℕ → ℕ → ℕ → ℕ → List ℕ → List ℕ
through kind a n exponent extra address fourth more = first_word kind a n 1 exponent extra ∷ 0 ∷ address ∷ fourth ∷ more

abbrev allocate_at : ℕ → ℕ → ℕ → List ℕ
allocate_at kind address len = first_word 0 0 0 0 0 kind ∷ 0 ∷ address ∷ len ∷ []

abbrev free_heap : ℕ → ℕ → ℕ → ℕ → List ℕ
free_heap a n address len = through 1 a n 0 1 address len []

abbrev load : ℕ → ℕ → ℕ → ℕ → List ℕ
load a n address len = through 2 a n 0 0 address len []

abbrev store : ℕ → ℕ → ℕ → List ℕ → List ℕ
store a n address bytes = through 3 a n 0 0 address (length bytes) bytes

-- an initialised byte
abbrev byte : ℕ → ℕ
byte value = 0x80000000 + value

-- a retag; 0 shared, 1 mutable, 2 box, with unpin and freeze
abbrev borrow : ℕ → ℕ → ℕ → ℕ → List ℕ → List ℕ
borrow pointer a n address layout = through 4 a n 0 pointer address (0x60000000 + length layout) layout

-- the same at function entry, in frame f
abbrev argument : ℕ → ℕ → ℕ → ℕ → ℕ → List ℕ → List ℕ
argument f pointer a n address layout = through 4 a n 0 pointer address (0xe0000000 + f * 2 ^ 23 + length layout) layout

abbrev call : ℕ → List ℕ
call f = first_word 5 0 0 0 0 0 ∷ 0 ∷ 0 ∷ f ∷ []

abbrev return : ℕ → List ℕ
return f = first_word 6 0 0 0 0 0 ∷ 0 ∷ 0 ∷ f ∷ []

abbrev leak_check_now : List ℕ
leak_check_now = first_word 9 0 0 0 0 0 ∷ 0 ∷ 0 ∷ 0 ∷ []

-- layouts: sized; sized with a cell at its first byte
abbrev sized : ℕ → List ℕ
sized len = 0 ∷ len ∷ []

abbrev cell_first : ℕ → List ℕ
cell_first len = 0 ∷ (0x400000 + len) ∷ 0x00000001 ∷ []

-- extra 0, 1, 2 for 16, 32, 64 bits
abbrev empty_to : ℕ → List ℕ
empty_to extra = first_word 15 0 0 0 0 extra ∷ 0 ∷ 0 ∷ 0 ∷ []

-- a byte of a pointer: its fragment at a position
abbrev fragment : ℕ → ℕ
fragment position = 0xc0000000 + position * 2 ^ 27

-- ---- what a list of requests comes to
abbrev refusals : List (List ℕ) → List ℕ
refusals wss = map (λ x. x.refusal) (answers start wss)

abbrev names : List (List ℕ) → List Named
names wss = map (λ x. x.names) (answers start wss)

-- the pointer that an allocation gives
abbrev root : ℕ → Named
root allocation = Pointer (some (record { allocation = allocation; node = 0 }))

-- as the program answers them
abbrev printed_refusals : List (List ℕ) → List ℕ
printed_refusals wss = map (λ x. x.refusal) (program (bytes_of wss)).0

abbrev nodes_after : ℕ → List (List ℕ) → List Node
nodes_after a wss = (get_or (final start wss).state.memory a (new_allocation Stack 0 0 0)).nodes

-- the rows, as their codes
abbrev rows : List (List ℕ) → List (List ℕ)
rows wss = map (λ x. map code x.permissions) (nodes_after 0 wss)

abbrev marks : List (List ℕ) → List Protected
marks wss = map (λ x. x.protected) (nodes_after 0 wss)

-- ---- the runs
-- a protected argument, used and used again
abbrev protected_run : List (List ℕ)
protected_run =
    allocate_at 1 16 2 ∷ call 3 ∷ call 3 ∷ argument 3 1 0 0 16 (sized 2)
    ∷ load 0 0 16 1
    ∷ store 0 1 16 (byte 1 ∷ [])
    ∷ store 0 1 17 (byte 2 ∷ [])
    ∷ load 0 0 17 1
    ∷ store 0 0 16 (byte 3 ∷ [])
    ∷ store 0 0 17 (byte 4 ∷ [])
    ∷ []

-- and released, and freed
abbrev returned_run : List (List ℕ)
returned_run =
    protected_run
    ++ (return 3 ∷ return 3 ∷ leak_check_now ∷ free_heap 0 1 17 2 ∷ free_heap 0 1 16 3 ∷ free_heap 0 1 16 2 ∷ leak_check_now
    ∷ load 0 0 16 1
    ∷ load 0 0 16 0
    ∷ load 1 0 16 0
    ∷ load 0 2 16 0
    ∷ [])

-- node 2, below the protected node 1, is written
abbrev family_run : List (List ℕ)
family_run =
    allocate_at 1 16 1 ∷ call 0 ∷ argument 0 1 0 0 16 (sized 1) ∷ borrow 1 0 1 16 (sized 1) ∷ store 0 2 16 (byte 1 ∷ []) ∷ []

-- a deallocation under a protector: strong for a reference, weak for a box
abbrev dying_run : ℕ → List (List ℕ)
dying_run pointer = allocate_at 1 16 1 ∷ call 0 ∷ argument 0 pointer 0 0 16 (sized 1) ∷ store 0 1 16 (byte 1 ∷ []) ∷ free_heap 0 1 16 1 ∷ []

-- a reference at function entry that was never used locally: the deallocation's write makes it Unique
abbrev unused_run : List (List ℕ)
unused_run = allocate_at 1 16 1 ∷ call 0 ∷ argument 0 1 0 0 17 (sized 0) ∷ free_heap 0 1 16 1 ∷ free_heap 0 0 16 1 ∷ []

-- a sibling's write disables
abbrev siblings_run : List (List ℕ)
siblings_run =
    allocate_at 1 16 4 ∷ borrow 1 0 0 16 (sized 4) ∷ borrow 1 0 0 16 (sized 4) ∷ store 0 1 16 (byte 1 ∷ [])
    ∷ load 0 2 16 1
    ∷ store 0 2 16 (byte 1 ∷ [])
    ∷ through 1 0 0 0 0 16 4 []
    ∷ through 1 0 0 1 1 16 4 []
    ∷ through 2 0 0 1 0 17 1 []
    ∷ load 0 0 19 2
    ∷ (first_word 2 0 0 0 0 0 ∷ 0 ∷ 16 ∷ 1 ∷ [])
    ∷ (first_word 2 0 0 0 0 0 ∷ 0 ∷ 16 ∷ 0 ∷ [])
    ∷ (first_word 2 0 1 0 0 0 ∷ 0 ∷ 16 ∷ 0 ∷ [])
    ∷ allocate_at 1 19 4
    ∷ (first_word 10 0 0 0 0 0 ∷ 0 ∷ 0 ∷ 0 ∷ [])
    ∷ borrow 1 0 0 16 []
    ∷ []

-- writes through a shared argument for byte 0 of two, and a deallocation
abbrev shared_run : List (List ℕ)
shared_run =
    allocate_at 1 16 2 ∷ call 0 ∷ argument 0 0 0 0 16 (sized 1) ∷ store 0 1 16 (byte 1 ∷ []) ∷ store 0 1 17 (byte 1 ∷ []) ∷ free_heap 0 1 16 2 ∷ []

-- an argument for byte 0 of two, which a write through the root disables at byte 1; then it is used there, and freed
abbrev disabled_run : ℕ → List (List ℕ)
disabled_run pointer =
    allocate_at 1 16 2 ∷ call 0 ∷ argument 0 pointer 0 0 16 (sized 1) ∷ store 0 0 17 (byte 1 ∷ [])
    ∷ load 0 1 17 1
    ∷ store 0 1 17 (byte 1 ∷ [])
    ∷ borrow 0 0 1 17 (sized 1)
    ∷ free_heap 0 1 16 2
    ∷ []

-- a write through the second of two retags
abbrev nested_run : List ℕ → List ℕ → List (List ℕ)
nested_run upper lower = allocate_at 1 16 1 ∷ call 0 ∷ upper ∷ lower ∷ store 0 2 16 (byte 1 ∷ []) ∷ []

-- zero-length retags below the start and past the end; allocations up to the bound
abbrev empties_run : List (List ℕ)
empties_run =
    allocate_at 1 16 1 ∷ borrow 0 0 0 15 (sized 0) ∷ borrow 0 0 0 99 (sized 0) ∷ allocate_at 0 1024 4096 ∷ allocate_at 0 1024 4095 ∷ []

-- node 1: byte 0 in a cell, byte 1 disabled by the root's write; node 2: protected, written at byte 0. Then a retag of both bytes through node 1
abbrev crossed_run : List (List ℕ)
crossed_run =
    allocate_at 1 16 2 ∷ borrow 1 0 0 16 (cell_first 2) ∷ call 0 ∷ argument 0 1 0 0 16 (sized 1)
    ∷ store 0 2 16 (byte 1 ∷ [])
    ∷ store 0 0 17 (byte 1 ∷ [])
    ∷ borrow 1 0 1 16 (sized 2)
    ∷ []

-- protected references with a cell: mutable, then shared
abbrev celled_run : List (List ℕ)
celled_run = allocate_at 1 16 2 ∷ call 0 ∷ argument 0 1 0 0 16 (cell_first 2) ∷ argument 0 0 0 0 16 (cell_first 2) ∷ []

-- retags that add no node: extra 3, a mutable reference that isn't unpin without layout words, zero length without provenance
abbrev no_node_run : List (List ℕ)
no_node_run =
    allocate_at 1 16 2 ∷ through 4 0 0 0 3 16 0 [] ∷ through 4 0 0 0 1 16 0 [] ∷ (first_word 4 0 0 0 0 0 ∷ 0 ∷ 16 ∷ 2 ∷ sized 0) ∷ []

-- a heap allocation that is freed, one of the stack, and two more of the heap; these are freed in turn, with a leak check before each and at the end
abbrev leaking_run : List (List ℕ)
leaking_run =
    allocate_at 1 16 1 ∷ free_heap 0 0 16 1 ∷ allocate_at 0 16 1 ∷ allocate_at 1 32 1 ∷ allocate_at 1 48 1
    ∷ leak_check_now
    ∷ free_heap 2 0 32 1
    ∷ leak_check_now
    ∷ free_heap 3 0 48 1
    ∷ leak_check_now
    ∷ []

-- so many nodes below each other
abbrev chain_run : ℕ → List (List ℕ)
chain_run zero = allocate_at 1 16 1 ∷ []
chain_run (suc n) = chain_run n ++ (borrow 1 0 n 16 (sized 1) ∷ [])

-- a byte that node 1 and node 2 below it hold under protectors, with these codes
abbrev lent : ℕ → ℕ → Memory
lent upper lower =
    changed (new_allocation Stack 1 0 16) Live (0 ∷ []) (
    record { parent = 0; protected = No; permissions = permission 3 ∷ [] }
    ∷ record { parent = 0; protected = Strong; permissions = permission upper ∷ [] }
    ∷ record { parent = 1; protected = Strong; permissions = permission lower ∷ [] }
    ∷ []
    )
    ∷ []

-- of 4,097 bytes
abbrev long_store : List ℕ
long_store = store 0 0 16 (replicate 4097 0)

-- M-110: at a width, by its extra, two bytes and one at the last address but one, by its high word and its low word
abbrev top_run : ℕ → ℕ → ℕ → List (List ℕ)
top_run extra high low = empty_to extra ∷ (0x00000001 ∷ high ∷ low ∷ 2 ∷ []) ∷ (0x00000001 ∷ high ∷ low ∷ 1 ∷ []) ∷ []

-- at a width, one address too many, by its high word and its low word, without provenance: a load of no bytes, a dereference test of none, one with a signed
-- length, a raw pointer's retag, and an allocation of no bytes
abbrev beyond_run : ℕ → ℕ → ℕ → List (List ℕ)
beyond_run extra high low =
    empty_to extra
    ∷ (0x20000000 ∷ high ∷ low ∷ 0 ∷ [])
    ∷ (0x70000000 ∷ high ∷ low ∷ 0 ∷ [])
    ∷ (0x80000000 ∷ high ∷ low ∷ 0 ∷ [])
    ∷ (0x40000003 ∷ high ∷ low ∷ 0 ∷ [])
    ∷ (0x00000001 ∷ high ∷ low ∷ 0 ∷ [])
    ∷ []

-- at a width, a fragment one position too far, and one at the highest position that it has
abbrev fragment_run : ℕ → ℕ → List (List ℕ)
fragment_run extra highest =
    empty_to extra ∷ allocate_at 1 16 1 ∷ store 0 0 16 (fragment (highest + 1) ∷ []) ∷ store 0 0 16 (fragment highest ∷ []) ∷ []

-- with a frame open and a heap allocation live, an emptying that has another field, and one that has none: what was made and opened is forgotten
abbrev emptied_run : List (List ℕ)
emptied_run =
    allocate_at 1 16 2 ∷ allocate_at 1 32 2 ∷ call 3 ∷ empty_to 3
    ∷ (first_word 15 0 0 0 0 0 ∷ 0 ∷ 0 ∷ 1 ∷ [])
    ∷ (first_word 15 0 0 0 0 0 ∷ 0 ∷ 1 ∷ 0 ∷ [])
    ∷ (first_word 15 0 0 0 1 0 ∷ 0 ∷ 0 ∷ 0 ∷ [])
    ∷ (first_word 15 0 0 1 0 0 ∷ 0 ∷ 0 ∷ 0 ∷ [])
    ∷ (first_word 15 0 1 0 0 0 ∷ 0 ∷ 0 ∷ 0 ∷ [])
    ∷ (first_word 15 1 0 0 0 0 ∷ 0 ∷ 0 ∷ 0 ∷ [])
    ∷ empty_to 0
    ∷ return 3
    ∷ leak_check_now
    ∷ load 0 0 16 0
    ∷ allocate_at 1 16 2
    ∷ []

pub record Cases : Type 0 where
  -- 2 for a frame opened while open; 20, 21, 22, 23
  pub protected_refusals : refusals protected_run ≡ 0 ∷ 0 ∷ 2 ∷ 0 ∷ 0 ∷ 20 ∷ 0 ∷ 21 ∷ 22 ∷ 23 ∷ []
  pub protected_rows : rows protected_run ≡ (3 ∷ 3 ∷ []) ∷ (10 ∷ 11 ∷ []) ∷ []
  -- 2 for a frame used unopened; 25, 10, 12, 8, 4. "a zero-length load refused as dead" is a slip
  pub returned_refusals : refusals returned_run ≡ 0 ∷ 0 ∷ 2 ∷ 0 ∷ 0 ∷ 20 ∷ 0 ∷ 21 ∷ 22 ∷ 23 ∷ 0 ∷ 2 ∷ 25 ∷ 10 ∷ 12 ∷ 0 ∷ 0 ∷ 8 ∷ 0 ∷ 4 ∷ 4 ∷ []
  -- a read is released at one byte and a write at the other, and the mark is gone
  pub returned_rows : rows (protected_run ++ (return 3 ∷ [])) ≡ (3 ∷ 3 ∷ []) ∷ (1 ∷ 3 ∷ []) ∷ []
  pub returned_marks : marks (protected_run ++ (return 3 ∷ [])) ≡ No ∷ No ∷ []
  -- "reaching descendants at release" is a slip: node 2 stays Unique
  pub family_rows : rows (family_run ++ (return 0 ∷ [])) ≡ (3 ∷ []) ∷ (3 ∷ []) ∷ (3 ∷ []) ∷ []
  -- 24 under a strong protector; a weak one does not prevent it, and its mark stays when the frame ends
  pub strong_refusals : refusals (dying_run 1) ≡ 0 ∷ 0 ∷ 0 ∷ 0 ∷ 24 ∷ []
  pub weak_refusals : refusals (dying_run 2 ++ (return 0 ∷ [])) ≡ 0 ∷ 0 ∷ 0 ∷ 0 ∷ 0 ∷ 0 ∷ []
  pub weak_marks : marks (dying_run 2 ++ (return 0 ∷ [])) ≡ No ∷ Weak ∷ []
  pub weak_rows : rows (dying_run 2 ++ (return 0 ∷ [])) ≡ (3 ∷ []) ∷ (3 ∷ []) ∷ []
  -- 24 on the permissions as the write left them: through node 1 it is refused, through the root it is not
  pub unused_refusals : refusals unused_run ≡ 0 ∷ 0 ∷ 0 ∷ 24 ∷ 0 ∷ []
  -- 17, 19, 11, 13, 6, 9, 7; a name without provenance is 2; 5; kinds from 10 on are 2; a layout of no words is 3. 18 is in Stars
  pub siblings_refusals : refusals siblings_run ≡ 0 ∷ 0 ∷ 0 ∷ 0 ∷ 17 ∷ 19 ∷ 11 ∷ 13 ∷ 6 ∷ 9 ∷ 7 ∷ 0 ∷ 2 ∷ 5 ∷ 2 ∷ 3 ∷ []
  -- M-100: 27 for what was read and for what was not, by a store and by a deallocation
  pub shared_refusals : refusals shared_run ≡ 0 ∷ 0 ∷ 0 ∷ 27 ∷ 27 ∷ 27 ∷ []
  -- 26 by a load and by a retag; 28 by a store and by a deallocation, before 24; a weak protector alike. A shared argument's 27 is met before 28
  pub disabled_refusals : refusals (disabled_run 1) ≡ 0 ∷ 0 ∷ 0 ∷ 0 ∷ 26 ∷ 28 ∷ 26 ∷ 28 ∷ []
  pub disabled_box : refusals (disabled_run 2) ≡ 0 ∷ 0 ∷ 0 ∷ 0 ∷ 26 ∷ 28 ∷ 26 ∷ 28 ∷ []
  pub disabled_shared : refusals (disabled_run 0) ≡ 0 ∷ 0 ∷ 0 ∷ 0 ∷ 26 ∷ 28 ∷ 26 ∷ 27 ∷ []
  -- "met in the same visiting order": of 27 and 18, the upper node's
  pub upper_protected : refusals (nested_run (argument 0 0 0 0 16 (sized 1)) (borrow 0 0 1 16 (sized 1))) ≡ 0 ∷ 0 ∷ 0 ∷ 0 ∷ 27 ∷ []
  pub lower_protected : refusals (nested_run (borrow 0 0 0 16 (sized 1)) (argument 0 0 0 1 16 (sized 1))) ≡ 0 ∷ 0 ∷ 0 ∷ 0 ∷ 18 ∷ []
  -- by an end call, which no run reaches: node 2's read meets e at node 1, its write d and e
  pub end_call_26 : end_call_refusal (lent 14 13) (record { allocation = 0; node = 2 } ∷ []) ≡ 26
  pub end_call_27 : end_call_refusal (lent 13 11) (record { allocation = 0; node = 2 } ∷ []) ≡ 27
  pub end_call_28 : end_call_refusal (lent 14 11) (record { allocation = 0; node = 2 } ∷ []) ≡ 28
  -- 14, and 15
  pub empties_refusals : refusals empties_run ≡ 0 ∷ 14 ∷ 0 ∷ 15 ∷ 0 ∷ []
  -- 16, which no run reaches: the root is not protected
  pub unprotected_entry : end_call_refusal (final start (allocate_at 1 16 1 ∷ [])).state.memory (record { allocation = 0; node = 0 } ∷ []) ≡ 16
  -- 5 before 15; a load of more bytes than the allocation has is 9
  pub large_refusals : refusals (allocate_at 1 0 0xffffffff ∷ allocate_at 1 1 0xffffffff ∷ allocate_at 1 16 1 ∷ load 0 0 16 5000 ∷ []) ≡ 5 ∷ 15 ∷ 0 ∷ 9 ∷ []
  -- more than 4,096 words after the fourth, in a list: of a store it is 9, of a retag 3, and a mutable reference that isn't unpin leaves them unread
  pub long_refusals : refusals (allocate_at 1 16 1 ∷ long_store ∷ borrow 0 0 0 16 (replicate 4097 0) ∷ through 4 0 0 0 1 16 4097 (replicate 4097 0) ∷ []) ≡ 0 ∷ 9 ∷ 3 ∷ 0 ∷ []
  -- "in the program": all of them are 2 there, and 4,096 words are none too many
  pub store_too_long : printed_refusals (allocate_at 1 16 1 ∷ long_store ∷ []) ≡ 0 ∷ 2 ∷ []
  pub long_retag : printed_refusals (allocate_at 1 16 1 ∷ through 4 0 0 0 1 16 4097 (replicate 4097 0) ∷ []) ≡ 0 ∷ 2 ∷ []
  pub longest_store : printed_refusals (allocate_at 1 16 1 ∷ store 0 0 16 (replicate 4096 0) ∷ []) ≡ 0 ∷ 9 ∷ []
  -- "Visiting node by node in a retag" is a slip: it would meet 17 at node 1 before 21 at node 2
  pub crossed_refusals : refusals crossed_run ≡ 0 ∷ 0 ∷ 0 ∷ 0 ∷ 0 ∷ 0 ∷ 21 ∷ []
  pub crossed_rows : rows crossed_run ≡ (3 ∷ 3 ∷ []) ∷ (2 ∷ 5 ∷ []) ∷ (11 ∷ 14 ∷ []) ∷ []
  -- "ReservedIm for a protected cell byte" is a slip: it is Reserved, and was read; a shared cell byte is Cell, and was not
  pub celled_rows : rows celled_run ≡ (3 ∷ 3 ∷ []) ∷ (8 ∷ 10 ∷ []) ∷ (6 ∷ 13 ∷ []) ∷ []
  pub celled_entries : entries (frame_at (final start celled_run).state 0) ≡ record { allocation = 0; node = 1 } ∷ record { allocation = 0; node = 2 } ∷ []
  -- an end call releases all its entries, and closes its frame
  pub released_rows : rows (celled_run ++ (return 0 ∷ [])) ≡ (3 ∷ 3 ∷ []) ∷ (1 ∷ 1 ∷ []) ∷ (0 ∷ 4 ∷ []) ∷ []
  pub released_frame : frame_at (final start (celled_run ++ (return 0 ∷ []))).state 0 ≡ frame_at empty 0
  -- the same pointer
  pub no_node : names no_node_run ≡ root 0 ∷ root 0 ∷ root 0 ∷ nothing ∷ []
  -- M-104: 25 names the lowest that is live and of the heap, not a dead one or one of the stack; and so the program prints it
  pub leaks_refusals : refusals leaking_run ≡ 0 ∷ 0 ∷ 0 ∷ 0 ∷ 0 ∷ 25 ∷ 0 ∷ 25 ∷ 0 ∷ 0 ∷ []
  pub leaks_names : names leaking_run ≡ root 0 ∷ nothing ∷ root 1 ∷ root 2 ∷ root 3 ∷ Leak 2 ∷ nothing ∷ Leak 3 ∷ nothing ∷ nothing ∷ []
  pub leak_line : answer_lines 5 (drop 5 (program (bytes_of leaking_run)).0) ≡ ascii "5 25 2\n"
  -- M-110: "Address plus size is at most 2 to the width, less 1."
  pub top_16 : refusals (top_run 0 0 0xfffe) ≡ 0 ∷ 5 ∷ 0 ∷ []
  pub top_32 : refusals (top_run 1 0 0xfffffffe) ≡ 0 ∷ 5 ∷ 0 ∷ []
  pub top_64 : refusals (top_run 2 0xffffffff 0xfffffffe) ≡ 0 ∷ 5 ∷ 0 ∷ []
  -- "An address .. too big for the width falls under 2."; the last one does not, but where an allocation is asked for
  pub beyond_16 : refusals (beyond_run 0 0 0x10000) ≡ 0 ∷ 2 ∷ 2 ∷ 2 ∷ 2 ∷ 2 ∷ []
  pub beyond_32 : refusals (beyond_run 1 1 0) ≡ 0 ∷ 2 ∷ 2 ∷ 2 ∷ 2 ∷ 2 ∷ []
  pub last_16 : refusals (beyond_run 0 0 0xffff) ≡ 0 ∷ 0 ∷ 0 ∷ 0 ∷ 0 ∷ 0 ∷ []
  pub last_32 : refusals (beyond_run 1 0 0xffffffff) ≡ 0 ∷ 0 ∷ 0 ∷ 0 ∷ 0 ∷ 0 ∷ []
  -- "An .. position too big for the width falls under 2."
  pub position_16 : refusals (fragment_run 0 1) ≡ 0 ∷ 0 ∷ 2 ∷ 0 ∷ []
  pub position_32 : refusals (fragment_run 1 3) ≡ 0 ∷ 0 ∷ 2 ∷ 0 ∷ []
  pub position_64 : refusals (fragment_run 2 6) ≡ 0 ∷ 0 ∷ 0 ∷ 0 ∷ []
  -- a retag's layout words are no bytes: here the metadata's count has the bits of a position, and the layout has no mask
  pub layout_16 : refusals (empty_to 0 ∷ allocate_at 1 16 2 ∷ borrow 0 0 0 16 (0x7fffffff ∷ 0x40000001 ∷ []) ∷ []) ≡ 0 ∷ 0 ∷ 3 ∷ []
  -- 5 before 15 at each width; an alignment that no address has is 5
  pub large_16 : refusals (empty_to 0 ∷ allocate_at 1 1 0xffff ∷ (first_word 0 0 0 0 16 1 ∷ 0 ∷ 1 ∷ 1 ∷ []) ∷ []) ≡ 0 ∷ 5 ∷ 5 ∷ []
  pub large_32 : refusals (empty_to 1 ∷ allocate_at 1 1 0xffff ∷ []) ≡ 0 ∷ 15 ∷ []
  -- "kind 15 empties the memory, .. closes all frames": the end call is 2, no heap allocation is live, and the next one has the number 0
  pub emptied_refusals : refusals emptied_run ≡ 0 ∷ 0 ∷ 0 ∷ 2 ∷ 2 ∷ 2 ∷ 2 ∷ 2 ∷ 2 ∷ 2 ∷ 0 ∷ 2 ∷ 0 ∷ 4 ∷ 0 ∷ []
  pub emptied_names : drop 14 (names emptied_run) ≡ root 0 ∷ []
  pub emptied_state : final start (allocate_at 1 16 2 ∷ call 3 ∷ empty_to 0 ∷ []) ≡ record { state = empty; width = Bits16 }
  -- the width stays until the next emptying: it is of no other request
  pub kept_width : (final start (empty_to 1 ∷ allocate_at 1 16 1 ∷ empty_to 3 ∷ leak_check_now ∷ [])).width ≡ Bits32
  -- pointer offsets wrap at the width
  pub offset_16 : (wrapping_offset Bits16 (record { address = 0xffff; provenance = none }) 0 1).address ≡ 0
  pub offset_32 : (wrapping_offset Bits32 (record { address = 0xffff; provenance = none }) 0x10000 0).address ≡ 0xffffffff
  pub offset_64 : (wrapping_offset Bits64 (record { address = 0xffffffff; provenance = none }) 0 1).address ≡ 0x100000000
  -- masks: three elements with a cell in each; a tuple with a slice; a count of 2^30 - 1 at size 0, and at size 1; eight tuples, and nine; empty cells, and cells that go back
  pub mask_of_slice : freeze_mask (0x40000003 ∷ 0x40400002 ∷ 0x00010001 ∷ []) ≡ some (true ∷ false ∷ true ∷ false ∷ true ∷ false ∷ [])
  pub mask_of_tuple : freeze_mask (0x40000002 ∷ 0xc0000003 ∷ 0x40400001 ∷ 0x00000001 ∷ []) ≡ some (true ∷ true ∷ true ∷ false ∷ false ∷ [])
  pub empty_elements : freeze_mask (0x7fffffff ∷ 0x40000000 ∷ []) ≡ some []
  pub many_elements : freeze_mask (0x7fffffff ∷ 0x40000001 ∷ []) ≡ none
  pub eight_tuples : freeze_mask (0 ∷ replicate 8 0xc0000000 ++ (1 ∷ [])) ≡ some (true ∷ [])
  pub nine_tuples : freeze_mask (0 ∷ replicate 9 0xc0000000 ++ (1 ∷ [])) ≡ none
  pub empty_cells : freeze_mask (0 ∷ 0x00c00006 ∷ 0x00040000 ∷ 0x00040000 ∷ 0x00040002 ∷ []) ≡ some (true ∷ true ∷ true ∷ true ∷ false ∷ false ∷ [])
  pub cells_back : freeze_mask (0 ∷ 0x00800006 ∷ 0x00040002 ∷ 0x00040000 ∷ []) ≡ none
  -- one to three bytes behind the last whole request are one of their own; a request that is cut short takes them along
  pub requests_cut : requests_of (replicate 16 0 ++ (1 ∷ 2 ∷ [])) ≡ (0 ∷ 0 ∷ 0 ∷ 0 ∷ []) ∷ [] ∷ []
  pub cut_short : requests_of (replicate 12 0 ++ (1 ∷ 2 ∷ [])) ≡ (0 ∷ 0 ∷ 0 ∷ []) ∷ []
  pub cut_refusals : refusals ((0x30000000 ∷ 0 ∷ 0 ∷ 2 ∷ 7 ∷ []) ∷ [] ∷ leak_check_now ∷ []) ≡ 2 ∷ 2 ∷ 0 ∷ []
  -- the program stops after the first refusal: nothing but the refused allocation at address 0 is answered
  pub stops : (program (replicate 40 0)).0 ≡ refused_with 5 ∷ []
  -- forty-one nodes below each other; 4,096 bytes read at once
  pub chain_length : length (rows (chain_run 40)) ≡ 41
  pub whole_load : refusals (allocate_at 1 4096 4096 ∷ load 0 0 4096 4096 ∷ []) ≡ 0 ∷ 0 ∷ []

pub cases : Cases
unfolding first_refusal table_from map_from mutate_at write_at filter any sum_of refusal next is_above_within relation descendants preorder visiting_order row_refusal node_refusal visit_refusal node_after visited cells_fit is_freeze nested_mask freeze_mask wrapping_offset check_ptr access_refusal_in access_refusal after_access_in after_access loaded_words accept_access perform_access is_pickable exceeds_bounds new_allocation allocate_refusal accept_allocate allocate deallocate_refusal after_deallocate_in accept_deallocate deallocate dereferenceable first_leak leak_check new_call release_refusal_in release_refusal after_release_in after_release release_all_refusal after_release_all end_call_refusal accept_end_call end_call child_node with_child init_refusal after_init reborrow_refusal after_reborrow_in accept_reborrow reborrow retag_without_node retag request following_length is_miscounted bad_byte bad_settings bad_metadata bad_retag is_malformed is_too_far is_too_big retag_with_mask perform_retag perform step width_after turn answers final words_of cut_requests requests_of performed_count program digit decimal_within decimal ended given answer_line answer_lines bytes_of_words bytes_of
cases =
    record {
      protected_refusals = refl;
      protected_rows = refl;
      returned_refusals = refl;
      returned_rows = refl;
      returned_marks = refl;
      family_rows = refl;
      strong_refusals = refl;
      weak_refusals = refl;
      weak_marks = refl;
      weak_rows = refl;
      unused_refusals = refl;
      siblings_refusals = refl;
      shared_refusals = refl;
      disabled_refusals = refl;
      disabled_box = refl;
      disabled_shared = refl;
      upper_protected = refl;
      lower_protected = refl;
      end_call_26 = refl;
      end_call_27 = refl;
      end_call_28 = refl;
      empties_refusals = refl;
      unprotected_entry = refl;
      large_refusals = refl;
      long_refusals = refl;
      store_too_long = refl;
      long_retag = refl;
      longest_store = refl;
      crossed_refusals = refl;
      crossed_rows = refl;
      celled_rows = refl;
      celled_entries = refl;
      released_rows = refl;
      released_frame = refl;
      no_node = refl;
      leaks_refusals = refl;
      leaks_names = refl;
      leak_line = refl;
      top_16 = refl;
      top_32 = refl;
      top_64 = refl;
      beyond_16 = refl;
      beyond_32 = refl;
      last_16 = refl;
      last_32 = refl;
      position_16 = refl;
      position_32 = refl;
      position_64 = refl;
      layout_16 = refl;
      large_16 = refl;
      large_32 = refl;
      emptied_refusals = refl;
      emptied_names = refl;
      emptied_state = refl;
      kept_width = refl;
      offset_16 = refl;
      offset_32 = refl;
      offset_64 = refl;
      mask_of_slice = refl;
      mask_of_tuple = refl;
      empty_elements = refl;
      many_elements = refl;
      eight_tuples = refl;
      nine_tuples = refl;
      empty_cells = refl;
      cells_back = refl;
      requests_cut = refl;
      cut_short = refl;
      cut_refusals = refl;
      stops = refl;
      chain_length = refl;
      whole_load = refl;
    }
