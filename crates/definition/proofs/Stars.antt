-- The starred cases of document 01, "To the testers", as one table, by computation.
use Prim.Native.Nat.{ℕ, ◌/◌, ◌%◌, ◌^◌}
use mathlib.Core.Path.{◌≡◌, refl}
use mathlib.Core.Option.{some}
use mathlib.Core.List.{List, [], ◌∷◌, ◌++◌}
use lib.ListN.{replicate}
use Rattle.definition.specs.Notation.{first_refusal, table_from, map_from, mutate_at, write_at, filter, any, sum_of}
use Rattle.definition.specs.Width.Width.{Bits64}
use Rattle.definition.specs.Permission.{refusal, next, end_access, permission}
use Rattle.definition.specs.Tree.{is_above_within, relation, descendants, preorder, visiting_order, row_refusal, node_refusal, visit_refusal, node_after, visited}
use Rattle.definition.specs.Layout.{cells_fit, is_freeze, nested_mask, freeze_mask}
use Rattle.definition.specs.Memory.{wrapping_offset, check_ptr, access_refusal_in, access_refusal, after_access_in, after_access, loaded_words, accept_access, perform_access, is_pickable, exceeds_bounds, new_allocation, allocate_refusal, accept_allocate, allocate, deallocate_refusal, after_deallocate_in, accept_deallocate, deallocate, dereferenceable, first_leak, leak_check, Answer, refused_with, accepted, gives_pointer, gives_words}
use Rattle.definition.specs.Frame.{new_call, release_refusal_in, release_refusal, after_release_in, after_release, release_all_refusal, after_release_all, end_call_refusal, accept_end_call, end_call, State}
use Rattle.definition.specs.Retag.{child_node, with_child, init_refusal, after_init, reborrow_refusal, after_reborrow_in, accept_reborrow, reborrow, retag_without_node, retag}
use Rattle.definition.specs.Request.{request, following_length, is_miscounted, bad_byte, bad_settings, bad_metadata, bad_retag, is_malformed, is_too_far, is_too_big}
use Rattle.definition.specs.Run.{retag_with_mask, perform_retag, perform, step, RunState, start, width_after, turn, answers, final, words_of, cut_requests, requests_of, performed_count, program}
use Rattle.definition.specs.Output.{Text, ascii, digit, decimal_within, decimal, hexadecimal, ended, pointed, given, answer_line, liveness_name, kind_name, allocation_line, data_line, protector_name, parent_name, codes, node_line, node_lines, allocation_lines, memory_lines, answer_lines, output}
use Rattle.definition.specs.Permission.AccessKind.{Read, Write}
use Rattle.definition.specs.Permission.NodeRelation.{Foreign}
use Rattle.definition.specs.Permission.Permission.{Unprot}
use Rattle.definition.specs.Permission.PermissionUnprot.{Reserved, Unique, Frozen}
use Rattle.definition.specs.Permission.Protected.{No}
use Rattle.definition.specs.Memory.Liveness.{Live}
use Rattle.definition.specs.Memory.AllocationKind.{Heap}
use Rattle.definition.specs.Frame.Frame.{Closed}

-- "This run (hexadecimal) has five requests"
abbrev pub the_run : List (List ℕ)
the_run =
    (0x00000001 ∷ 0x00000000 ∷ 0x00000010 ∷ 0x00000002 ∷ [])
    ∷ (0x40000101 ∷ 0x00000000 ∷ 0x00000010 ∷ 0x60000002 ∷ 0x00000000 ∷ 0x00000002 ∷ [])
    ∷ (0x30000300 ∷ 0x00000000 ∷ 0x00000010 ∷ 0x00000001 ∷ 0x80000007 ∷ [])
    ∷ (0x20000100 ∷ 0x00000000 ∷ 0x00000010 ∷ 0x00000001 ∷ [])
    ∷ (0x30000300 ∷ 0x00000000 ∷ 0x00000010 ∷ 0x00000001 ∷ 0x80000008 ∷ [])
    ∷ []

-- the bytes that the program reads, of a list of requests
unfoldable pub bytes_of_words : List ℕ → List ℕ
bytes_of_words [] = []
bytes_of_words (w ∷ ws) = w / 2 ^ 24 ∷ w / 2 ^ 16 % 2 ^ 8 ∷ w / 2 ^ 8 % 2 ^ 8 ∷ w % 2 ^ 8 ∷ bytes_of_words ws

unfoldable pub bytes_of : List (List ℕ) → List ℕ
bytes_of [] = []
bytes_of (ws ∷ wss) = bytes_of_words ws ++ bytes_of wss

abbrev pub pointer_to : ℕ → ℕ → Answer
pointer_to allocation node = gives_pointer (some (record { allocation = allocation; node = node }))

abbrev pub its_answers : List Answer
its_answers = pointer_to 0 0 ∷ pointer_to 0 1 ∷ accepted ∷ gives_words (0x80000007 ∷ []) ∷ refused_with 18 ∷ []

abbrev pub its_state : State
its_state =
    record {
      memory =
          record {
            state = Live;
            kind = Heap;
            exponent = 0;
            address = 16;
            words = 0x80000007 ∷ 0x00000000 ∷ [];
            nodes =
                record { parent = 0; protected = No; permissions = Unprot Unique ∷ Unprot Unique ∷ [] }
                ∷ record { parent = 0; protected = No; permissions = Unprot Frozen ∷ Unprot Reserved ∷ [] }
                ∷ [];
          }
          ∷ [];
      frames = replicate 32 Closed;
    }

-- "It prints, whole: .."
abbrev its_text : Text
its_text =
    ascii "0 0 0.0\n"
    ++ ascii "1 0 0.1\n"
    ++ ascii "2 0 -\n"
    ++ ascii "3 0 80000007\n"
    ++ ascii "4 18 -\n"
    ++ ascii "a 0 live heap 16 2 0\n"
    ++ ascii "d 0 80000007 00000000\n"
    ++ ascii "n 0 0 - no 33\n"
    ++ ascii "n 0 1 0 no 41\n"

-- a heap allocation at an address, its high word and its low word, of so many bytes
abbrev heap_at : ℕ → ℕ → ℕ → List ℕ
heap_at high low bytes = 0x00000001 ∷ high ∷ low ∷ bytes ∷ []

-- the memory with the bytes 16..18 allocated
abbrev beside : RunState
beside = final start (heap_at 0 16 2 ∷ [])

pub record Stars : Type 0 where
  -- "★the run above": its answers and all that it leaves, as a list, and as the program reads it; and the text that the program prints of it
  pub run_answers : answers start the_run ≡ its_answers
  pub run_state : final start the_run ≡ record { state = its_state; width = Bits64 }
  pub run_requests : requests_of (bytes_of the_run) ≡ the_run
  pub run_program : program (bytes_of the_run) ≡ (its_answers, record { state = its_state; width = Bits64 })
  pub run_output : output (bytes_of the_run) ≡ its_text
  -- "size 1 at 2^64 − 2 ★accepted, size 2 ★5"
  pub size_1 : (turn start (heap_at 0xffffffff 0xfffffffe 1)).0 ≡ pointer_to 0 0
  pub size_2 : (turn start (heap_at 0xffffffff 0xfffffffe 2)).0 ≡ refused_with 5
  -- "beside 16..18, size 0 at 16 ★5, 17 ★5, 18 ★accepted"
  pub at_16 : (turn beside (heap_at 0 16 0)).0 ≡ refused_with 5
  pub at_17 : (turn beside (heap_at 0 17 0)).0 ≡ refused_with 5
  pub at_18 : (turn beside (heap_at 0 18 0)).0 ≡ pointer_to 1 0
  -- "★code 8 releases a read; ★b a write"
  pub code_8 : end_access (permission 8) ≡ some Read
  pub code_b : end_access (permission 11) ≡ some Write
  -- "★a foreign write on 7 gives e, ★on d 22"
  pub foreign_write_7 : (refusal Write Foreign (permission 7) ≡ 0) × (next Write Foreign (permission 7) ≡ permission 14)
  pub foreign_write_d : refusal Write Foreign (permission 13) ≡ 22
  -- "★signed length −1 at the start 9"
  pub signed : (turn beside (0x80000100 ∷ 0 ∷ 16 ∷ 0xffffffff ∷ [])).0 ≡ refused_with 9

pub stars : Stars
unfolding first_refusal table_from map_from mutate_at write_at filter any sum_of refusal next is_above_within relation descendants preorder visiting_order row_refusal node_refusal visit_refusal node_after visited cells_fit is_freeze nested_mask freeze_mask wrapping_offset check_ptr access_refusal_in access_refusal after_access_in after_access loaded_words accept_access perform_access is_pickable exceeds_bounds new_allocation allocate_refusal accept_allocate allocate deallocate_refusal after_deallocate_in accept_deallocate deallocate dereferenceable first_leak leak_check new_call release_refusal_in release_refusal after_release_in after_release release_all_refusal after_release_all end_call_refusal accept_end_call end_call child_node with_child init_refusal after_init reborrow_refusal after_reborrow_in accept_reborrow reborrow retag_without_node retag request following_length is_miscounted bad_byte bad_settings bad_metadata bad_retag is_malformed is_too_far is_too_big retag_with_mask perform_retag perform step width_after turn answers final words_of cut_requests requests_of performed_count program bytes_of_words bytes_of digit decimal_within decimal hexadecimal ended pointed given answer_line liveness_name kind_name allocation_line data_line protector_name parent_name codes node_line node_lines allocation_lines memory_lines answer_lines output
stars =
    record {
      run_answers = refl;
      run_state = refl;
      run_requests = refl;
      run_program = refl;
      run_output = refl;
      size_1 = refl;
      size_2 = refl;
      at_16 = refl;
      at_17 = refl;
      at_18 = refl;
      code_8 = refl;
      code_b = refl;
      foreign_write_7 = (refl, refl);
      foreign_write_d = refl;
      signed = refl;
    }
