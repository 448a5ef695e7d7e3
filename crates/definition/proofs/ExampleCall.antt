-- M-113's claim at a run, so that it is seen not to be empty. A shared reference to two bytes is passed to a call: until the call's end the second byte is not
-- written, and the bytes are not freed. And its limits, each at the same run but for one thing, where the byte is written: in a cell, behind a mutable
-- reference, behind one that is no argument, after the call's end, after an emptying.
use Prim.Native.Nat.{ℕ, zero, suc}
use mathlib.Core.Path.{◌≡◌, refl, ap, subst}
use mathlib.Core.Bool.{Bool, true, false, false≢true}
use mathlib.Core.Option.{some}
use mathlib.Core.List.{List, [], ◌∷◌, ◌++◌}
use native.Mathlib.Omega.{arith}
use lib.ListN.{get_or}
use Rattle.definition.specs.Notation.{first_refusal, table_from, map_from, mutate_at, write_at, filter, any, sum_of}
use Rattle.definition.specs.Permission.{refusal, next}
use Rattle.definition.specs.Tree.{is_above_within, relation, descendants, preorder, visiting_order, row_refusal, node_refusal, visit_refusal, node_after, visited}
use Rattle.definition.specs.Layout.{cells_fit, is_freeze, nested_mask, freeze_mask}
use Rattle.definition.specs.Memory.{allocation_at, check_ptr, access_refusal_in, access_refusal, after_access_in, after_access, loaded_words, accept_access, perform_access, is_pickable, exceeds_bounds, new_allocation, allocate_refusal, accept_allocate, allocate, deallocate_refusal, after_deallocate_in, accept_deallocate, deallocate, Answer, refused_with, accepted}
use Rattle.definition.specs.Frame.{frame_at, entries, new_call, release_refusal_in, release_refusal, after_release_in, after_release, release_all_refusal, after_release_all, end_call_refusal, accept_end_call, end_call}
use Rattle.definition.specs.Retag.{child_node, with_child, init_refusal, after_init, reborrow_refusal, after_reborrow_in, accept_reborrow, reborrow, retag}
use Rattle.definition.specs.Request.{Kind, request, following_length, is_miscounted, bad_byte, bad_settings, bad_metadata, bad_retag, is_malformed, is_too_far, is_too_big}
use Rattle.definition.specs.Request.Kind.{Allocate, Deallocate, Load, Store, Retag, NewCall, EndCall, Dereferenceable, SignedDereferenceable, LeakCheck, Empty, Unused}
use Rattle.definition.specs.Run.{retag_with_mask, perform_retag, perform, step, RunState, start, width_after, turn, answers, final}
use Rattle.definition.specs.Exchange.{all_accepted}
use Rattle.definition.specs.EndCalls.{end_call_words}
use Rattle.definition.specs.SharedArguments.{SharedArgument, StaysPut, AsksToEnd, NeverEnds, NeverEmpties}
use Rattle.definition.proofs.SharedArguments.{shared-argument-stays}

-- ---- the run
-- two bytes on the heap, at address 16, with 5 and 6; a call, in frame 0
abbrev before : List (List ℕ)
before = (0x00000001 ∷ 0 ∷ 16 ∷ 2 ∷ []) ∷ (0x30000100 ∷ 0 ∷ 16 ∷ 2 ∷ 0x80000005 ∷ 0x80000006 ∷ []) ∷ (0x50000000 ∷ 0 ∷ 0 ∷ 0 ∷ []) ∷ []

-- its argument, a shared reference to both
abbrev argument : List ℕ
argument = 0x40000100 ∷ 0 ∷ 16 ∷ 0x80000002 ∷ 0 ∷ 2 ∷ []

-- through the root: 9 to the second byte, and the end of both
abbrev overwrite : List ℕ
overwrite = 0x30000100 ∷ 0 ∷ 17 ∷ 1 ∷ 0x80000009 ∷ []

abbrev free : List ℕ
free = 0x10000101 ∷ 0 ∷ 16 ∷ 2 ∷ []

-- the emptying to 64 bits, and one to no width
abbrev emptying : List ℕ
emptying = 0xf0000002 ∷ 0 ∷ 0 ∷ 0 ∷ []

abbrev malformed_emptying : List ℕ
malformed_emptying = 0xf0000003 ∷ 0 ∷ 0 ∷ 0 ∷ []

-- another call begins and ends, there is an end call of frame 0 with a word too many, and an emptying that is refused
abbrev during : List (List ℕ)
during = overwrite ∷ free ∷ (0x50000000 ∷ 0 ∷ 0 ∷ 1 ∷ []) ∷ end_call_words 1 ∷ (0x60000000 ∷ 0 ∷ 0 ∷ 0 ∷ 0 ∷ []) ∷ malformed_emptying ∷ []

abbrev during-answers : List Answer
during-answers = refused_with 22 ∷ refused_with 22 ∷ accepted ∷ accepted ∷ refused_with 2 ∷ refused_with 2 ∷ []

abbrev begun : RunState
begun = final start before

-- ---- the same but for one thing
abbrev in_cell : List ℕ
in_cell = 0x40000100 ∷ 0 ∷ 16 ∷ 0x80000003 ∷ 0 ∷ 0x00400002 ∷ 0x00010001 ∷ []

abbrev mutable : List ℕ
mutable = 0x40000101 ∷ 0 ∷ 16 ∷ 0xc0000002 ∷ 0 ∷ 2 ∷ []

abbrev no_argument : List ℕ
no_argument = 0x40000100 ∷ 0 ∷ 16 ∷ 0x00000002 ∷ 0 ∷ 2 ∷ []

-- through the new node
abbrev overwrite_through : List ℕ
overwrite_through = 0x30000300 ∷ 0 ∷ 17 ∷ 1 ∷ 0x80000009 ∷ []

abbrev second_byte : List (List ℕ) → ℕ
second_byte wss = get_or (allocation_at (final begun wss).state.memory 0).words 1 0

-- every request is accepted, the retag among them, and the 9 is there
record Writes (wss : List (List ℕ)) : Type 0 where
  accepts : all_accepted (answers begun wss) ≡ true
  writes : second_byte wss ≡ 0x80000009

-- ---- what they come to, by computation
record Run : Type 0 where
  shared : SharedArgument begun argument
  answered : answers (turn begun argument).1 during ≡ during-answers
  kept : second_byte (argument ∷ during) ≡ 0x80000006
  freed : answers (turn begun argument).1 (end_call_words 0 ∷ free ∷ []) ≡ accepted ∷ accepted ∷ []
  cell_mask : freeze_mask (request in_cell).following ≡ some (true ∷ false ∷ [])
  written_in_cell : Writes (in_cell ∷ overwrite ∷ [])
  written_mutably : Writes (mutable ∷ overwrite_through ∷ [])
  written_unprotected : Writes (no_argument ∷ overwrite ∷ [])
  written_afterwards : Writes (argument ∷ end_call_words 0 ∷ overwrite ∷ [])
  -- where an emptying was, the node is entered again, and the byte is another
  written_emptied : Writes (argument ∷ emptying ∷ (before ++ (overwrite ∷ argument ∷ [])))
  entered_again : entries (frame_at (final begun (argument ∷ emptying ∷ (before ++ (overwrite ∷ argument ∷ [])))).state 0) ≡ record { allocation = 0; node = 1 } ∷ []

run : Run
unfolding first_refusal table_from map_from mutate_at write_at filter any sum_of refusal next is_above_within relation descendants preorder visiting_order row_refusal node_refusal visit_refusal node_after visited cells_fit is_freeze nested_mask freeze_mask check_ptr access_refusal_in access_refusal after_access_in after_access loaded_words accept_access perform_access is_pickable exceeds_bounds new_allocation allocate_refusal accept_allocate allocate deallocate_refusal after_deallocate_in accept_deallocate deallocate new_call release_refusal_in release_refusal after_release_in after_release release_all_refusal after_release_all end_call_refusal accept_end_call end_call child_node with_child init_refusal after_init reborrow_refusal after_reborrow_in accept_reborrow reborrow retag request following_length is_miscounted bad_byte bad_settings bad_metadata bad_retag is_malformed is_too_far is_too_big retag_with_mask perform_retag perform step width_after turn answers final all_accepted
run =
    record {
      shared =
          record {
            retag = refl;
            shared = refl;
            at_entry = refl;
            made = record { allocation = 0; node = 1 };
            accept = refl;
            mask = true ∷ true ∷ [];
            masked = refl;
            place = 1;
            inside = omega arith;
            freeze = refl;
          };
      answered = refl;
      kept = refl;
      freed = refl;
      cell_mask = refl;
      written_in_cell = record { accepts = refl; writes = refl };
      written_mutably = record { accepts = refl; writes = refl };
      written_unprotected = record { accepts = refl; writes = refl };
      written_afterwards = record { accepts = refl; writes = refl };
      written_emptied = record { accepts = refl; writes = refl };
      entered_again = refl;
    }

-- ---- the claim at it
abbrev is_emptying : Kind → Bool
is_emptying Allocate = false
is_emptying Deallocate = false
is_emptying Load = false
is_emptying Store = false
is_emptying Retag = false
is_emptying NewCall = false
is_emptying EndCall = false
is_emptying Dereferenceable = false
is_emptying SignedDereferenceable = false
is_emptying LeakCheck = false
is_emptying Empty = true
is_emptying Unused = false

-- the end call of frame 0 is refused, and the others end nothing or another call
never_ends : NeverEnds 0 (turn begun argument).1 during
unfolding request
never_ends i asks answer = go i asks (subst (λ (l : List Answer). get_or l i accepted ≡ accepted) run.answered answer)
  where
    go : (i : ℕ) → AsksToEnd 0 (get_or during i []) → get_or during-answers i accepted ≡ accepted → ⊥
    go zero asks answer = absurd (omega (arith, ap (λ (x : Answer). x.refusal) answer))
    go (suc zero) asks answer = absurd (omega (arith, ap (λ (x : Answer). x.refusal) answer))
    go (suc (suc zero)) asks answer = not_end asks.kind
      where
        not_end : NewCall ≡ EndCall → ⊥
        not_end k =
            let z : ◌≡◌ {A = ℕ} 0 1 = cc in
            omega arith
    go (suc (suc (suc zero))) asks answer = absurd (omega (arith, asks.frame))
    go (suc (suc (suc (suc zero)))) asks answer = absurd (omega (arith, ap (λ (x : Answer). x.refusal) answer))
    go (suc (suc (suc (suc (suc zero))))) asks answer = absurd (omega (arith, ap (λ (x : Answer). x.refusal) answer))
    go (suc (suc (suc (suc (suc (suc i)))))) asks answer = not_end asks.kind
      where
        not_end : Allocate ≡ EndCall → ⊥
        not_end k =
            let z : ◌≡◌ {A = ℕ} 0 1 = cc in
            omega arith

-- the emptying is refused, and the others are of another kind
never-empties : NeverEmpties (turn begun argument).1 during
unfolding request
never-empties i empties answer = go i (ap is_emptying empties) (subst (λ (l : List Answer). get_or l i accepted ≡ accepted) run.answered answer)
  where
    go : (i : ℕ) → is_emptying (request (get_or during i [])).kind ≡ true → get_or during-answers i accepted ≡ accepted → ⊥
    go zero empties answer = absurd (false≢true empties)
    go (suc zero) empties answer = absurd (false≢true empties)
    go (suc (suc zero)) empties answer = absurd (false≢true empties)
    go (suc (suc (suc zero))) empties answer = absurd (false≢true empties)
    go (suc (suc (suc (suc zero)))) empties answer = absurd (false≢true empties)
    go (suc (suc (suc (suc (suc zero))))) empties answer = absurd (omega (arith, ap (λ (x : Answer). x.refusal) answer))
    go (suc (suc (suc (suc (suc (suc i)))))) empties answer = absurd (false≢true empties)

stays : StaysPut 0 1 begun.state (final begun (argument ∷ during)).state
unfolding request run final
stays = (shared-argument-stays before argument during).during_call run.shared never-empties never_ends
