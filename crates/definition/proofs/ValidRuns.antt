-- Every request of 32-bit words keeps a run's state well formed, at its width: so is whatever a run, and the program, comes to.
use Prim.Native.Nat.{ℕ, zero, suc, ◌+◌, ◌%◌, ◌≤◌, ◌<◌}
use mathlib.Core.Path.{◌≡◌, refl}
use mathlib.Core.Bool.{Bool, true, false, not, ◌||◌}
use mathlib.Core.Option.{Option, none, some}
use mathlib.Core.List.{List, [], ◌∷◌}
use native.Mathlib.Omega.{arith}
use lib.Dec.{eqb, ltb}
use borrow.Author.Tests.{ltb-false}
use lib.ListN.{length, take, drop}
use Rattle.definition.specs.Notation.{any, sum_of}
use Rattle.definition.specs.Refusal.{malformed}
use Rattle.definition.specs.Width.{Width}
use Rattle.definition.specs.Layout.{FreezeMask, freeze_mask}
use Rattle.definition.specs.Memory.{Memory, Answer, refused_with, perform_access, allocate, deallocate, dereferenceable, leak_check}
use Rattle.definition.specs.Frame.{State, frame_count, empty, in_memory, new_call, end_call}
use Rattle.definition.specs.Frame.Frame.{Closed}
use Rattle.definition.specs.Retag.{retag_without_node}
use Rattle.definition.specs.Request.{Kind, Request, request, following_length, pointer, allocation_kind, frame_number, safe_pointer, protector_of, freeze, adds_no_node, settings_of, load_of, store_of, is_miscounted, is_malformed, is_too_big, any_name, stray_name, nonzero, bad_exponent, bad_allocation_kind, bad_byte}
use Rattle.definition.specs.Request.Kind.{Allocate, Deallocate, Load, Store, Retag, NewCall, EndCall, Dereferenceable, SignedDereferenceable, LeakCheck, Empty, Unused}
use Rattle.definition.specs.Run.{retag_with_mask, perform_retag, perform, step, RunState, start, turn, IsWord, answers, final, words_of, rest_request, taken_length, cut_requests, requests_of, performed_count, program}
use Rattle.definition.specs.Valid.{All, ValidByte, Valid, ValidFrame, ValidState, ValidRun}
use Rattle.definition.proofs.Booleans.{or-neither}
use Rattle.definition.proofs.Alls.{if-holds, all_both, all_replicate, all_take, all_drop, none_pass}
use Rattle.definition.proofs.ValidTrees.{settings-agree}
use Rattle.definition.proofs.ValidMemory.{MemoryKept, load-store-kept, allocate-kept, deallocate-kept}
use Rattle.definition.proofs.NarrowRuns.{narrow-turn}
use Rattle.definition.proofs.ValidFrames.{StateKept, valid-after, unchanged, in-memory-kept, closed-valid, new-call-kept, end-call-kept, retag-without-node-kept, retag-kept}

-- ---- the empty state
pub valid-empty : ValidState empty
unfolding sum_of
valid-empty =
    record {
      memory = record { each = tt; separate = tt; bounded = record { allocations = omega arith; words = omega arith; nodes = omega arith; codes = omega arith } };
      count = refl;
      frames = all_replicate (ValidFrame []) frame_count Closed (closed-valid []);
    }

-- ---- one request
memory-after : (s : State) (outcome : Answer × Memory) → MemoryKept s.memory outcome.1 → ValidState s → ValidState (in_memory s outcome).1
memory-after s outcome kept v = valid-after s (in_memory s outcome).1 (in-memory-kept s outcome kept) v

retag-with-mask-kept : (mask : Option FreezeMask) (s : State) (q : Request) → Valid s.memory → StateKept s (retag_with_mask mask s q).1
unfolding retag_with_mask
retag-with-mask-kept none s q v = unchanged s v
retag-with-mask-kept (some mask) s q v =
    retag-kept (settings_of q mask) (settings-agree (safe_pointer q) (protector_of q) mask (freeze q)) (frame_number q) (pointer q) s v

perform-valid : (w : Width) (k : Kind) (s : State) (q : Request) → All IsWord q.following → is_malformed k s q ≡ false → ValidState s → ValidState (perform w k s q).1
unfolding perform is_malformed
perform-valid w Allocate s q ws e v =
    let fields = or-neither (any_name q || bad_exponent q) (bad_allocation_kind q) e in
    let exponent : q.exponent ≤ 29 = ltb-false 29 q.exponent (or-neither (any_name q) (bad_exponent q) fields.0).1 in
    memory-after s (allocate w (allocation_kind q) q.fourth q.exponent q.address s.memory)
    (allocate-kept w (allocation_kind q) q.fourth q.exponent q.address exponent s.memory v.memory) v
perform-valid w Deallocate s q ws e v =
    memory-after s (deallocate (pointer q) (allocation_kind q) q.fourth q.exponent s.memory)
    (deallocate-kept (pointer q) (allocation_kind q) q.fourth q.exponent s.memory v.memory) v
perform-valid w Load s q ws e v = memory-after s (perform_access (load_of q) s.memory) (load-store-kept (load_of q) tt s.memory v.memory) v
perform-valid w Store s q ws e v =
    let fields = or-neither (stray_name q || bad_exponent q || nonzero q.extra) (any bad_byte q.following) e in
    let bytes : All ValidByte q.following = all_both IsWord (λ w. bad_byte w ≡ false) ValidByte (λ w word good. record { word = word; well_formed = good }) q.following ws (none_pass bad_byte q.following fields.1) in
    memory-after s (perform_access (store_of q) s.memory) (load-store-kept (store_of q) bytes s.memory v.memory) v
perform-valid w Retag s q ws e v =
    unfold perform_retag in
    if-holds (λ (o : Answer × State). ValidState o.1) (adds_no_node q) (retag_without_node (pointer q) s) (retag_with_mask (freeze_mask q.following) s q)
    (λ b. valid-after s (retag_without_node (pointer q) s).1 (retag-without-node-kept (pointer q) s v.memory) v)
    (λ b. valid-after s (retag_with_mask (freeze_mask q.following) s q).1 (retag-with-mask-kept (freeze_mask q.following) s q v.memory) v)
perform-valid w NewCall s q ws e v = valid-after s (new_call q.fourth s).1 (new-call-kept q.fourth s v.memory) v
perform-valid w EndCall s q ws e v = valid-after s (end_call q.fourth s).1 (end-call-kept q.fourth s v.memory) v
perform-valid w Dereferenceable s q ws e v = unfold dereferenceable in v
perform-valid w SignedDereferenceable s q ws e v = unfold dereferenceable in v
perform-valid w LeakCheck s q ws e v = unfold leak_check in v
perform-valid w Empty s q ws e v = valid-empty
perform-valid w Unused s q ws e v = v

following-words : (ws : List ℕ) → All IsWord ws → All IsWord (request ws).following
unfolding request
following-words ws h = all_drop IsWord 4 ws h

pub valid-step : (w : Width) (s : State) (ws : List ℕ) → All IsWord ws → ValidState s → ValidState (step w s ws).1
unfolding step
valid-step w s ws h v =
    let q : Request = request ws in
    let tests : Bool = is_miscounted ws || is_malformed q.kind s q in
    if-holds (λ (o : Answer × State). ValidState o.1) (tests || is_too_big w q) (refused_with malformed, s) (perform w q.kind s q) (λ e. v)
    (λ e. perform-valid w q.kind s q (following-words ws h) (or-neither (is_miscounted ws) (is_malformed q.kind s q) (or-neither tests (is_too_big w q) e).0).1 v)

-- ---- a list of requests
pub valid-start : ValidRun start
valid-start = record { state = valid-empty; narrow = tt }

pub valid-turn : (r : RunState) (ws : List ℕ) → All IsWord ws → ValidRun r → ValidRun (turn r ws).1
unfolding turn
valid-turn r ws h v = record { state = valid-step r.width r.state ws h v.state; narrow = narrow-turn r ws v.narrow }

pub valid-run : (r : RunState) (wss : List (List ℕ)) → All (All IsWord) wss → ValidRun r → ValidRun (final r wss)
unfolding final
valid-run r [] h v = v
valid-run r (ws ∷ wss) h v = valid-run (turn r ws).1 wss h.1 (valid-turn r ws h.0 v)

-- ---- the program: its words are of 32 bits
abbrev pub IsByte : ℕ → Type 0
IsByte b = b < 256

pub words-of-bytes : (bytes : List ℕ) → All IsByte bytes → All IsWord (words_of bytes)
unfolding words_of
words-of-bytes [] h = tt
words-of-bytes (a ∷ []) h = tt
words-of-bytes (a ∷ b ∷ []) h = tt
words-of-bytes (a ∷ b ∷ c ∷ []) h = tt
words-of-bytes (a ∷ b ∷ c ∷ d ∷ bytes) h = (omega (arith, h.0, h.1.0, h.1.1.0, h.1.1.1.0), words-of-bytes bytes h.1.1.1.1)

rest-words : (rest : Bool) → All (All IsWord) (rest_request rest)
rest-words true = (tt, tt)
rest-words false = tt

pub cut-requests-words : (most : ℕ) (rest : Bool) (ws : List ℕ) → All IsWord ws → All (All IsWord) (cut_requests most rest ws)
unfolding cut_requests
cut-requests-words zero rest ws h = rest-words rest
cut-requests-words (suc most) rest [] h = rest-words rest
cut-requests-words (suc most) rest (w ∷ ws) h =
    let n : ℕ = 4 + taken_length (following_length (request (w ∷ ws))) in
    if-holds (All (All IsWord)) (ltb (length (w ∷ ws)) n) ((w ∷ ws) ∷ []) (take n (w ∷ ws) ∷ cut_requests most rest (drop n (w ∷ ws)))
    (λ e. (h, tt))
    (λ e. (all_take IsWord n (w ∷ ws) h, cut-requests-words most rest (drop n (w ∷ ws)) (all_drop IsWord n (w ∷ ws) h)))

pub requests-of-bytes : (bytes : List ℕ) → All IsByte bytes → All (All IsWord) (requests_of bytes)
unfolding requests_of
requests-of-bytes bytes h =
    cut-requests-words (length (words_of bytes)) (not (eqb (length bytes % 4) 0)) (words_of bytes) (words-of-bytes bytes h)

pub valid-program : (bytes : List ℕ) → All IsByte bytes → ValidRun (program bytes).1
unfolding program
valid-program bytes h =
    let wss : List (List ℕ) = requests_of bytes in
    let n : ℕ = performed_count (answers start wss) in
    valid-run start (take n wss) (all_take (All IsWord) n wss (requests-of-bytes bytes h)) valid-start
