-- One request, a run of them, and the program's. Document 01: "A run and its requests", "Lists whose order may change"; document 02, M-110.
use Rattle.std.specs.Prelude.{ℕ, zero, suc, ◌+◌, ◌*◌, ◌%◌, ◌^◌, ◌<◌, Bool, true, false, not, ◌||◌, List, [], ◌∷◌, eqb, ltb, length, take, drop, if◌then◌else◌}
use Rattle.std.proofs.Math.Option.{Option, none, some}
use Rattle.definition.specs.Refusal.{malformed, without_mask}
use Rattle.definition.specs.Width.{Width}
use Rattle.definition.specs.Width.Width.{Bits64}
use Rattle.definition.specs.Layout.{FreezeMask, freeze_mask}
use Rattle.definition.specs.Memory.{Answer, refused_with, accepted, perform_access, allocate, deallocate, dereferenceable, leak_check}
use Rattle.definition.specs.Frame.{State, empty, in_memory, new_call, end_call}
use Rattle.definition.specs.Retag.{retag_without_node, retag}
use Rattle.definition.specs.Request.{Kind, Request, request, following_length, pointer, allocation_kind, chosen_width, frame_number, adds_no_node, settings_of, load_of, store_of, bytes_back, bytes_ahead, is_miscounted, is_malformed, is_too_big}
use Rattle.definition.specs.Request.Kind.{Allocate, Deallocate, Load, Store, Retag, NewCall, EndCall, Dereferenceable, SignedDereferenceable, LeakCheck, Empty, Unused}

-- ---- one request
-- a retag that adds a node, if its layout has a mask
unfoldable pub retag_with_mask : Option FreezeMask → State → Request → Answer × State
retag_with_mask none s q = (refused_with without_mask, s)
retag_with_mask (some mask) s q = retag (settings_of q mask) (frame_number q) (pointer q) s

unfoldable pub perform_retag : State → Request → Answer × State
perform_retag s q = if adds_no_node q then retag_without_node (pointer q) s else retag_with_mask (freeze_mask q.following) s q

-- a request that is well formed, at a width
unfoldable pub perform : Width → Kind → State → Request → Answer × State
perform w Allocate s q = in_memory s (allocate w (allocation_kind q) q.fourth q.exponent q.address s.memory)
perform w Deallocate s q = in_memory s (deallocate (pointer q) (allocation_kind q) q.fourth q.exponent s.memory)
perform w Load s q = in_memory s (perform_access (load_of q) s.memory)
perform w Store s q = in_memory s (perform_access (store_of q) s.memory)
perform w Retag s q = perform_retag s q
perform w NewCall s q = new_call q.fourth s
perform w EndCall s q = end_call q.fourth s
perform w Dereferenceable s q = in_memory s (dereferenceable (pointer q) 0 q.fourth s.memory)
perform w SignedDereferenceable s q =
    in_memory s (dereferenceable (pointer q) (bytes_back q.fourth) (bytes_ahead q.fourth) s.memory)
perform w LeakCheck s q = in_memory s (leak_check s.memory)
-- M-110: "kind 15 empties the memory, .. closes all frames"
perform w Empty s q = (accepted, empty)
perform w Unused s q = (refused_with malformed, s)

-- 2: the words are too few or too many, a field is outside its list, or an address or position is too big for the width
abbrev pub is_refused : Width → State → List ℕ → Bool
is_refused w s ws = let q = request ws in is_miscounted ws || is_malformed q.kind s q || is_too_big w q

-- one request, given by its words, at a width: its answer, and the memory and frames that it leaves
unfoldable pub step : Width → State → List ℕ → Answer × State
step w s ws =
    let q = request ws in
    if is_refused w s ws then (refused_with malformed, s) else perform w q.kind s q

-- ---- a run: memory and frames, and the width that is "kept with" them
pub record RunState : Type 0 where
  pub state : State
  pub width : Width

-- "A run starts at 64"
abbrev pub start : RunState
start = record { state = empty; width = Bits64 }

-- the width afterwards: an accepted emptying chooses it, and every other request keeps it
abbrev pub width_by : Kind → Request → Width → Width
width_by Allocate q w = w
width_by Deallocate q w = w
width_by Load q w = w
width_by Store q w = w
width_by Retag q w = w
width_by NewCall q w = w
width_by EndCall q w = w
width_by Dereferenceable q w = w
width_by SignedDereferenceable q w = w
width_by LeakCheck q w = w
width_by Empty q w = chosen_width q
width_by Unused q w = w

unfoldable pub width_after : Answer → Request → Width → Width
width_after a q w = if eqb a.refusal 0 then width_by q.kind q w else w

-- one request of any kind: its answer, and what is left of the run
unfoldable pub turn : RunState → List ℕ → Answer × RunState
turn r ws =
    let outcome = step r.width r.state ws in
    (outcome.0, record { state = outcome.1; width = width_after outcome.0 (request ws) r.width })

-- "words are 32 bits": those of a run are below 2^32. `step` answers whatever the numbers; a law that needs the bound asks for it (decision 54)
abbrev pub IsWord : ℕ → Type 0
IsWord w = w < 2 ^ 32

-- ---- a list of requests, each by its words: it "goes on after a refusal"
unfoldable pub answers : RunState → List (List ℕ) → List Answer
answers r [] = []
answers r (ws ∷ wss) = (turn r ws).0 ∷ answers (turn r ws).1 wss

unfoldable pub final : RunState → List (List ℕ) → RunState
final r [] = r
final r (ws ∷ wss) = final (turn r ws).1 wss

abbrev pub run : RunState → List (List ℕ) → List Answer × RunState
run r wss = (answers r wss, final r wss)

-- ---- the program's run, given by its bytes
-- words are "stored most significant byte first"; one to three bytes at the end make none
unfoldable pub words_of : List ℕ → List ℕ
words_of [] = []
words_of (a ∷ []) = []
words_of (a ∷ b ∷ []) = []
words_of (a ∷ b ∷ c ∷ []) = []
words_of (a ∷ b ∷ c ∷ d ∷ bytes) = (a * 2 ^ 24 + b * 2 ^ 16 + c * 2 ^ 8 + d) ∷ words_of bytes

-- "Input that ends inside a request": one to three bytes behind the last whole request are a request without words, which no kind has, and so is
-- refused with 2 (decisions 13 and 53)
abbrev pub rest_request : Bool → List (List ℕ)
rest_request true = [] ∷ []
rest_request false = []

-- how many words the program takes behind the fourth. "so does, in the program, a store or retag with more than 4,096 words after its fourth": of these
-- it takes none, so that the request is one that is cut short, and falls under 2 (decision 15)
abbrev pub taken_length : ℕ → ℕ
taken_length n = if ltb 4096 n then 0 else n

-- the requests of a run's words, each with its own; the last may be cut short. `rest`: bytes are left behind the words. There are no more requests than words
unfoldable pub cut_requests : ℕ → Bool → List ℕ → List (List ℕ)
cut_requests zero rest ws = rest_request rest
cut_requests (suc most) rest [] = rest_request rest
cut_requests (suc most) rest (w ∷ ws) =
    let n = 4 + taken_length (following_length (request (w ∷ ws))) in
    if ltb (length (w ∷ ws)) n then (w ∷ ws) ∷ []
    else take n (w ∷ ws) ∷ cut_requests most rest (drop n (w ∷ ws))

unfoldable pub requests_of : List ℕ → List (List ℕ)
requests_of bytes = let ws = words_of bytes in cut_requests (length ws) (not (eqb (length bytes % 4) 0)) ws

-- how many requests the program performs: it "stops after the first refusal"
unfoldable pub performed_count : List Answer → ℕ
performed_count [] = 0
performed_count (a ∷ rest) = suc (if eqb a.refusal 0 then performed_count rest else 0)

unfoldable pub program : List ℕ → List Answer × RunState
program bytes = let wss = requests_of bytes in run start (take (performed_count (answers start wss)) wss)
