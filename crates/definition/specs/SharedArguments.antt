-- "A shared argument stays put." (M-113): "take an accepted retag at function entry of a shared reference, and a freeze byte inside it. In any accepted
-- continuation without .. an emptying, up to the release of that node, the byte keeps its contents and the allocation stays live." It is "the promise that
-- compilers use": while a call lasts, the bytes behind its argument `&T`, outside of cells, are there and hold what they held at its start.
-- Proved (proofs/SharedArguments) in every state that a list of requests leaves of the empty memory, and in every well-formed one, whatever requests follow.
-- Refused ones may stand anywhere, as they change nothing.
use Rattle.std.specs.Prelude.{ℕ, ◌+◌, ◌<◌, ◌≡◌, Bool, true, false, ◌&&◌, List, [], ◌∷◌, eqb, length, get_or}
use Rattle.std.proofs.Math.Option.{some}
use Rattle.definition.specs.Notation.{any}
use Rattle.definition.specs.Permission.{SafePointer}
use Rattle.definition.specs.Layout.{FreezeMask, freeze_mask}
use Rattle.definition.specs.Memory.{Provenance, is_live, size, allocation_at, target, offset, accepted, gives_pointer}
use Rattle.definition.specs.Frame.{State, frame_at, entries}
use Rattle.definition.specs.Request.{request, pointer, function_entry, frame_number, safe_pointer}
use Rattle.definition.specs.Request.Kind.{Retag, EndCall, Empty}
use Rattle.definition.specs.Run.{RunState, turn, answers, final}

-- ---- "an accepted retag at function entry of a shared reference, and a freeze byte inside it": in the run r, by the words ws
pub record SharedArgument (r : RunState) (ws : List ℕ) : Type 0 where
  pub retag : (request ws).kind ≡ Retag
  pub shared : safe_pointer (request ws) ≡ SafePointer.SharedRef
  pub at_entry : function_entry (request ws) ≡ true
  -- the node that it makes
  pub made : Provenance
  pub accept : (turn r ws).0 ≡ gives_pointer (some made)
  -- the freeze mask has a place for each byte inside
  pub mask : FreezeMask
  pub masked : freeze_mask (request ws).following ≡ some mask
  pub place : ℕ
  pub inside : place < length mask
  pub freeze : get_or mask place false ≡ true

-- where that byte lies in its allocation
abbrev pub byte_of : {r : RunState} {ws : List ℕ} → SharedArgument r ws → ℕ
byte_of {r} {ws} x = offset (target r.state.memory (pointer (request ws))) (pointer (request ws)) + x.place

-- ---- "the byte keeps its contents and the allocation stays live": byte b of allocation n, after and before
pub record StaysPut (n b : ℕ) (before after : State) : Type 0 where
  pub live : is_live (allocation_at after.memory n).state ≡ true
  pub within : b < size (allocation_at after.memory n)
  pub contents : get_or (allocation_at after.memory n).words b 0 ≡ get_or (allocation_at before.memory n).words b 0

-- ---- "up to the release of that node": until then it is an entry of a frame
abbrev pub is_same : Provenance → Provenance → Bool
is_same e t = eqb e.allocation t.allocation && eqb e.node t.node

pub record IsEntered (e : Provenance) (s : State) : Type 0 where
  pub frame : ℕ
  pub entered : any (is_same e) (entries (frame_at s frame)) ≡ true

-- the words ask for the end of frame f's call
pub record AsksToEnd (f : ℕ) (ws : List ℕ) : Type 0 where
  pub kind : (request ws).kind ≡ EndCall
  pub frame : (request ws).fourth ≡ f

-- of the requests wss none does so and is accepted. Behind the last stand no words, which ask for nothing
abbrev pub NeverEnds : ℕ → RunState → List (List ℕ) → Type 0
NeverEnds f r wss = (i : ℕ) → AsksToEnd f (get_or wss i []) → get_or (answers r wss) i accepted ≡ accepted → ⊥

-- ---- "without .. an emptying": none of them is accepted
abbrev pub NeverEmpties : RunState → List (List ℕ) → Type 0
NeverEmpties r wss = (i : ℕ) → (request (get_or wss i [])).kind ≡ Empty → get_or (answers r wss) i accepted ≡ accepted → ⊥

-- ---- the claim: of the words ws in the run r, and the requests wss that follow
pub record SharedArgumentStays (r : RunState) (ws : List ℕ) (wss : List (List ℕ)) : Type 0 where
  -- as long as its node is entered in a frame
  pub while_entered : (x : SharedArgument r ws) → NeverEmpties (turn r ws).1 wss → IsEntered x.made (final r (ws ∷ wss)).state
      → StaysPut x.made.allocation (byte_of x) r.state (final r (ws ∷ wss)).state
  -- so in the whole call
  pub during_call : (x : SharedArgument r ws) → NeverEmpties (turn r ws).1 wss → NeverEnds (frame_number (request ws)) (turn r ws).1 wss
      → StaysPut x.made.allocation (byte_of x) r.state (final r (ws ∷ wss)).state
