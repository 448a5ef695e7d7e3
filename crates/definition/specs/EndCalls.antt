-- "Ending a call is never undefined." (M-109): "in an accepted run from the empty memory, where only its requests change memory, names and frames, an open
-- frame's end call .. is accepted". For whoever writes a library: returning from a function cannot itself be the fault.
-- Proved (proofs/EndCalls) of every list of requests from the empty memory. Refused ones may stand in it, as they change nothing; an accepted run is one such
-- list. An emptying (M-110) closes every frame, so that there is none to end; those that are opened behind it are in the claim, at each width.
-- "Frames written by a caller stay under 16 to 23 and 26 to 28.": these are lent to the library, and no list of requests leaves them.
use Rattle.std.specs.Prelude.{ℕ, ◌*◌, ◌^◌, ◌≡◌, true, ◌⊎◌, List, [], ◌∷◌, get_or}
use Rattle.definition.specs.Refusal.{malformed, not_protected}
use Rattle.definition.specs.Memory.{Answer, refused_with, accepted}
use Rattle.definition.specs.Frame.{frame_at, is_open}
use Rattle.definition.specs.Request.{request}
use Rattle.definition.specs.Request.Kind.{EndCall}
use Rattle.definition.specs.Run.{RunState, turn, answers}

-- the words of an end call of frame f: kind 6, and the frame in the fourth word
abbrev pub end_call_words : ℕ → List ℕ
end_call_words f = 6 * 2 ^ 28 ∷ 0 ∷ 0 ∷ f ∷ []

-- in a run: "an open frame's end call .. is accepted"
abbrev pub EndCallsAccepted : RunState → Type 0
EndCallsAccepted r = (f : ℕ) → is_open (frame_at r.state f) ≡ true → (turn r (end_call_words f)).0 ≡ accepted

-- an answer that does not blame the end of a call: it is accepted, or its words are malformed (2), as where no such frame is open
abbrev pub Blameless : Answer → Type 0
Blameless a = (a ≡ accepted) ⊎ (a ≡ refused_with malformed)

-- of a list: whatever words ask for the end of a call, so they are answered. No verdict is a refusal there for another reason.
-- In place of an answer that is missing stands a 16, which is not blameless
abbrev pub EndCallsBlameless : RunState → List (List ℕ) → Type 0
EndCallsBlameless r wss = (i : ℕ) → (request (get_or wss i [])).kind ≡ EndCall → Blameless (get_or (answers r wss) i (refused_with not_protected))
