-- What a request asks, and what it leaves in the buffers of a run, said of each state that they hold.
use Rattle.std.specs.Prelude.{ℕ, ◌≡◌, Bool, true, false, List}
use Rattle.definition.specs.Width.{Width}
use Rattle.definition.specs.Memory as definition
use Rattle.definition.specs.Frame.{State}
use Rattle.definition.specs.Request.{is_malformed}
use Rattle.definition.specs.Run.{IsWord, perform}
use Rattle.definition.specs.Valid.{All}
use Rattle.answer.specs.Answer.{answer_of}
use Rattle.answer.specs.declared.Answer.{Answer}
use Rattle.tables.specs.Encoding.{Buffers, encode}
use Rattle.tables.specs.Held.{Holds, Trees}
use Rattle.frames.specs.Buffer.{frames_held}
use Rattle.request.specs.declared.Kind.{Kind}
use Rattle.request.specs.declared.Kind.TheVariants.{Allocate, Deallocate, Load, Store, Retag, NewCall, EndCall, Dereferenceable, SignedDereferenceable, LeakCheck, Empty, Unused}
use Rattle.request.specs.declared.Request.{Request}
use Rattle.request.specs.Fields.{kind_of, request_of}

-- 2 was passed, but for the number of words; these are 32-bit words
pub record Formed (s : State) (q : Request) (following : List ℕ) : Type 0 where
  pub fine : is_malformed (kind_of q.kind) s (request_of q following) ≡ false
  pub words : All IsWord following

-- the definition's outcome, at a width, of a request with these words behind the fourth
abbrev pub outcome_of : Width → State → Request → List ℕ → definition.Answer × State
outcome_of w s q following = perform w (kind_of q.kind) s (request_of q following)

-- ---- requests to the memory alone
abbrev pub is_in_memory : Kind → Bool
is_in_memory Allocate = true
is_in_memory Deallocate = true
is_in_memory Load = true
is_in_memory Store = true
is_in_memory Retag = false
is_in_memory NewCall = false
is_in_memory EndCall = false
is_in_memory Dereferenceable = true
is_in_memory SignedDereferenceable = true
is_in_memory LeakCheck = true
is_in_memory Empty = false
is_in_memory Unused = true

-- such a request is asked of a memory that the buffers hold
pub record Asked (s : State) (q : Request) (following : List ℕ) (b : Buffers) : Type 0 where
  pub holds : Holds s.memory b
  pub formed : Formed s q following
  pub alone : is_in_memory q.kind ≡ true

-- the answer, and the memory
pub record LeftMemory (o : definition.Answer × State) (r : Answer) (b : Buffers) : Type 0 where
  pub answer : answer_of r b.words ≡ o.0
  pub memory : b ≡ encode o.1.memory

-- ---- all requests: the answer, the memory and the frames
pub record Left (o : definition.Answer × State) (r : Answer) (b : Buffers) (F : List ℕ) : Type 0 where
  pub answer : answer_of r b.words ≡ o.0
  pub memory : b ≡ encode o.1.memory
  pub frames : F ≡ frames_held o.1.frames

-- ---- requests to the trees and the frames; the words stay as they are
pub record LeftTrees (o : definition.Answer × State) (r : Answer) (A P R C F : List ℕ) : Type 0 where
  pub answers : (words : List ℕ) → answer_of r words ≡ o.0
  pub trees : Trees o.1.memory A P R C
  pub frames : F ≡ frames_held o.1.frames

-- ---- a new call: the answer, and the frames
pub record LeftFrames (o : definition.Answer × State) (r : Answer) (F : List ℕ) : Type 0 where
  pub answers : (words : List ℕ) → answer_of r words ≡ o.0
  pub frames : F ≡ frames_held o.1.frames
