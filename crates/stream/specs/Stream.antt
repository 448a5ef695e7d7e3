-- A run by its bytes, request by request. Document 01: "A run and its requests".
use Rattle.std.specs.Prelude.{ℕ, ◌+◌, ◌*◌, ◌^◌, ◌≤◌, ◌≡◌, List, ◌++◌, length, take, drop}
use Rattle.definition.specs.Memory.{Answer}
use Rattle.definition.specs.Request.{request, following_length}
use Rattle.request.specs.declared.Request as code
use Rattle.request.specs.Fields.{request_of}
use Rattle.stream.specs.declared.Cut.{Cut}
use Rattle.definition.specs.Run.{words_of, taken_length, requests_of, performed_count, RunState, answers, run}

-- "words are .. stored most significant byte first"
abbrev pub word_from : ℕ → ℕ → ℕ → ℕ → ℕ
word_from a b c d = a * 2 ^ 24 + b * 2 ^ 16 + c * 2 ^ 8 + d

-- the n words of the bytes stand in front, and behind them what stood there
pub record WordsRead (bytes before : List ℕ) (n : ℕ) (after : List ℕ) : Type 0 where
  pub words : take n after ≡ words_of bytes
  pub count : n ≡ length (words_of bytes)
  pub rest : drop n after ≡ drop n before

-- how many bytes the program takes as the next request, by those at hand
unfoldable pub request_size : List ℕ → ℕ
request_size bytes = 16 + 4 * taken_length (following_length (request (words_of bytes)))

-- the fields are those of every request that begins with the first four words of the bytes
abbrev pub HeadOf : List ℕ → code.Request → Type 0
HeadOf bytes q = (ws : List ℕ) → take 4 ws ≡ take 4 (words_of bytes) → request_of q (drop 4 ws) ≡ request ws

pub record CutOf (bytes : List ℕ) (r : Cut) : Type 0 where
  pub size : r.size ≡ request_size bytes
  pub fields : 16 ≤ length bytes → HeadOf bytes r.fields

-- the next request: the words of these bytes, fewer where the input ends inside it
abbrev pub next_request : List ℕ → List ℕ
next_request bytes = words_of (take (request_size bytes) bytes)

-- n bytes from a place on stand in front, and behind them what stood there
abbrev pub moved : ℕ → ℕ → List ℕ → List ℕ
moved from n bytes = take n (drop from bytes) ++ drop n bytes

-- the definition's `program`, from any state of a run: the bytes that are left when it has come to r
unfoldable pub program_from : RunState → List ℕ → List Answer × RunState
program_from r bytes = let wss = requests_of bytes in run r (take (performed_count (answers r wss)) wss)
