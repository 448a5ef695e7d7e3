-- How the program goes on: what is at hand between two turns, and what reading and writing leave of it.
use Rattle.std.specs.Prelude.{ℕ, ◌-◌, ◌≤◌, ◌≡◌, Bool, not, ◌&&◌, ◌||◌, List, ◌++◌, eqb, ltb, length, take, drop, if◌then◌else◌}
use Rattle.stream.specs.Stream.{request_size}
use Rattle.judge.specs.declared.Advance.{Advance}
use Rattle.verdict.specs.declared.Progress.{Progress}

-- of a request of `size` bytes fewer are at hand, and more may come
abbrev pub lacks_some : ℕ → ℕ → Bool → Bool
lacks_some size hand ended = ltb hand size && not ended

-- the bytes at hand do not hold the next request whole, and more may come
abbrev pub lacks : List ℕ → Bool → Bool
lacks bytes ended = lacks_some (request_size bytes) (length bytes) ended

-- the program goes on: no request was refused, and there may be another one
abbrev pub goes_on : Progress → Bool
goes_on p = not p.advance.refused && (not p.ended || ltb p.advance.from p.end)

-- the bytes at hand that are not yet performed
abbrev pub at_hand : Progress → List ℕ → List ℕ
at_hand p input = take (p.end - p.advance.from) (drop p.advance.from input)

-- the text at hand that is not yet written
abbrev pub text_at_hand : Progress → List ℕ → List ℕ
text_at_hand p out = take p.advance.at out

-- more text than this is written before the next turn
abbrev pub most_text : ℕ
most_text = 0xf000

pub record Ready (p : Progress) (input : List ℕ) : Type 0 where
  pub ordered : p.advance.from ≤ p.end
  pub filled : p.end ≤ length input
  pub short : p.advance.at ≤ most_text

-- ---- reading
-- behind the bytes at hand stand new ones, and none where the input has ended; the text at hand is written
pub record HasRead (p : Progress) (input : List ℕ) (r : Progress) (input' : List ℕ) : Type 0 where
  pub new : List ℕ
  pub hand : at_hand r input' ≡ at_hand p input ++ new
  pub advance : r.advance ≡ record { from = 0; at = 0; index = p.advance.index; refused = p.advance.refused }
  pub filled : r.end ≤ length input'
  pub told : r.ended ≡ eqb (length new) 0

-- ---- writing
abbrev pub is_long : Advance → Bool
is_long next = ltb most_text next.at

-- with the text up to another place
abbrev pub with_text : ℕ → Advance → Advance
with_text n a = record { from = a.from; at = n; index = a.index; refused = a.refused }

-- a long text is written, and then none is at hand
abbrev pub flushed_as : Progress → Advance → Progress
flushed_as p next = record { advance = if is_long next then with_text 0 next else next; end = p.end; ended = p.ended }

-- the text at hand goes up to another place
abbrev pub with_text_to : ℕ → Progress → Progress
with_text_to n p = record { advance = with_text n p.advance; end = p.end; ended = p.ended }
