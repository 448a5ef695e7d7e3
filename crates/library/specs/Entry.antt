-- What an entry comes to, for whatever reaches it: 1, then 2, then the request on the memory that the lent buffers hold. The width is a number of bits.
-- proofs/Served.antt: `well_formed_at width b` is true exactly where some valid memory at that width encodes to b, and that memory is `view b`.
use Rattle.std.specs.Prelude.{ℕ, ◌≡◌, Bool, not, if◌then◌else◌}
use Rattle.definition.specs.Notation.{◌when◌, ◌or◌}
use Rattle.definition.specs.Refusal.{not_well_formed, malformed}
use Rattle.definition.specs.Memory.{Memory, MemoryAccess, unless_refused}
use Rattle.definition.specs.Memory as definition
use Rattle.answer.specs.Answer.{Gives, replied}
use Rattle.answer.specs.declared.Answer.{Answer}
use Rattle.answer.specs.declared.Answer.TheVariants.{Refused}
use Rattle.tables.specs.Encoding.{Buffers, encode}
use Rattle.tables.specs.Decoding.{view}
use Rattle.wellformed.specs.AtWidth.{well_formed_at}
use Rattle.memory.specs.Access.{words_given}

-- an outcome, with its memory as the five buffers hold it
abbrev pub encoded : definition.Answer × Memory → definition.Answer × Buffers
encoded outcome = (outcome.0, encode outcome.1)

-- the answer and the buffers afterwards; `bad` says that a field falls under 2
unfoldable pub served : ℕ → Bool → (Memory → definition.Answer × Memory) → Buffers → definition.Answer × Buffers
served width bad request b =
    unless_refused (not_well_formed when not (well_formed_at width b) or malformed when bad) b (encoded (request (view b)))

-- an entry's promise: it answers r and leaves b'; what it gives where it is accepted
abbrev pub Served : ℕ → Gives → Bool → (Memory → definition.Answer × Memory) → Buffers → Answer → Buffers → Type 0
Served width gives bad request b r b' = ◌≡◌ {A = Answer × Buffers} (r, b') (replied gives (served width bad request b))

-- what a load gives, on lent buffers: the part of their words where the pointer points (proofs/Loads.antt: it holds the definition's loaded words)
abbrev pub given_by : MemoryAccess → Buffers → Gives
given_by x b = words_given x (view b)

-- the answer where a field falls under 2, if 1 was passed
unfoldable pub malformed_answer : ℕ → Buffers → Answer
malformed_answer width b = if well_formed_at width b then Refused malformed else Refused not_well_formed
