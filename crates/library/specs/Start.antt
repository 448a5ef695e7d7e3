-- What a memory and a call start from, on what is lent: 1 for another length, or for a number that is no width, and nothing changes. mem.rs: `new`, `new_call`.
use Rattle.std.specs.Prelude.{ℕ, ◌&&◌, List, [], ◌∷◌, eqb, length, replicate, if◌then◌else◌}
use Rattle.definition.specs.Refusal.{not_well_formed}
use Rattle.definition.specs.Frame.{empty}
use Rattle.definition.specs.Retag.{entry_bound}
use Rattle.answer.specs.declared.Answer.{Answer}
use Rattle.answer.specs.declared.Answer.TheVariants.{Refused, Accepted}
use Rattle.pointer.specs.Width.{is_width}
use Rattle.tables.specs.Encoding.{Buffers, encode}
use Rattle.state.specs.Lengths.{have_memory_lengths}

-- ---- a memory
-- "no allocation made"
unfoldable pub renewed : ℕ → Buffers → Answer × Buffers
renewed width b = if is_width width && have_memory_lengths b then (Accepted, encode empty.memory) else (Refused not_well_formed, b)

-- ---- a frame, whose places are lent as two numbers each: allocation and node
abbrev pub no_place : List ℕ
no_place = 0 ∷ 0 ∷ []

-- none of the places is taken
unfoldable pub opened : List (List ℕ) → Answer × List (List ℕ)
opened places =
    if eqb (length places) entry_bound then (Accepted, replicate entry_bound no_place) else (Refused not_well_formed, places)
