-- An end call on what is lent, whatever it is: 1, and then the end call of the memory that the buffers hold.
use Rattle.std.specs.Prelude.{ℕ, ◌≡◌, Bool, ◌&&◌, List, eqb, length, replicate, if◌then◌else◌}
use Rattle.definition.specs.Refusal.{not_well_formed}
use Rattle.definition.specs.Memory.{Provenance, refused_with}
use Rattle.definition.specs.Frame.{end_call_refusal}
use Rattle.answer.specs.Answer.{reply_to}
use Rattle.answer.specs.Answer.Gives.{Nothing}
use Rattle.answer.specs.declared.Answer.{Answer}
use Rattle.answer.specs.declared.Answer.TheVariants.{Refused}
use Rattle.tables.specs.Encoding.{Buffers, encode}
use Rattle.tables.specs.Decoding.{view}
use Rattle.end_call.specs.Release.{after_end_call}
use Rattle.library_frames.specs.Retag.{is_lent}

-- what a retag is lent, and a working area of 32,768 bytes
abbrev pub is_lent_with_area : (width places count : ℕ) → List ℕ → Buffers → Bool
is_lent_with_area width places count area b = is_lent width places count b && eqb (length area) 32768

-- the answer, and the buffers and the area afterwards: `places` are lent for the entries, the first `count` of them are es.
-- 1 changes nothing; else the area is zero, whatever it held and whatever the answer
unfoldable pub ended : (width places count : ℕ) → List Provenance → Buffers → List ℕ → Answer × (Buffers × List ℕ)
ended width places count es b area =
    if is_lent_with_area width places count area b
    then (reply_to Nothing (refused_with (end_call_refusal (view b) es)), (encode (after_end_call (view b) es), replicate 32768 0))
    else (Refused not_well_formed, (b, area))

-- the entry's promise: it answers `answer`, and leaves b' and area'
abbrev pub EndedLent : (width places count : ℕ) → List Provenance → Buffers → List ℕ → Answer → Buffers → List ℕ → Type 0
EndedLent width places count es b area answer b' area' = ◌≡◌ {A = Answer × (Buffers × List ℕ)} (answer, (b', area')) (ended width places count es b area)
