-- What the inner functions of a retag leave.
use Rattle.std.specs.Prelude as std
use Rattle.std.specs.Prelude.{ℕ, ◌+◌, ◌≡◌, Bool, true, false, List, if◌then◌else◌}
use Rattle.std.proofs.Math.Option.{Option, none}
use Rattle.definition.specs.Refusal.{not_well_formed, malformed}
use Rattle.definition.specs.Memory as definition
use Rattle.definition.specs.Frame.{State}
use Rattle.pointer.specs.declared.Provenance.{Provenance}
use Rattle.std.specs.Prelude.{None, Some}
use Rattle.answer.specs.Answer.{answer_of, reply_to}
use Rattle.answer.specs.Answer.Gives.{ThePointer}
use Rattle.answer.specs.declared.Answer.{Answer}
use Rattle.answer.specs.declared.Answer.TheVariants.{Refused}
use Rattle.tables.specs.Encoding.{Buffers}
use Rattle.tables.specs.Held.{Trees}
use Rattle.frames.specs.List.{no_entry}
use Rattle.library_frames.specs.declared.retags.RetagOutcome.{RetagOutcome}
use Rattle.library_frames.specs.Retag.{is_lent}

-- an outcome of the definition: the answer for it, what that stands for, and its memory in all buffers but the words
pub record Performed (outcome : definition.Answer × State) (answer : Answer) (A P R C : List ℕ) : Type 0 where
  pub reply : answer ≡ reply_to ThePointer outcome.0
  pub answers : (words : List ℕ) → answer_of answer words ≡ outcome.0
  pub trees : Trees outcome.1.memory A P R C

-- the node that is entered in the frame: that of the pointer which is given, under a protector
abbrev pub entered_node : Bool → Option definition.Provenance → Option definition.Provenance
entered_node true given = given
entered_node false given = none

-- the outcome: with so many places, of which so many are taken
abbrev pub outcome_of : Answer → std.Option Provenance → ℕ → ℕ → RetagOutcome
outcome_of answer None count places = record { answer = record { answer = answer; count = count }; at = places; entry = no_entry }
outcome_of answer (Some t) count places =
    record { answer = record { answer = answer; count = count + 1 }; at = count; entry = record { allocation = t.allocation; node = t.node } }

-- the outcome where a field falls under 2, if 1 was passed
abbrev pub malformed_outcome : (width len count : ℕ) → Buffers → RetagOutcome
malformed_outcome width len count b = outcome_of (if is_lent width len count b then Refused malformed else Refused not_well_formed) None count len
