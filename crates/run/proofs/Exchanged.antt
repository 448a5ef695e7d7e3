-- A list made from another by exchanges, or with an accepted load made again, leaves the same memory and frames in the buffers, number for number, and the same width; each
-- request has the same answer in its new place.
use Rattle.std.specs.Prelude.{if◌then◌else◌, Result, Ok, Err}
use Prim.Native.Nat.{ℕ}
use mathlib.Core.Path.{◌≡◌, refl, ap}
use mathlib.Core.Bool.{Bool, true, false}
use mathlib.Core.Option.{Option, none, some}
use mathlib.Core.List.{List}
use Rattle.definition.specs.Notation.{write_at}
use Rattle.definition.specs.Memory.{Answer}
use Rattle.definition.specs.Run.{RunState, start, answers, final}
use Rattle.definition.specs.Exchange.{Exchanged, exchange_all, AcceptedLoad, twice}
use Rattle.definition.proofs.Exchanges.{order-is-free}
use Rattle.tables.specs.Encoding.{Buffers, encode}
use Rattle.frames.specs.Buffer.{frames_held}
use Rattle.state.specs.Lengths.{have_lengths}
use Rattle.transcript.specs.Transcript.{transcript}
use Rattle.run.specs.Lists.{Lent, ran, answered, list_run}
use Rattle.pointer.specs.Width.{declared_width}
use Rattle.pointer.specs.declared.width.Width.{Width}
use Rattle.refusal.specs.declared.Refusal.{Refusal}
use Rattle.refusal.specs.declared.Refusal.TheVariants.{NotWellFormed}
use Rattle.run.specs.declared.Answered.{Answered}

-- the width that a reply tells
abbrev pub width_told : Result Answered Refusal → Option Width
width_told (Err refusal) = none
width_told (Ok a) = some a.width

-- what holds the memory, the frames and the width
abbrev pub held : Result Answered Refusal × Lent → (Buffers × List ℕ) × Option Width
held o = ((o.1.memory, o.1.frames), width_told o.0)

module _ (l : List (List ℕ)) (given : Lent) where
  -- lists with one end leave the same
  same_end : (other : List (List ℕ)) → final start other ≡ final start l → held (list_run other given) ≡ held (list_run l given)
  unfolding list_run ran
  same_end other e = by (have_lengths given.memory given.frames)
    where
      left : Bool → List (List ℕ) → (Buffers × List ℕ) × Option Width
      left t x = held (if t then answered (ran x given.answers) else (Err NotWellFormed, given))

      by : (t : Bool) → left t other ≡ left t l
      by true = ap (λ (r : RunState). ((encode r.state.memory, frames_held r.state.frames), some (declared_width r.width))) e
      by false = refl

  pub exchanged-held : (places : List ℕ) → Exchanged places l → held (list_run (exchange_all places l) given) ≡ held (list_run l given)
  exchanged-held places may = same_end (exchange_all places l) ((order-is-free start l).same_end places may)

  pub again-held : (n : ℕ) → AcceptedLoad start l n → held (list_run (twice n l) given) ≡ held (list_run l given)
  again-held n accepted = same_end (twice n l) ((order-is-free start l).again_end n accepted)

-- the first list's answers, exchanged as the requests were; and with the load's answer twice
module _ (l : List (List ℕ)) (before : List ℕ) where
  pub exchanged-answers : (places : List ℕ) → Exchanged places l
      → (ran (exchange_all places l) before).1.answers ≡ write_at 0 (transcript (exchange_all places (answers start l))) before
  unfolding ran
  exchanged-answers places may = ap (λ (x : List Answer). write_at 0 (transcript x) before) ((order-is-free start l).same_answers places may)

  pub again_answers : (n : ℕ) → AcceptedLoad start l n → (ran (twice n l) before).1.answers ≡ write_at 0 (transcript (twice n (answers start l))) before
  unfolding ran
  again_answers n accepted = ap (λ (x : List Answer). write_at 0 (transcript x) before) ((order-is-free start l).again_answers n accepted)
