-- Pointers, settings and answers as the numbers that cross the C interface, in the terms of the definition and of `answer`.
use Rattle.std.specs.Prelude as std
use Rattle.std.specs.Prelude.{ℕ, ◌≡◌, Bool, true, false, ◌&&◌, ◌||◌, List, [], ◌++◌, eqb, ltb, length, take, drop, if◌then◌else◌, Result, Ok, Err}
use Rattle.std.proofs.Math.Option.{Option, none, some}
use Rattle.definition.specs.Refusal.{memory_leak}
use Rattle.definition.specs.Exchange.{OrderIsFree}
use Rattle.definition.specs.Run.{start}
use Rattle.definition.specs.Memory as definition
use Rattle.definition.specs.Request.{nonzero}
use Rattle.definition.specs.Width.{bits}
use Rattle.pointer.specs.Width.{width_of}
use Rattle.pointer.specs.Pointer.{thin_pointer_of}
use Rattle.pointer.specs.declared.ThinPointer.{ThinPointer}
use Rattle.pointer.specs.declared.Provenance.{Provenance}
use Rattle.std.specs.Prelude.{None, Some}
use Rattle.answer.specs.Answer.{replied}
use Rattle.answer.specs.Answer.Gives.{ThePointer}
use Rattle.answer.specs.declared.Answer.{Answer}
use Rattle.answer.specs.declared.Answer.TheVariants as answer
use Rattle.tables.specs.Encoding.{Buffers}
use Rattle.frames.specs.declared.Entry.{Entry}
use Rattle.library_frames.specs.Retag as retag
use Rattle.library_frames.specs.Settings.{bad_fields, retag_of}
use Rattle.library_frames.specs.declared.retags.RetagAnswer.{RetagAnswer}
use Rattle.library_frames.specs.declared.retags.RetagOutcome.{RetagOutcome}
use Rattle.library_frames.specs.declared.retags.RetagSettings.{RetagSettings}
use Rattle.run.specs.Lists.{Lent, list_run}
use Rattle.run.specs.declared.Answered.{Answered}
use Rattle.refusal.specs.Number.{number}
use Rattle.refusal.specs.declared.Refusal.{Refusal}
use Rattle.tree_borrows.specs.declared.numbers.ListReply.{ListReply}
use Rattle.tree_borrows.specs.declared.numbers.Malformed.{Malformed}
use Rattle.tree_borrows.specs.declared.numbers.Pointer.{Pointer}
use Rattle.tree_borrows.specs.declared.numbers.Reply.{Reply}
use Rattle.tree_borrows.specs.declared.numbers.RetagReply.{RetagReply}
use Rattle.tree_borrows.specs.declared.numbers.RetagMade.{RetagMade}
use Rattle.tree_borrows.specs.declared.numbers.Settings.{Settings}

-- ---- a flag is 0 or 1; any other number falls under 2
abbrev pub bad_flag : ℕ → Bool
bad_flag flag = ltb 1 flag

abbrev pub is_set : ℕ → Bool
is_set flag = eqb flag 1

abbrev pub flag_of : Bool → ℕ
flag_of true = 1
flag_of false = 0

-- ---- a pointer
abbrev pub provenance_if : Bool → definition.Provenance → Option definition.Provenance
provenance_if true t = some t
provenance_if false t = none

abbrev pub pointer_of : Pointer → definition.ThinPointer
pointer_of p =
    record {
      address = p.address;
      provenance = provenance_if (is_set p.provenance) (record { allocation = p.allocation; node = p.node });
    }

-- 2: its flag; and "Fields without a use are zero", as in a run: without provenance it names nothing (decision 3)
unfoldable pub bad_pointer : Pointer → Bool
bad_pointer p = bad_flag p.provenance || (eqb p.provenance 0 && (nonzero p.allocation || nonzero p.node))

-- what is read of a pointer: 2, or the pointer
abbrev pub ReadsPointer : Pointer → Result ThinPointer Malformed → Type 0
ReadsPointer p (Ok q) = (bad_pointer p ≡ false) × (thin_pointer_of q ≡ pointer_of p)
ReadsPointer p (Err e) = bad_pointer p ≡ true

-- ---- a retag's settings
abbrev pub settings_of : Settings → RetagSettings
settings_of s =
    record {
      extra = s.extra;
      function_entry = is_set s.function_entry;
      unpin = is_set s.unpin;
      freeze = is_set s.freeze;
    }

-- 2: its flags
abbrev pub bad_flags : Settings → Bool
bad_flags s = bad_flag s.function_entry || (bad_flag s.unpin || bad_flag s.freeze)

abbrev pub ReadsSettings : Settings → Result RetagSettings Malformed → Type 0
ReadsSettings s (Ok t) = (bad_flags s ≡ false) × (t ≡ settings_of s)
ReadsSettings s (Err e) = bad_flags s ≡ true

-- ---- an answer
abbrev pub pointer_reply : std.Option Provenance → Reply
pointer_reply None = record { refusal = 0; gives = 0; first = 0; second = 0 }
pointer_reply (Some t) = record { refusal = 0; gives = 1; first = t.allocation; second = t.node }

abbrev pub reply_of : Answer → Reply
reply_of (answer.Refused n) = record { refusal = n; gives = 0; first = 0; second = 0 }
reply_of (answer.Leak allocation) = record { refusal = memory_leak; gives = 3; first = allocation; second = 0 }
reply_of answer.Accepted = record { refusal = 0; gives = 0; first = 0; second = 0 }
reply_of (answer.Pointer p) = pointer_reply p
reply_of (answer.Words start len) = record { refusal = 0; gives = 2; first = start; second = len }

-- an entry's promise: it replies r and leaves `left`; the outcome is that of the entry which it calls
abbrev pub Replied : {X : Type 0} → Reply → X → Answer × X → Type 0
Replied {X} r left outcome = ◌≡◌ {A = Reply × X} (r, left) (reply_of outcome.0, outcome.1)

-- the words that a load's reply names; any other names none
abbrev pub loaded_words : Reply → List ℕ → List ℕ
loaded_words r words = if eqb r.gives 2 then take r.second (drop r.first words) else []

-- `out` with the words at its front, or as it was where it is too short for them
abbrev pub copied_to : List ℕ → List ℕ → List ℕ
copied_to out words = if ltb (length out) (length words) then out else words ++ drop (length words) out

-- ---- a retag's
abbrev pub retag_reply_of : RetagAnswer → RetagReply
retag_reply_of a = record { reply = reply_of a.answer; count = a.count }

abbrev pub made_of : RetagOutcome → RetagMade
made_of o = record { answer = retag_reply_of o.answer; at = o.at; entry = o.entry }

-- its promise: it replies r, with the number of entries, and leaves these places and buffers
abbrev pub RetagReplied : ℕ → Settings → Pointer → List ℕ → retag.Lent → RetagReply → List Entry → Buffers → Type 0
RetagReplied width settings p layout l r places b =
    Replied r.reply (retag.lent places r.count b)
    (replied ThePointer
    (retag.served width ((bad_pointer p || bad_flags settings) || bad_fields width (settings_of settings) (pointer_of p).address layout) (retag_of (settings_of settings) (pointer_of p) layout) l))

-- ---- a list's
abbrev pub list_reply_of : Result Answered Refusal → ListReply
list_reply_of (Ok a) = record { refusal = 0; whole = flag_of a.written.whole; at = a.written.at; width = bits (width_of a.width) }
list_reply_of (Err r) = record { refusal = number r; whole = 0; at = 0; width = 0 }

-- its promise: it replies r and leaves `left` of the buffers, as the list does; with demand 3
pub record ListReplied (l : List (List ℕ)) (given : Lent) (r : ListReply) (left : Lent) : Type 0 where
  pub outcome : ◌≡◌ {A = ListReply × Lent} (r, left) (list_reply_of (list_run l given).0, (list_run l given).1)
  pub order : OrderIsFree start l
