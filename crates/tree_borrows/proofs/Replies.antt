-- From what the called entry comes to, with its fields that fall under 2, to the promise in numbers.
use Rattle.std.specs.Prelude.{Result}
use Prim.Native.Nat.{ℕ}
use mathlib.Core.Path.{◌≡◌, refl, sym, ap, ◌∙◌}
use mathlib.Core.Bool.{Bool, true, false, ◌||◌}
use mathlib.Core.List.{List}
use lib.ListN.{length, set}
use Rattle.definition.specs.Memory as definition
use Rattle.definition.specs.Memory.{Memory}
use Rattle.answer.specs.Answer.{Gives, replied}
use Rattle.answer.specs.declared.Answer.{Answer}
use Rattle.tables.specs.Encoding.{Buffers}
use Rattle.tables.specs.Held.{buffers}
use Rattle.frames.specs.declared.Entry.{Entry}
use Rattle.library.specs.Entry.{served, Served, malformed_answer}
use Rattle.library.proofs.Served.{malformed-served}
use Rattle.library_frames.specs.Retag as retag
use Rattle.library_frames.specs.Settings.{retag_of}
use Rattle.library_frames.specs.Outcome.{malformed_outcome}
use Rattle.library_frames.specs.declared.retags.RetagOutcome.{RetagOutcome}
use Rattle.library_frames.proofs.Lent as retags
use Rattle.run.specs.Lists.{Lent, lent, ListRan}
use Rattle.state.specs.Run.{memory_of}
use Rattle.state.specs.declared.RunState.{RunState}
use Rattle.run.specs.declared.Answered.{Answered}
use Rattle.refusal.specs.declared.Refusal.{Refusal}
use Rattle.tree_borrows.specs.declared.numbers.ListReply.{ListReply}
use Rattle.tree_borrows.specs.declared.numbers.Pointer.{Pointer}
use Rattle.tree_borrows.specs.declared.numbers.Reply.{Reply}
use Rattle.tree_borrows.specs.declared.numbers.RetagMade.{RetagMade}
use Rattle.tree_borrows.specs.declared.numbers.Settings.{Settings}
use Rattle.tree_borrows.specs.Numbers.{pointer_of, bad_pointer, settings_of, bad_flags, reply_of, Replied, made_of, RetagReplied, list_reply_of, ListReplied}

-- an outcome of the called entry, in numbers
pub in-numbers : {X : Type 0} {r : Reply} {a : Answer} {left : X} {outcome : Answer × X} → r ≡ reply_of a → ◌≡◌ {A = Answer × X} (a, left) outcome → Replied r left outcome
in-numbers {X} {left = left} q k = (λ i. (q i, left)) ∙ ap (λ (o : Answer × X). (reply_of o.0, o.1)) k

-- two tests of fields, where the first is known
pub or-true : {t : Bool} (more : Bool) → t ≡ true → t || more ≡ true
or-true more e = ap (λ (t : Bool). t || more) e

pub or-false : {t : Bool} (more : Bool) → t ≡ false → t || more ≡ more
or-false more e = ap (λ (t : Bool). t || more) e

-- or the second
pub true-or : (first : Bool) {t : Bool} → t ≡ true → first || t ≡ true
true-or first e = ap (λ (t : Bool). first || t) e ∙ any_or (first)
  where
    any_or : (b : Bool) → b || true ≡ true
    any_or true = refl
    any_or false = refl

-- and the second is of the address of a pointer that was read
pub at_address : {t : Bool} (more : ℕ → Bool) {p q : definition.ThinPointer} → t ≡ false → p ≡ q → t || more q.address ≡ more p.address
at_address more {p} {q} e f = or-false (more q.address) e ∙ ap (λ (x : definition.ThinPointer). more x.address) (sym f)

-- the fields: `all` is the test of all of them
module _ (width : ℕ) (gives : Gives) (all : Bool) (request : Memory → definition.Answer × Memory) (b : Buffers) where
  -- one that only C has falls under 2
  pub bad-pointer : all ≡ true → {a : Answer} {r : Reply} → r ≡ reply_of a → a ≡ malformed_answer width b → Replied r b (replied gives (served width all request b))
  bad-pointer e {a} q f = rw e (in-numbers (q ∙ ap reply_of f) (malformed-served width gives request b))

  -- none does
  pub good-pointer : (bad : Bool) → all ≡ bad → {a : Answer} {r : Reply} {b' : Buffers} → r ≡ reply_of a → Served width gives bad request b a b'
      → Replied r b' (replied gives (served width all request b))
  good-pointer bad e q k = rw e (in-numbers q k)

-- ---- a retag
module _ (width : ℕ) (settings : Settings) (p : Pointer) (layout : List ℕ) (len count : ℕ) (b : Buffers) {made : RetagMade} (o : RetagOutcome) (is : made ≡ made_of o)
    (places : List Entry) (whole : length places ≡ len) where
  abbrev Promised : RetagMade → Buffers → Type 0
  Promised made b' = RetagReplied width settings p layout (retag.lent places count b) made.answer (set places made.at made.entry) b'

  pub bad-retag : bad_pointer p || bad_flags settings ≡ true → o ≡ malformed_outcome width len count b → Promised made b
  bad-retag e f =
      rw (is, f, e)
      (ap (λ (x : Answer × retag.Lent). (reply_of x.0, x.1)) (retags.malformed-served width len count b (retag_of (settings_of settings) (pointer_of p) layout) places whole))

  pub good-retag : bad_pointer p || bad_flags settings ≡ false → {b' : Buffers}
      → retag.Served width (settings_of settings) (pointer_of p) layout (retag.lent places count b) o.answer (set places o.at o.entry) b' → Promised made b'
  good-retag e k = rw (is, e) (ap (λ (x : Answer × retag.Lent). (reply_of x.0, x.1)) k)

-- ---- a list, where each buffer holds what the run's state holds
pub list-replied : {l : List (List ℕ)} {given : Lent} {out : List ℕ} {a : Result Answered Refusal} {r : ListReply} (run : RunState) {A P R W C F : List ℕ}
    → A ≡ run.allocs.now → P ≡ run.parents.now → R ≡ run.protectors.now → W ≡ run.words.now → C ≡ run.codes.now → F ≡ run.frames.now
    → r ≡ list_reply_of a → ListRan l given a (lent (memory_of run) run.frames.now out) → ListReplied l given r (lent (buffers A P R W C) F out)
list-replied {l} {given} {out} run a p r w c f q k =
    rw (a, p, r, w, c, f)
    (record {
      outcome = (λ i. (q i, lent (memory_of run) run.frames.now out)) ∙ ap (λ (o : Result Answered Refusal × Lent). (list_reply_of o.0, o.1)) k.outcome;
      order = k.order;
    })
