-- The words that a load's answer names in the lent data are the definition's loaded words, for whatever reaches the entry.
use Prim.Native.Nat.{ℕ}
use mathlib.Core.Path.{◌≡◌, refl, ap, ◌∙◌}
use mathlib.Core.Bool.{Bool, true, false}
use mathlib.Core.List.{List}
use Rattle.definition.specs.Memory.{ThinPointer, MemoryAccess, perform_access}
use Rattle.answer.specs.Answer.{answer_of, reply_to}
use Rattle.tables.specs.Encoding.{Buffers}
use Rattle.tables.specs.Decoding.{view}
use Rattle.tables.proofs.ReadBack.{holds-words}
use Rattle.wellformed.specs.AtWidth.{well_formed_at}
use Rattle.wellformed.proofs.AtWidth.{sound-at}
use Rattle.memory.specs.Access.{load_of}
use Rattle.memory.proofs.LoadStore.{load-means}
use Rattle.library.specs.Fields.{bad_load}
use Rattle.library.specs.Entry.{served, given_by}

module _ (width : ℕ) (p : ThinPointer) (len exponent : ℕ) (b : Buffers) where
  abbrev load : MemoryAccess
  load = load_of p len exponent

  held : well_formed_at width b ≡ true → answer_of (reply_to (given_by load b) (perform_access load (view b)).0) b.words ≡ (perform_access load (view b)).0
  held formed =
      ap (λ (words : List ℕ). answer_of (reply_to (given_by load b) (perform_access load (view b)).0) words) (holds-words (sound-at width b formed))
      ∙ load-means p len exponent (sound-at width b formed).valid

  pub served-words : answer_of (reply_to (given_by load b) (served width (bad_load width exponent p.address) (perform_access load) b).0) b.words ≡ (served width (bad_load width exponent p.address) (perform_access load) b).0
  unfolding served
  served-words = by (well_formed_at width b) (bad_load width exponent p.address) refl refl
    where
      by : (formed bad : Bool) → well_formed_at width b ≡ formed → bad_load width exponent p.address ≡ bad
          → answer_of (reply_to (given_by load b) (served width (bad_load width exponent p.address) (perform_access load) b).0) b.words ≡ (served width (bad_load width exponent p.address) (perform_access load) b).0
      by false bad e f = rw e
      by true true e f = rw (e, f)
      by true false e f = rw (e, f) (held e)
