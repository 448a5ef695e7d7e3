-- An end call on what is lent: what the test of refusal 1 gives the end call, what is left in each case, and that a list of other
-- than 64 places is refused, so that it does not matter what is loaded of it.
use Prim.Native.Nat.{ℕ, ◌≤◌}
use mathlib.Core.Path.{◌≡◌, refl, sym, ap, ◌∙◌}
use mathlib.Core.Bool.{Bool, true, false, ◌&&◌}
use mathlib.Core.List.{List}
use borrow.Author.Tests.{eqb-true}
use lib.Dec.{eqb, leb}
use lib.ListN.{length, replicate}
use Rattle.definition.specs.Memory.{Provenance}
use Rattle.definition.proofs.Booleans.{and_left, and_right}
use Rattle.answer.specs.declared.Answer.{Answer}
use Rattle.answer.specs.declared.Answer.TheVariants.{Refused}
use Rattle.tables.specs.Encoding.{Buffers}
use Rattle.tables.specs.Decoding.{view}
use Rattle.tables.specs.Held.{buffers, Holds}
use Rattle.wellformed.specs.AtWidth.{well_formed_at}
use Rattle.wellformed.proofs.AtWidth.{sound-at}
use Rattle.frames.specs.List.{first_of, loaded}
use Rattle.frames.specs.declared.Entry.{Entry}
use Rattle.frames.proofs.ByValue.{loaded-all}
use Rattle.end_call.specs.Release.{Ended}
use Rattle.end_call.proofs.EndCall.{end-call-encode}
use Rattle.library_frames.specs.Retag.{is_lent}
use Rattle.library_frames.specs.EndCall.{is_lent_with_area, ended, EndedLent}
use Rattle.library_frames.proofs.Lent.{lent-count, lent-formed}

module _ (width places count : ℕ) (area : List ℕ) (b : Buffers) where
  -- refused with 1
  pub not-lent : is_lent_with_area width places count area b ≡ false → (es : List Provenance) → EndedLent width places count es b area (Refused 1) b area
  unfolding ended
  not-lent e es = rw e

  module _ (e : is_lent_with_area width places count area b ≡ true) where
    fine : is_lent width places count b ≡ true
    fine = and_left (is_lent width places count b) (eqb (length area) 32768) e

    pub count-lent : count ≤ 64
    count-lent = lent-count width places count b fine

    pub area-lent : length area ≡ 32768
    area-lent = eqb-true (length area) 32768 (and_right (is_lent width places count b) (eqb (length area) 32768) e)

    pub memory-lent : Holds (view b) b
    memory-lent = sound-at width b (lent-formed width places count b fine)

    -- the end call of the memory that is held
    pub ended-lent : {R' C' area' : List ℕ} {es : List Provenance} {answer : Answer} → Ended (view b) es answer R' C' → area' ≡ replicate 32768 0
        → EndedLent width places count es b area answer (buffers b.allocs b.parents R' b.words C') area'
    unfolding ended
    ended-lent {es = es} k z =
        let left = end-call-encode memory-lent es k.nodes in
        rw e (λ i. (k.reply i, (left i, z i)))

-- what is loaded is as good as what is lent
pub loaded-same : (width : ℕ) (xs list : List Entry) → list ≡ loaded xs → (count : ℕ) (b : Buffers) (area : List ℕ)
    → ended width (length xs) count (first_of count list) b area ≡ ended width (length xs) count (first_of count xs) b area
loaded-same width xs list same count b area = cases (eqb (length xs) 64) refl
  where
    cases : (t : Bool) → eqb (length xs) 64 ≡ t → ended width (length xs) count (first_of count list) b area ≡ ended width (length xs) count (first_of count xs) b area
    cases true e = ap (λ (l : List Entry). ended width (length xs) count (first_of count l) b area) (same ∙ loaded-all xs (eqb-true (length xs) 64 e))
    cases false e =
        let no : is_lent_with_area width (length xs) count area b ≡ false = ap (λ (t : Bool). (t && (leb count 64 && well_formed_at width b)) && eqb (length area) 32768) e in
        sym (not-lent width (length xs) count area b no (first_of count list)) ∙ not-lent width (length xs) count area b no (first_of count xs)
