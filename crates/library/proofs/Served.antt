-- What `served` is for a memory of the definition; and a law for each way an entry returns.
use Prim.Native.Nat.{ℕ}
use mathlib.Core.Path.{◌≡◌, refl, sym, ap, ◌∙◌}
use mathlib.Core.Bool.{Bool, true, false}
use Rattle.definition.specs.Memory.{Memory, refused_with}
use Rattle.definition.specs.Memory as definition
use Rattle.answer.specs.Answer.{Gives, reply_to, replied}
use Rattle.answer.specs.declared.Answer.{Answer}
use Rattle.answer.specs.declared.Answer.TheVariants.{Refused}
use Rattle.tables.specs.Encoding.{Buffers, encode}
use Rattle.tables.specs.Decoding.{view}
use Rattle.tables.proofs.ReadBack.{view-held}
use Rattle.wellformed.specs.AtWidth.{well_formed_at, HoldsAt}
use Rattle.wellformed.proofs.AtWidth.{holds_at, sound-at, complete-at}
use Rattle.library.specs.Entry.{encoded, served, Served, malformed_answer}

module _ (width : ℕ) (bad : Bool) (request : Memory → definition.Answer × Memory) (b : Buffers) where
  -- ---- what it means
  -- no valid memory at the width encodes to the buffers, or the number is no width: 1, and all as before
  pub served-none : ((m : Memory) → HoldsAt width m b → ⊥) → served width bad request b ≡ (refused_with 1, b)
  unfolding served
  served-none none = rw (go (well_formed_at width b) refl)
    where
      go : (t : Bool) → well_formed_at width b ≡ t → well_formed_at width b ≡ false
      go true e = absurd (none (view b) (holds_at width b e))
      go false e = e

  module _ {m : Memory} (h : HoldsAt width m b) where
    -- a field falls under 2
    pub served-bad : bad ≡ true → served width bad request b ≡ (refused_with 2, b)
    unfolding served
    served-bad e = rw (complete-at width b m h, e)

    -- the definition's request on the memory that they hold
    pub served-held : bad ≡ false → served width bad request b ≡ encoded (request m)
    unfolding served
    served-held e = rw (complete-at width b m h, e, view-held m b h.holds)

-- ---- a return each
module _ (width : ℕ) (gives : Gives) (bad : Bool) (request : Memory → definition.Answer × Memory) (b : Buffers) where
  pub not-formed : well_formed_at width b ≡ false → Served width gives bad request b (Refused 1) b
  unfolding served replied
  not-formed e = rw e

  module _ (formed : well_formed_at width b ≡ true) where
    pub bad-field : bad ≡ true → Served width gives bad request b (Refused 2) b
    unfolding served replied
    bad-field e = rw (formed, e)

    module _ (fine : bad ≡ false) {r : Answer} (e : r ≡ reply_to gives (request (view b)).0) where
      pub performed : {b' : Buffers} → b' ≡ encode (request (view b)).1 → Served width gives bad request b r b'
      unfolding served replied
      performed f = rw (formed, fine) (λ i. (e i, f i))

      -- by a request that changes nothing
      pub answered : (request (view b)).1 ≡ view b → Served width gives bad request b r b
      answered same = performed ((sound-at width b formed).equal ∙ ap encode (sym same))

-- where a field falls under 2
pub malformed-served : (width : ℕ) (gives : Gives) (request : Memory → definition.Answer × Memory) (b : Buffers) → Served width gives true request b (malformed_answer width b) b
unfolding malformed_answer
malformed-served width gives request b = by (well_formed_at width b) refl
  where
    by : (formed : Bool) → well_formed_at width b ≡ formed → Served width gives true request b (malformed_answer width b) b
    by true e = rw e (bad-field width gives true request b e refl)
    by false e = rw e (not-formed width gives true request b e)
