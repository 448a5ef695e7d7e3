-- What a caller learns from the answer of `freeze_mask`, if it lends a buffer of 4,096 bytes.
use Prim.Native.Nat.{ℕ, ◌≤◌}
use mathlib.Core.Path.{◌≡◌, refl, sym, ap, ◌∙◌}
use mathlib.Core.Option.{Option, none, some}
use mathlib.Core.List.{List}
use native.Mathlib.Omega.{arith}
use lib.ListN.{length, take, drop}
use lib.Seq.{take_at}
use borrow.Author.Tests.{eq-eqb}
use Rattle.definition.specs.Layout.{FreezeMask, freeze_mask}
use Rattle.std.specs.Prelude.{Some, None, Ok, Err, ok_or}
use Rattle.std.specs.Prelude as code
use Rattle.layout.specs.declared.MaskError.{MaskError}
use Rattle.layout.specs.declared.MaskError.TheVariants.{NoMask}
use Rattle.layout.specs.Filled.{mask_bytes, fitting, length_of, filled, Fills, answered, afterwards}
use Rattle.layout.proofs.Fill.{bytes-length, written, fitting-some}
use Rattle.layout.proofs.Bounded.{mask-bounded}

-- a mask that the words have, of the answered length, in the front of the filled buffer
pub record HasMask (ws before after : List ℕ) (n : ℕ) : Type 0 where
  pub mask : FreezeMask
  pub defined : freeze_mask ws ≡ some mask
  pub bound : n ≤ length before
  pub front : take n after ≡ mask_bytes mask

module _ {ws before after : List ℕ} {n : ℕ} (f : Fills (freeze_mask ws) before (Some n) after) where
  fills_of : HasMask ws before after n
  fills_of = go (fitting (length before) (freeze_mask ws)) refl
    where
      go : (x : Option FreezeMask) → fitting (length before) (freeze_mask ws) ≡ x → HasMask ws before after n
      go none e = let s : Some n ≡ None = f.answer ∙ ap length_of e in let z : ◌≡◌ {A = ℕ} 0 1 = cc in absurd (omega arith)
      go (some m) e =
          let s : Some n ≡ Some (length m) = f.answer ∙ ap length_of e in
          let l : length m ≡ n = cc in
          let fits = fitting-some (length before) (freeze_mask ws) m e in
          record {
            mask = m;
            defined = fits.0;
            bound = omega (arith, fits.1);
            front =
                ap (take n) (f.contents ∙ ap (λ (o : Option FreezeMask). filled o before) e ∙ sym (written m before fits.1))
                ∙ take_at (mask_bytes m) (drop (length m) before) n (bytes-length m ∙ l);
          }

module _ (ws buffer : List ℕ) (whole : length buffer ≡ 4096) where
  all_fit : fitting (length buffer) (freeze_mask ws) ≡ freeze_mask ws
  all_fit = rw whole (mask-bounded ws)

  asks : answered ws buffer ≡ ok_or (length_of (freeze_mask ws)) NoMask
  unfolding answered
  asks = rw (eq-eqb (length buffer) 4096 whole)

  holds : afterwards ws buffer ≡ filled (freeze_mask ws) buffer
  unfolding afterwards
  holds = rw (eq-eqb (length buffer) 4096 whole)

  pub answers_of : (n : ℕ) → Ok n ≡ answered ws buffer → HasMask ws buffer (afterwards ws buffer) n
  answers_of n e =
      fills_of
      (record {
        answer = of (length_of (freeze_mask ws)) (e ∙ asks) ∙ sym (ap length_of all_fit);
        contents = holds ∙ sym (ap (λ (o : Option FreezeMask). filled o buffer) all_fit);
      })
    where
      of : (o : code.Option ℕ) → Ok n ≡ ok_or o NoMask → Some n ≡ o
      of (Some m) e = cc
      of None e = cc

  -- whatever the error: a buffer of that length is not too short
  pub answers-none : (error : MaskError) → Err error ≡ answered ws buffer → freeze_mask ws ≡ none
  answers-none error e = go (freeze_mask ws) refl
    where
      go : (x : Option FreezeMask) → freeze_mask ws ≡ x → freeze_mask ws ≡ none
      go none d = d
      go (some m) d = let r : Err error ≡ ok_or (length_of (freeze_mask ws)) NoMask = e ∙ asks in let s : Err error ≡ Ok (length m) = rw d at r in cc
