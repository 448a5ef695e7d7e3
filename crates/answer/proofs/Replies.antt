-- The code's answer for the definition's, case by case; and it stands for the definition's, whatever the data are.
use Rattle.std.specs.Prelude as std
use Prim.Native.Nat.{ℕ, zero, suc}
use mathlib.Core.Path.{◌≡◌, refl}
use mathlib.Core.List.{List}
use mathlib.Core.Option.{Option, none, some}
use Rattle.definition.specs.Memory.{refused_with, leak_answer}
use Rattle.pointer.specs.Pointer.{provenance_of}
use Rattle.pointer.specs.declared.Provenance.{Provenance}
use Rattle.std.specs.Prelude.{None, Some}
use Rattle.answer.specs.Answer.{answer_of, Gives, provenance_from, reply_to}
use Rattle.answer.specs.Answer.Gives.{Nothing}
use Rattle.answer.specs.declared.Answer.TheVariants.{Refused}

pub refused-reply : (gives : Gives) (n : ℕ) → (n ≡ 0 → ⊥) → reply_to gives (refused_with n) ≡ Refused n
refused-reply gives zero z = absurd (z refl)
refused-reply gives (suc n) z = refl

-- a pointer of the code is the one of its provenance
pub provenance-back : (t : std.Option Provenance) → t ≡ provenance_from (provenance_of t)
provenance-back None = refl
provenance-back (Some t) = refl

-- of a request that gives nothing
pub plain-answers : (n : ℕ) (words : List ℕ) → answer_of (reply_to Nothing (refused_with n)) words ≡ refused_with n
plain-answers zero words = refl
plain-answers (suc n) words = refl

-- of a leak check
pub leak-answers : (leak : Option ℕ) (words : List ℕ) → answer_of (reply_to Nothing (leak_answer leak)) words ≡ leak_answer leak
leak-answers none words = refl
leak-answers (some n) words = refl
