-- Which node is entered in the frame: under a protector, that of the pointer which is given.
use Rattle.std.specs.Prelude as std
use Prim.Native.Nat.{ℕ}
use mathlib.Core.Path.{◌≡◌, refl, sym, ap, ap₂, ◌∙◌}
use mathlib.Core.Bool.{Bool, true, false, not, ◌&&◌, ◌||◌}
use mathlib.Core.Option.{none}
use mathlib.Core.List.{List}
use Rattle.definition.specs.Memory.{named_pointer}
use Rattle.definition.specs.Request.{adds_no_node}
use Rattle.answer.specs.Answer.{answer_of}
use Rattle.answer.specs.declared.Answer.{Answer}
use Rattle.pointer.specs.declared.Provenance.{Provenance}
use Rattle.answer.specs.declared.Answer.TheVariants.{Refused, Leak, Accepted, Pointer, Words}
use Rattle.library_frames.specs.declared.retags.RetagSettings.{RetagSettings}
use Rattle.library_frames.specs.Settings.{fields_of, protects}
use Rattle.library_frames.specs.Outcome.{entered_node}
use Rattle.library_frames.proofs.Fields.{entry-flag}

-- what `entered_node` tests is that there is no protector
not-both : (none-added entry : Bool) → not none-added && entry ≡ not (none-added || not entry)
not-both true entry = refl
not-both false true = refl
not-both false false = refl

module _ (settings : RetagSettings) {none-added : Bool} (e : none-added ≡ adds_no_node (fields_of settings)) where
  tested : protects settings ≡ not (none-added || not settings.function_entry)
  tested =
      ap₂ (λ (n f : Bool). not n && f) (sym e) (entry-flag settings)
      ∙ not-both none-added settings.function_entry

  pub unprotected : none-added || not settings.function_entry ≡ true → protects settings ≡ false
  unprotected t = tested ∙ ap not t

  pub protected : none-added || not settings.function_entry ≡ false → protects settings ≡ true
  protected t = tested ∙ ap not t

pub nothing-entered : (is_protected : Bool) → entered_node is_protected none ≡ none
nothing-entered true = refl
nothing-entered false = refl

-- an answer that gives no pointer
pub no_pointer : (is_protected : Bool) (words : List ℕ) (a : Answer) → ((t : std.Option Provenance) → a ≡ Pointer t → ⊥) → entered_node is_protected (named_pointer (answer_of a words).names) ≡ none
no_pointer is_protected words (Refused n) h = nothing-entered is_protected
no_pointer is_protected words (Leak n) h = nothing-entered is_protected
no_pointer is_protected words Accepted h = nothing-entered is_protected
no_pointer is_protected words (Pointer t) h = absurd (h t refl)
no_pointer is_protected words (Words start len) h = nothing-entered is_protected
