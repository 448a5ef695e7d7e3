-- The settings' request has the flags and the pointer that were given, and frame 0; and refusal 2 is the definition's of such a request.
use Rattle.std.specs.Prelude.{if◌then◌else◌}
use Prim.Native.Nat.{ℕ, ◌+◌, ◌/◌, ◌%◌, ◌^◌}
use mathlib.Core.Path.{◌≡◌, refl, ap, ap₂}
use mathlib.Core.Bool.{Bool, true, false, not, ◌&&◌, ◌||◌}
use mathlib.Core.Option.{Option, none, some}
use mathlib.Core.List.{List, [], ◌∷◌}
use lib.Dec.{ltb}
use lib.ListN.{get_or}
use Rattle.definition.specs.Notation.{any}
use Rattle.definition.specs.Permission.{SafePointer, is_yes}
use Rattle.definition.specs.Permission.SafePointer.{SharedRef, MutableRef, Box}
use Rattle.definition.specs.Permission.Protected.{No}
use Rattle.definition.specs.Memory.{Provenance, ThinPointer}
use Rattle.definition.specs.Frame.{State, is_open, frame_at}
use Rattle.definition.specs.Request.{bit, pointer, function_entry, unpin, freeze, frame_number, is_safe, is_pinned, adds_no_node, entry_protector, protector_of, nonzero, stray_name, bad_settings, bad_metadata, bad_retag, is_malformed, is_too_high, is_too_big}
use Rattle.definition.specs.Request.Kind.{Retag}
use Rattle.pointer.specs.Width.{width_at}
use Rattle.library_frames.specs.declared.retags.RetagSettings.{RetagSettings}
use Rattle.library_frames.specs.Settings.{flag, fourth_of, request_of, fields_of, bad_fields}

-- ---- the fourth word
record Flags (entry unpin freeze : Bool) (w : ℕ) : Type 0 where
  is_entry : bit 31 w ≡ entry
  is_unpin : bit 30 w ≡ unpin
  is_freeze_flag : bit 29 w ≡ freeze
  no_bit : bit 28 w ≡ false
  no_frame : w / 2 ^ 23 % 2 ^ 5 ≡ 0

flags : (entry unpin freeze : Bool) → Flags entry unpin freeze (flag entry (2 ^ 31) + (flag unpin (2 ^ 30) + flag freeze (2 ^ 29)))
flags true true true = record { is_entry = refl; is_unpin = refl; is_freeze_flag = refl; no_bit = refl; no_frame = refl }
flags true true false = record { is_entry = refl; is_unpin = refl; is_freeze_flag = refl; no_bit = refl; no_frame = refl }
flags true false true = record { is_entry = refl; is_unpin = refl; is_freeze_flag = refl; no_bit = refl; no_frame = refl }
flags true false false = record { is_entry = refl; is_unpin = refl; is_freeze_flag = refl; no_bit = refl; no_frame = refl }
flags false true true = record { is_entry = refl; is_unpin = refl; is_freeze_flag = refl; no_bit = refl; no_frame = refl }
flags false true false = record { is_entry = refl; is_unpin = refl; is_freeze_flag = refl; no_bit = refl; no_frame = refl }
flags false false true = record { is_entry = refl; is_unpin = refl; is_freeze_flag = refl; no_bit = refl; no_frame = refl }
flags false false false = record { is_entry = refl; is_unpin = refl; is_freeze_flag = refl; no_bit = refl; no_frame = refl }

module _ (settings : RetagSettings) where
  of_word : Flags settings.function_entry settings.unpin settings.freeze (fourth_of settings)
  unfolding fourth_of
  of_word = flags settings.function_entry settings.unpin settings.freeze

  pub entry-flag : function_entry (fields_of settings) ≡ settings.function_entry
  entry-flag = of_word.is_entry

  pub unpin-flag : unpin (fields_of settings) ≡ settings.unpin
  unpin-flag = of_word.is_unpin

  pub freeze-flag : freeze (fields_of settings) ≡ settings.freeze
  freeze-flag = of_word.is_freeze_flag

  pub zero_bit : bit 28 (fourth_of settings) ≡ false
  zero_bit = of_word.no_bit

  pub frame-zero : frame_number (fields_of settings) ≡ 0
  frame-zero = of_word.no_frame

  -- a protector at function entry, and there alone
  pub protects-entry : is_yes (protector_of (fields_of settings)) ≡ function_entry (fields_of settings)
  protects-entry = by (function_entry (fields_of settings)) (get_or (SharedRef ∷ MutableRef ∷ Box ∷ []) settings.extra Box)
    where
      by : (entry : Bool) (safe : SafePointer) → is_yes (if entry then entry_protector safe else No) ≡ entry
      by true SharedRef = refl
      by true MutableRef = refl
      by true Box = refl
      by false safe = refl

-- ---- the pointer
pub pointer_back : (settings : RetagSettings) (p : ThinPointer) (layout : List ℕ) → pointer (request_of settings p layout) ≡ p
pointer_back settings p layout = by p.provenance
  where
    by : (o : Option Provenance) → pointer (request_of settings (record { address = p.address; provenance = o }) layout) ≡ record { address = p.address; provenance = o }
    by none = refl
    by (some t) = refl

-- ---- 2 is the definition's, of words with these fields, if the flags are zero where extra, 3 to 5, gives them no use
stray : (p : ThinPointer) (settings : RetagSettings) (layout : List ℕ) → stray_name (request_of settings p layout) ≡ false
stray p settings layout = by p.provenance
  where
    by : (o : Option Provenance) → stray_name (request_of settings (record { address = p.address; provenance = o }) layout) ≡ false
    by none = refl
    by (some t) = refl

module _ (width : ℕ) (settings : RetagSettings) (p : ThinPointer) (layout : List ℕ) (s : State) (opened : is_open (frame_at s 0) ≡ true) where
  good-settings : bad_settings s (request_of settings p layout) ≡ false
  unfolding bad_settings
  good-settings = rw (zero_bit settings, frame-zero settings, opened) (by (function_entry (fields_of settings)))
    where
      by : (entry : Bool) → (if entry then false else false) ≡ false
      by true = refl
      by false = refl

  -- it stores nothing
  only_high : is_too_big (width_at width) (request_of settings p layout) ≡ is_too_high (width_at width) p.address
  unfolding is_too_big any
  only_high = by (is_too_high (width_at width) p.address)
    where
      by : (high : Bool) → high || false ≡ high
      by true = refl
      by false = refl

  listed : (is_safe (fields_of settings) ≡ false → fourth_of settings ≡ 0)
      → is_malformed Retag s (request_of settings p layout) ≡ ltb 5 settings.extra || (not (adds_no_node (fields_of settings)) && bad_metadata layout)
  unfolding is_malformed bad_retag
  listed unused =
      rw (stray p settings layout, good-settings)
      (ap (λ (t : Bool). ltb 5 settings.extra || t)
      (by (is_safe (fields_of settings)) (is_pinned (fields_of settings)) (bad_metadata layout) (λ e. ap nonzero (unused e))))
    where
      by : (safe pinned bad : Bool) {other : Bool} → (safe ≡ false → other ≡ false)
          → (if safe then false || (not pinned && bad) else other) ≡ (not (not safe || pinned) && bad)
      by true pinned bad e = refl
      by false pinned bad e = e refl

  pub malformed-fields : (is_safe (fields_of settings) ≡ false → fourth_of settings ≡ 0)
      → is_malformed Retag s (request_of settings p layout) || is_too_big (width_at width) (request_of settings p layout) ≡ bad_fields width settings p.address layout
  malformed-fields unused = ap₂ ◌||◌ (listed unused) only_high
