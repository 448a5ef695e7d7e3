-- The settings of a retag as the definition's request, and refusal 2 of what the entry takes, at a width that is a number of bits.
use Rattle.std.specs.Prelude.{ℕ, ◌+◌, ◌^◌, Bool, true, false, not, ◌&&◌, ◌||◌, List, [], ltb}
use Rattle.std.proofs.Math.Option.{none}
use Rattle.definition.specs.Memory.{ThinPointer, has_none, allocation_of, node_of, Answer}
use Rattle.definition.specs.Frame.{State}
use Rattle.definition.specs.Request.{Request, function_entry, adds_no_node, bad_metadata, is_too_high}
use Rattle.definition.specs.Request.Kind.{Retag}
use Rattle.definition.specs.Run.{perform_retag}
use Rattle.pointer.specs.Width.{width_at}
use Rattle.library_frames.specs.declared.retags.RetagSettings.{RetagSettings}

-- a flag that stands for n in a word
abbrev pub flag : Bool → ℕ → ℕ
flag true n = n
flag false n = 0

-- "function entry (1), unpin (1), freeze (1)"; the frame is number 0. A layout's length is not read from it: its words are given
unfoldable pub fourth_of : RetagSettings → ℕ
fourth_of settings =
    flag settings.function_entry (2 ^ 31) + (flag settings.unpin (2 ^ 30) + flag settings.freeze (2 ^ 29))

abbrev pub request_of : RetagSettings → ThinPointer → List ℕ → Request
request_of settings p layout =
    record {
      kind = Retag;
      allocation = allocation_of p.provenance;
      node = node_of p.provenance;
      has_provenance = not (has_none p.provenance);
      exponent = 0;
      extra = settings.extra;
      address = p.address;
      fourth = fourth_of settings;
      following = layout;
    }

-- the definition's outcome of it
abbrev pub retag_of : RetagSettings → ThinPointer → List ℕ → State → Answer × State
retag_of settings p layout s = perform_retag s (request_of settings p layout)

-- the request where neither the pointer nor the layout matters
abbrev pub fields_of : RetagSettings → Request
fields_of settings = request_of settings (record { address = 0; provenance = none }) []

-- 2: "A field is outside its list", "An address .. too big for the width". The layout is read where a node may be added
abbrev pub bad_fields : (width : ℕ) → RetagSettings → (address : ℕ) → List ℕ → Bool
bad_fields width settings address layout =
    (ltb 5 settings.extra || (not (adds_no_node (fields_of settings)) && bad_metadata layout)) || is_too_high (width_at width) address

-- a node that is added is entered in the frame
abbrev pub protects : RetagSettings → Bool
protects settings = not (adds_no_node (fields_of settings)) && function_entry (fields_of settings)
