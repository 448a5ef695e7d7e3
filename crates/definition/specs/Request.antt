-- The words of a request, to its fields, and refusal 2. Document 01: "A run and its requests".
use Rattle.std.specs.Prelude.{ℕ, ◌+◌, ◌-◌, ◌*◌, ◌/◌, ◌%◌, ◌^◌, Bool, true, false, not, ◌&&◌, ◌||◌, List, [], ◌∷◌, eqb, leb, ltb, length, get_or, drop, if◌then◌else◌}
use Rattle.std.proofs.Math.Option.{none, some}
use Rattle.definition.specs.Notation.{any}
use Rattle.definition.specs.Width.{Width, addresses, pointer_bytes}
use Rattle.definition.specs.Width.Width.{Bits16, Bits32, Bits64}
use Rattle.definition.specs.Permission.{Protected, SafePointer}
use Rattle.definition.specs.Permission.AccessKind.{Read, Write}
use Rattle.definition.specs.Permission.Protected.{No, Weak, Strong}
use Rattle.definition.specs.Permission.SafePointer.{SharedRef, MutableRef, Box}
use Rattle.definition.specs.Layout.{FreezeMask}
use Rattle.definition.specs.Memory.{ThinPointer, AllocationKind, allocation_kinds, MemoryAccess}
use Rattle.definition.specs.Memory.AllocationKind.{Stack}
use Rattle.definition.specs.Frame.{State, frame_at, frame_count, is_open}
use Rattle.definition.specs.Retag.{ReborrowSettings, reborrow_settings}

-- "0 allocate, 1 deallocate, 2 load, 3 store, 4 retag, 5 new call, 6 end call, 7 dereferenceable, 8 signed dereferenceable .., 9 leak check;
-- 10 to 15 fall under 2", of which M-110 takes the last: "kind 15 empties the memory"
pub data Kind : Type 0 where
  Allocate Deallocate Load Store Retag NewCall EndCall Dereferenceable SignedDereferenceable LeakCheck Empty Unused : Kind

abbrev pub request_kinds : List Kind
request_kinds =
    Allocate ∷ Deallocate ∷ Load ∷ Store ∷ Retag ∷ NewCall ∷ EndCall ∷ Dereferenceable ∷ SignedDereferenceable ∷ LeakCheck
    ∷ Unused ∷ Unused ∷ Unused ∷ Unused ∷ Unused ∷ Empty ∷ []

pub record Request : Type 0 where
  pub kind : Kind
  pub allocation : ℕ
  pub node : ℕ
  pub has_provenance : Bool
  pub exponent : ℕ
  pub extra : ℕ
  pub address : ℕ
  pub fourth : ℕ
  pub following : List ℕ

-- bit n of a word, counted from the least significant
abbrev pub bit : ℕ → ℕ → Bool
bit n w = eqb (w / 2 ^ n % 2) 1

-- "A request's first word: kind (4 bits), allocation (7), node (12), has provenance (1), alignment exponent (5), extra (3).
-- Then the address, high word and low word, and a fourth word: length." Then the words that follow
unfoldable pub request : List ℕ → Request
request ws =
    let first = get_or ws 0 0 in
    record {
      kind = get_or request_kinds (first / 2 ^ 28) Unused;
      allocation = first / 2 ^ 21 % 2 ^ 7;
      node = first / 2 ^ 9 % 2 ^ 12;
      has_provenance = bit 8 first;
      exponent = first / 2 ^ 3 % 2 ^ 5;
      extra = first % 2 ^ 3;
      address = get_or ws 1 0 * 2 ^ 32 + get_or ws 2 0;
      fourth = get_or ws 3 0;
      following = drop 4 ws;
    }

abbrev pub pointer : Request → ThinPointer
pointer q =
    record {
      address = q.address;
      provenance = if q.has_provenance then some (record { allocation = q.allocation; node = q.node }) else none;
    }

-- extra of an allocation and a deallocation; from 5 on it is outside its list
abbrev pub allocation_kind : Request → AllocationKind
allocation_kind q = get_or allocation_kinds q.extra Stack

-- ---- a retag's fourth word: "function entry (1), unpin (1), freeze (1) .., zero (1), frame (5, zero unless function entry), number of words
-- that follow (23)"
abbrev pub function_entry : Request → Bool
function_entry q = bit 31 q.fourth

abbrev pub unpin : Request → Bool
unpin q = bit 30 q.fourth

abbrev pub freeze : Request → Bool
freeze q = bit 29 q.fourth

abbrev pub frame_number : Request → ℕ
frame_number q = q.fourth / 2 ^ 23 % 2 ^ 5

abbrev pub layout_length : Request → ℕ
layout_length q = q.fourth % 2 ^ 23

-- extra of an emptying: "extra 0, 1 or 2 for 16, 32 or 64 bits"; from 3 on it is outside its list
abbrev pub widths : List Width
widths = Bits16 ∷ Bits32 ∷ Bits64 ∷ []

abbrev pub chosen_width : Request → Width
chosen_width q = get_or widths q.extra Bits64

-- extra of a retag: "0 shared reference, 1 mutable reference, 2 box, 3 raw, 4 function, 5 vtable pointer"; the first three are safe
abbrev pub is_safe : Request → Bool
is_safe q = ltb q.extra 3

abbrev pub safe_pointer : Request → SafePointer
safe_pointer q = get_or (SharedRef ∷ MutableRef ∷ Box ∷ []) q.extra Box

-- "a mutable reference that isn't unpin"
abbrev pub is_pinned : Request → Bool
is_pinned q = eqb q.extra 1 && not (unpin q)

-- "No node .. for extra 3 to 5 and for a mutable reference that isn't unpin"
abbrev pub adds_no_node : Request → Bool
adds_no_node q = not (is_safe q) || is_pinned q

-- "Box at function entry is weak, references strong."
abbrev pub entry_protector : SafePointer → Protected
entry_protector SharedRef = Strong
entry_protector MutableRef = Strong
entry_protector Box = Weak

abbrev pub protector_of : Request → Protected
protector_of q = if function_entry q then entry_protector (safe_pointer q) else No

abbrev pub settings_of : Request → FreezeMask → ReborrowSettings
settings_of q mask = reborrow_settings (safe_pointer q) (protector_of q) mask (freeze q)

-- ---- loads and stores
abbrev pub load_of : Request → MemoryAccess
load_of q = record { kind = Read; pointer = pointer q; len = q.fourth; exponent = q.exponent; bytes = [] }

abbrev pub store_of : Request → MemoryAccess
store_of q = record { kind = Write; pointer = pointer q; len = length q.following; exponent = q.exponent; bytes = q.following }

-- ---- a signed length, "in two's complement": how many bytes it reaches back from the pointer, and how many ahead
abbrev pub bytes_back : ℕ → ℕ
bytes_back w = if ltb w (2 ^ 31) then 0 else 2 ^ 32 - w

abbrev pub bytes_ahead : ℕ → ℕ
bytes_ahead w = if ltb w (2 ^ 31) then w else 0

-- ---- how many words follow the fourth: "A store adds its bytes", a retag its layout
unfoldable pub following_length : Request → ℕ
following_length q =
    elim q.kind [
      | Allocate ↦ 0
      | Deallocate ↦ 0
      | Load ↦ 0
      | Store ↦ q.fourth
      | Retag ↦ if is_safe q then layout_length q else 0
      | NewCall ↦ 0
      | EndCall ↦ 0
      | Dereferenceable ↦ 0
      | SignedDereferenceable ↦ 0
      | LeakCheck ↦ 0
      | Empty ↦ 0
      | Unused ↦ 0
    ]

-- "Input that ends inside a request falls under 2": it has fewer words than it announces, or, in a list, more (decision 47)
unfoldable pub is_miscounted : List ℕ → Bool
is_miscounted ws = not (eqb (length ws) (4 + following_length (request ws)))

-- ---- 2, field by field
-- "Fields without a use are zero." (decisions 1 and 2)
abbrev pub nonzero : ℕ → Bool
nonzero n = not (eqb n 0)

abbrev pub any_name : Request → Bool
any_name q = nonzero q.allocation || nonzero q.node || q.has_provenance

-- an allocation or node without provenance has no use (decision 3)
abbrev pub stray_name : Request → Bool
stray_name q = not q.has_provenance && (nonzero q.allocation || nonzero q.node)

-- "an alignment exponent exceeds 29"
abbrev pub bad_exponent : Request → Bool
bad_exponent q = ltb 29 q.exponent

abbrev pub bad_allocation_kind : Request → Bool
bad_allocation_kind q = ltb 4 q.extra

abbrev pub bad_width : Request → Bool
bad_width q = ltb 2 q.extra

-- "A byte is a word: initialised (1), has provenance (1), position (3), allocation (7), node (12), value (8). An uninitialised byte is 0;
-- without provenance the middle fields are 0."
unfoldable pub bad_byte : ℕ → Bool
bad_byte w = if bit 31 w then not (bit 30 w) && nonzero (w / 2 ^ 8 % 2 ^ 22) else nonzero w

-- a safe retag's fourth word: its zero bit, and its frame, which function entry uses, node or not (decisions 2 and 7)
unfoldable pub bad_settings : State → Request → Bool
bad_settings s q =
    bit 28 q.fourth
    || (if function_entry q then not (is_open (frame_at s (frame_number q))) else nonzero (frame_number q))

-- "metadata kind (2: none, element count, vtable), count (30)": the count has a use beside an element count alone (decisions 9 and 10)
unfoldable pub bad_metadata : List ℕ → Bool
bad_metadata [] = false
bad_metadata (w ∷ ws) = eqb (w / 2 ^ 30) 3 || (not (eqb (w / 2 ^ 30) 1) && nonzero (w % 2 ^ 30))

-- "For extra 3 to 5 a retag's fourth word is zero; a mutable reference that isn't unpin has its layout words skipped unread." (decision 8)
unfoldable pub bad_retag : State → Request → Bool
bad_retag s q =
    if is_safe q then bad_settings s q || (not (is_pinned q) && bad_metadata q.following) else nonzero q.fourth

-- "Kinds 5 and 6 put a frame number, 0 to 31, in the fourth word.", and nothing else (decision 6)
abbrev pub bad_call : Request → Bool
bad_call q =
    any_name q || nonzero q.exponent || nonzero q.extra || nonzero q.address || not (ltb q.fourth frame_count)

-- "a frame is opened while open or used unopened"
abbrev pub is_open_frame : State → Request → Bool
is_open_frame s q = is_open (frame_at s q.fourth)

unfoldable pub is_malformed : Kind → State → Request → Bool
is_malformed Allocate s q = any_name q || bad_exponent q || bad_allocation_kind q
is_malformed Deallocate s q = stray_name q || bad_exponent q || bad_allocation_kind q
is_malformed Load s q = stray_name q || bad_exponent q || nonzero q.extra
is_malformed Store s q = stray_name q || bad_exponent q || nonzero q.extra || any bad_byte q.following
is_malformed Retag s q = stray_name q || nonzero q.exponent || ltb 5 q.extra || bad_retag s q
is_malformed NewCall s q = bad_call q || is_open_frame s q
is_malformed EndCall s q = bad_call q || not (is_open_frame s q)
is_malformed Dereferenceable s q = stray_name q || nonzero q.exponent || nonzero q.extra
is_malformed SignedDereferenceable s q = stray_name q || nonzero q.exponent || nonzero q.extra
is_malformed LeakCheck s q =
    any_name q || nonzero q.exponent || nonzero q.extra || nonzero q.address || nonzero q.fourth
is_malformed Empty s q =
    any_name q || nonzero q.exponent || bad_width q || nonzero q.address || nonzero q.fourth
is_malformed Unused s q = true

-- ---- 2 by the width. M-110: "An address or position too big for the width falls under 2."
abbrev pub is_too_high : Width → ℕ → Bool
is_too_high w address = leb (addresses w) address

-- which byte of a pointer a byte is a fragment of: "position (3)"
abbrev pub position : ℕ → ℕ
position byte = byte / 2 ^ 27 % 2 ^ 3

unfoldable pub is_too_far : Width → ℕ → Bool
is_too_far w byte = leb (pointer_bytes w) (position byte)

-- the bytes that a request stores
abbrev pub stored_bytes : Kind → List ℕ → List ℕ
stored_bytes Allocate following = []
stored_bytes Deallocate following = []
stored_bytes Load following = []
stored_bytes Store following = following
stored_bytes Retag following = []
stored_bytes NewCall following = []
stored_bytes EndCall following = []
stored_bytes Dereferenceable following = []
stored_bytes SignedDereferenceable following = []
stored_bytes LeakCheck following = []
stored_bytes Empty following = []
stored_bytes Unused following = []

-- of every request that has an address, at any length, with or without provenance; in the others it is 0 (decision 105)
unfoldable pub is_too_big : Width → Request → Bool
is_too_big w q = is_too_high w q.address || any (is_too_far w) (stored_bytes q.kind q.following)
