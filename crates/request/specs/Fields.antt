-- What the code's values are in the definition.
use Rattle.std.specs.Prelude.{ℕ, ◌%◌, Bool, ◌||◌, List, []}
use Rattle.definition.specs.Frame.{State, frame_count, frame_at, is_open}
use Rattle.definition.specs.Request as definition
use Rattle.definition.specs.Request.{any_name, nonzero, frame_number}
use Rattle.request.specs.declared.Kind.{Kind}
use Rattle.request.specs.declared.Kind.TheVariants.{Allocate, Deallocate, Load, Store, Retag, NewCall, EndCall, Dereferenceable, SignedDereferenceable, LeakCheck, Empty, Unused}
use Rattle.request.specs.declared.Request.{Request}

abbrev pub kind_of : Kind → definition.Kind
kind_of Allocate = definition.Kind.Allocate
kind_of Deallocate = definition.Kind.Deallocate
kind_of Load = definition.Kind.Load
kind_of Store = definition.Kind.Store
kind_of Retag = definition.Kind.Retag
kind_of NewCall = definition.Kind.NewCall
kind_of EndCall = definition.Kind.EndCall
kind_of Dereferenceable = definition.Kind.Dereferenceable
kind_of SignedDereferenceable = definition.Kind.SignedDereferenceable
kind_of LeakCheck = definition.Kind.LeakCheck
kind_of Empty = definition.Kind.Empty
kind_of Unused = definition.Kind.Unused

-- the fields that the code holds, with the words that follow, which it leaves where they are
abbrev pub request_of : Request → List ℕ → definition.Request
request_of q following =
    record {
      kind = kind_of q.kind;
      allocation = q.allocation;
      node = q.node;
      has_provenance = q.has_provenance;
      exponent = q.exponent;
      extra = q.extra;
      address = q.address;
      fourth = q.fourth;
      following = following;
    }

-- the same where the following words do not matter
abbrev pub fields_of : Request → definition.Request
fields_of q = request_of q []

-- some field of the first three words but the kind is not zero
abbrev pub any_field : definition.Request → Bool
any_field q = any_name q || nonzero q.exponent || nonzero q.extra || nonzero q.address

-- ---- frames
abbrev pub open_in : State → ℕ → Bool
open_in s f = is_open (frame_at s f)

-- the frame that a request names: a retag in a field of its fourth word, the others by that word. Kinds 4 to 6 use it
abbrev pub frame_by : Kind → Request → ℕ
frame_by Allocate q = q.fourth % frame_count
frame_by Deallocate q = q.fourth % frame_count
frame_by Load q = q.fourth % frame_count
frame_by Store q = q.fourth % frame_count
frame_by Retag q = frame_number (fields_of q)
frame_by NewCall q = q.fourth % frame_count
frame_by EndCall q = q.fourth % frame_count
frame_by Dereferenceable q = q.fourth % frame_count
frame_by SignedDereferenceable q = q.fourth % frame_count
frame_by LeakCheck q = q.fourth % frame_count
frame_by Empty q = q.fourth % frame_count
frame_by Unused q = q.fourth % frame_count

abbrev pub frame_used : Request → ℕ
frame_used q = frame_by q.kind q
