-- Frames: new call and end call. mem.rs: `TreeBorrowsFrameExtra`, `release_protector`, `new_call`, `end_call`; document 01: "Retag and frames".
use Rattle.std.specs.Prelude.{ℕ, Bool, true, false, not, ◌||◌, List, [], ◌∷◌, map, get_or, replicate, set}
use Rattle.std.proofs.Math.Option.{some}
use Rattle.definition.specs.Notation.{◌when◌, ◌or◌, mutate_at, any}
use Rattle.definition.specs.Refusal.{never_made, not_protected}
use Rattle.definition.specs.Permission.{Protected, is_yes, is_protected, unprotected, end_access}
use Rattle.definition.specs.Permission.Permission.{Unprot}
use Rattle.definition.specs.Permission.PermissionUnprot.{Cell}
use Rattle.definition.specs.Permission.Protected.{No}
use Rattle.definition.specs.Tree.{Node, node_at, Visit, visit_refusal, visited}
use Rattle.definition.specs.Memory.{Memory, Allocation, Liveness, allocation_at, changed, Provenance, Answer, accepted, unless_refused, was_made}
use Rattle.definition.specs.Memory.Liveness.{Live, Dead}

-- a frame is closed, or open with its protector list
pub data Frame : Type 0 where
  Closed : Frame
  Open : List Provenance → Frame

abbrev pub is_open : Frame → Bool
is_open Closed = false
is_open (Open entries) = true

abbrev pub entries : Frame → List Provenance
entries Closed = []
entries (Open es) = es

-- "32 frames in the program"
abbrev pub frame_count : ℕ
frame_count = 32

pub record State : Type 0 where
  pub memory : Memory
  pub frames : List Frame

abbrev pub frame_at : State → ℕ → Frame
frame_at s f = get_or s.frames f Closed

-- "no allocation made, no frame open"
abbrev pub empty : State
empty = record { memory = []; frames = replicate frame_count Closed }

-- a request to the memory alone leaves the frames
abbrev pub in_memory : State → Answer × Memory → Answer × State
in_memory s outcome = (outcome.0, record { memory = outcome.1; frames = s.frames })

-- ---- new call
unfoldable pub new_call : ℕ → State → Answer × State
new_call f s = (accepted, record { memory = s.memory; frames = set s.frames f (Open []) })

-- ---- the release of one entry: the end of its protector (Permission, `protector_end`). The paper: the access at its end is made through the protected node
-- and reaches the nodes that are no descendants of it; these were used through it, and a write of their parent, foreign to them, would disable them
-- 16: the node is not marked protected, or holds an unprotected permission
abbrev pub lacks_protector : Node → Bool
lacks_protector x = not (is_yes x.protected) || any (λ p. not (is_protected p)) x.permissions

-- "unprotect the node"; on a dead allocation "only codes change; the mark stays"
abbrev pub mark_after : Liveness → Protected → Protected
mark_after Live protected = No
mark_after Dead protected = protected

abbrev pub unprotect_node : Liveness → Node → Node
unprotect_node state x =
    record { parent = x.parent; protected = mark_after state x.protected; permissions = map unprotected x.permissions }

-- "its accesses reach every node but it and its descendants": local to its ancestors, foreign to the rest;
-- at each byte, the access that the node's permission there makes
abbrev pub release_visit : ℕ → List Node → Visit
release_visit n nodes =
    record {
      accessed = n;
      access_at = λ b. end_access (get_or (node_at nodes n).permissions b (Unprot Cell));
      spared = some n;
    }

-- "unprotect the node, then on a live allocation its accesses reach" the others: what is refused, and what is left
abbrev pub release_visit_refusal : Liveness → ℕ → List Node → ℕ
release_visit_refusal Live n nodes = visit_refusal (release_visit n nodes) (mutate_at n (unprotect_node Live) nodes)
release_visit_refusal Dead n nodes = 0

abbrev pub released_nodes : Liveness → ℕ → List Node → List Node
released_nodes Live n nodes = visited (release_visit n nodes) (mutate_at n (unprotect_node Live) nodes)
released_nodes Dead n nodes = mutate_at n (unprotect_node Dead) nodes

-- 16 to 23, 26 to 28
unfoldable pub release_refusal_in : ℕ → Allocation → ℕ
release_refusal_in n a =
    not_protected when lacks_protector (node_at a.nodes n) or release_visit_refusal a.state n a.nodes

unfoldable pub release_refusal : Memory → Provenance → ℕ
release_refusal m e = release_refusal_in e.node (allocation_at m e.allocation)

unfoldable pub after_release_in : ℕ → Allocation → Allocation
after_release_in n a = changed a a.state a.words (released_nodes a.state n a.nodes)

unfoldable pub after_release : Memory → Provenance → Memory
after_release m e = mutate_at e.allocation (after_release_in e.node) m

-- ---- end call: "An end call checks 4 for all entries, then 16 to 23 entry by entry.", and 26 to 28 in place of 17 to 19 there too (M-100)
-- "Release, in list order", each on what the ones before it left
unfoldable pub release_all_refusal : Memory → List Provenance → ℕ
release_all_refusal m [] = 0
release_all_refusal m (e ∷ es) = release_refusal m e or release_all_refusal (after_release m e) es

unfoldable pub after_release_all : Memory → List Provenance → Memory
after_release_all m [] = m
after_release_all m (e ∷ es) = after_release_all (after_release m e) es

unfoldable pub end_call_refusal : Memory → List Provenance → ℕ
end_call_refusal m es = never_made when any (λ e. not (was_made m e)) es or release_all_refusal m es

unfoldable pub accept_end_call : ℕ → State → Answer × State
accept_end_call f s = (
  accepted,
  record { memory = after_release_all s.memory (entries (frame_at s f)); frames = set s.frames f Closed },
)

unfoldable pub end_call : ℕ → State → Answer × State
end_call f s = unless_refused (end_call_refusal s.memory (entries (frame_at s f))) s (accept_end_call f s)
