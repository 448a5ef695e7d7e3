-- What a retag asks of the buffers and what it leaves, said of each state whose memory they hold.
use Rattle.std.specs.Prelude as std
use Rattle.std.specs.Prelude.{ℕ, ◌+◌, ◌≤◌, ◌<◌, ◌≡◌, Bool, false, ◌&&◌, ◌||◌, List, [], ◌∷◌, ◌++◌, map, eqb, ltb, length, get_or, set, if◌then◌else◌, Result, Ok, Err}
use Rattle.std.proofs.Math.Option.{Option, none, some}
use Rattle.definition.specs.Notation.{◌when◌, ◌or◌, sum_of, mutate_at}
use Rattle.definition.specs.Refusal.{never_made, below_start, size_exceeded}
use Rattle.definition.specs.Permission.{Protected, is_yes, permission}
use Rattle.definition.specs.Tree.{Visit}
use Rattle.definition.specs.Layout.{FreezeMask}
use Rattle.definition.specs.Memory.{ThinPointer, size, Memory, allocation_at, target, names_never_made, check_ptr, node_count, exceeds_bounds}
use Rattle.definition.specs.Memory as definition
use Rattle.definition.specs.Frame.{Frame, entries, State, frame_at}
use Rattle.definition.specs.Frame.Frame.{Closed, Open}
use Rattle.definition.specs.Retag.{ReborrowSettings, of_node, entry_bound, after_reborrow_in, retag}
use Rattle.definition.proofs.Retags.{reads_visit}
use Rattle.refusal.specs.Number.{number}
use Rattle.refusal.specs.declared.Refusal.{Refusal}
use Rattle.pointer.specs.declared.Provenance.{Provenance}
use Rattle.answer.specs.Answer.{answer_of, reply_to}
use Rattle.answer.specs.Answer.Gives.{ThePointer}
use Rattle.answer.specs.declared.Answer.{Answer}
use Rattle.answer.specs.declared.Answer.TheVariants.{Refused, Pointer}
use Rattle.tables.specs.Encoding.{codes_of, held}
use Rattle.tables.specs.Held.{Used, Trees}
use Rattle.tables.specs.declared.Allocation as lent_record
use Rattle.tables.specs.declared.Starts.{Starts}
use Rattle.bounds.specs.Bounds.{target_in}
use Rattle.parts.specs.declared.Parts.{Parts}
use Rattle.parts.specs.Trees.{PartsOf, after_visit}
use Rattle.retag.specs.declared.ReborrowSettings as code
use Rattle.retag.specs.Settings.{inside_codes, place_in}

-- an allocation and node that were made, the record that was looked up, how much m uses, and where the allocation's parts lie
pub record Located (m : Memory) (A : List ℕ) (provenance : Option definition.Provenance) (n : ℕ) (a : lent_record.Allocation) (u : Starts) (r : Parts) : Type 0 where
  pub made : names_never_made m provenance ≡ false
  pub read : a ≡ target_in A provenance
  pub used : Used m (sum_of size m) u.nodes u.codes
  pub part : PartsOf m n r

-- ---- the tests before the tree is visited: 4, 7 to 9, 14, 15
unfoldable pub bounds_refusal : Bool → ℕ → ℕ → ThinPointer → Memory → ℕ
bounds_refusal is_protected entered len p m =
    let a = target m p in
    never_made when names_never_made m p.provenance
    or check_ptr a p 0 len
    or below_start when (eqb len 0 && ltb p.address a.address)
    or size_exceeded when (exceeds_bounds m (of_node a) || (is_protected && ltb entry_bound (entered + 1)))

-- ---- a visit of allocation n's tree
-- via a node of it, of bytes that are in a row
pub record Reached (m : Memory) (n node from len : ℕ) : Type 0 where
  pub made : n < length m
  pub in_tree : node < node_count (allocation_at m n)
  pub within : from + len ≤ size (allocation_at m n)

-- the reads of the inside bytes, which lie from addr on and have these codes
abbrev pub reads_at : Memory → ℕ → ℕ → ℕ → List ℕ → Visit
reads_at m n node addr codes = reads_visit node (place_in (allocation_at m n).address addr (length codes)) (map permission codes)

abbrev pub after_reads : Memory → ℕ → ℕ → ℕ → List ℕ → Memory
after_reads m n node addr codes = mutate_at n (after_visit (reads_at m n node addr codes)) m

-- ---- the new node
-- the tests were passed: there is room for a child
pub record Fits (m : Memory) (n node from len : ℕ) : Type 0 where
  pub reached : Reached m n node from len
  pub room : exceeds_bounds m (of_node (allocation_at m n)) ≡ false

-- the inside bytes lie from addr on
pub record Passed (m : Memory) (n node addr len : ℕ) : Type 0 where
  pub above : (len ≡ 0 → ⊥) → (allocation_at m n).address ≤ addr
  pub fits : Fits m n node (place_in (allocation_at m n).address addr len) len

-- all that is tested: it is refused, and the codes are as they were; or it is not, there is a place for the child, and its reads are made
pub record Tested (m : Memory) (n node addr : ℕ) (codes : List ℕ) (answer : ℕ) (C : List ℕ) : Type 0 where
  pub passed : answer ≡ 0 → Passed m n node addr (length codes)
  pub left : C ≡ held 32768 codes_of (if eqb answer 0 then after_reads m n node addr codes else m)

-- its number, and the buffers with it
pub record Added (w : ReborrowSettings) (p : ThinPointer) (m : Memory) (n child : ℕ) (A P R C : List ℕ) : Type 0 where
  pub number : child ≡ node_count (allocation_at m n)
  pub trees : Trees (mutate_at n (after_reborrow_in w p) m) A P R C

-- ---- a retag
-- the frame has so many entries, and the bytes start with the codes of a mask
pub record Asked (s : State) (frame count : ℕ) (settings : code.ReborrowSettings) (mask : FreezeMask) (codes : List ℕ) : Type 0 where
  pub entered : count ≡ length (entries (frame_at s frame))
  pub inside : codes ≡ inside_codes settings mask

-- the answer: the pointer that is made, or the refusal
abbrev pub answered : Result (std.Option Provenance) Refusal → Answer
answered (Ok provenance) = Pointer provenance
answered (Err refusal) = Refused (number refusal)

-- the answer, what it stands for in the definition, and the buffers; they hold the memory as it was where it is refused
pub record Retagged (w : ReborrowSettings) (frame : ℕ) (p : ThinPointer) (s : State) (answer : Answer) (A P R C : List ℕ) : Type 0 where
  pub reply : answer ≡ reply_to ThePointer (retag w frame p s).0
  pub answers : (words : List ℕ) → answer_of answer words ≡ (retag w frame p s).0
  pub trees : Trees (retag w frame p s).1.memory A P R C

-- the frames, which are the caller's: under a protector the pointer that is given is entered, if it has provenance
-- (the definition's `frames_after`, said of the frames alone)
abbrev pub entered : Protected → ℕ → Option definition.Provenance → List Frame → List Frame
entered protected f none fs = fs
entered protected f (some child) fs = if is_yes protected then set fs f (Open (entries (get_or fs f Closed) ++ (child ∷ []))) else fs
