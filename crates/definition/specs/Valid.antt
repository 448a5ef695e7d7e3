-- What a lent memory must be (refusal 1), and what a run's states are. Document 01: "Well formed: ..", "Bounds of one memory".
use Rattle.std.specs.Prelude.{ℕ, zero, suc, ◌+◌, ◌^◌, ◌≤◌, ◌<◌, ◌≡◌, Bool, true, false, List, [], ◌∷◌, length}
use Rattle.definition.specs.Notation.{sum_of}
use Rattle.definition.specs.Width.{Width, addresses}
use Rattle.definition.specs.Permission.{is_protected, is_yes}
use Rattle.definition.specs.Tree.{Node}
use Rattle.definition.specs.Memory.{Memory, Allocation, is_live, size, is_misaligned, overlaps, bounds, node_count, code_count, was_made}
use Rattle.definition.specs.Frame.{Frame, entries, State, frame_count}
use Rattle.definition.specs.Retag.{entry_bound}
use Rattle.definition.specs.Request.{bad_byte, is_too_far}
use Rattle.definition.specs.Run.{IsWord, RunState}

-- P of each element; P of each element and its number, counted from n on
abbrev pub All {ℓ} : {A : Type 0} → (A → Type ℓ) → List A → Type ℓ
All P [] = Unit
All P (x ∷ xs) = P x × All P xs

abbrev pub AllFrom {ℓ} : {A : Type 0} → ℕ → (ℕ → A → Type ℓ) → List A → Type ℓ
AllFrom n P [] = Unit
AllFrom n P (x ∷ xs) = P n x × AllFrom (suc n) P xs

-- "parents earlier in the same allocation; root unprotected": the root's parent is noted as 0, and its mark says no (decision 48)
abbrev pub Placed : ℕ → Node → Type 0
Placed zero x = (x.parent ≡ 0) × (is_yes x.protected ≡ false)
Placed (suc n) x = x.parent ≤ n

-- node n of an allocation of so many bytes
pub record ValidNode (bytes : ℕ) (live : Bool) (n : ℕ) (x : Node) : Type 0 where
  pub placed : Placed n x
  pub wide : length x.permissions ≡ bytes
  -- "on a live allocation, codes 6 to e exactly in protected rows"
  pub marked : live ≡ true → All (λ p. is_protected p ≡ is_yes x.protected) x.permissions

-- "valid words"
pub record ValidByte (w : ℕ) : Type 0 where
  pub word : IsWord w
  pub well_formed : bad_byte w ≡ false

-- "addresses `pick` could have accepted", and exponents that a request can have (decision 48)
pub record ValidAllocation (a : Allocation) : Type 0 where
  pub exponent : a.exponent ≤ 29
  pub positive : 0 < a.address
  pub aligned : is_misaligned a.address a.exponent ≡ false
  pub in_space : a.address + size a < 2 ^ 64
  pub words : All ValidByte a.words
  pub root : 0 < node_count a
  pub nodes : AllFrom 0 (ValidNode (size a) (is_live a.state)) a.nodes

-- "live ones not overlapping": no later one overlaps an earlier one
abbrev pub Separate : Memory → Type 0
Separate [] = Unit
Separate (a ∷ m) = All (λ b. is_live b.state ≡ true → overlaps b.address (size b) a ≡ false) m × Separate m

-- "128 allocations; 4,096 words; 1,024 nodes; 32,768 codes"
pub record Bounded (m : Memory) : Type 0 where
  pub allocations : length m ≤ bounds.allocations
  pub words : sum_of size m ≤ bounds.words
  pub nodes : sum_of node_count m ≤ bounds.nodes
  pub codes : sum_of code_count m ≤ bounds.codes

pub record Valid (m : Memory) : Type 0 where
  pub each : All ValidAllocation m
  pub separate : Separate m
  pub bounded : Bounded m

-- "64 entries a frame; 32 frames in the program", and entries that name what was made
pub record ValidFrame (m : Memory) (f : Frame) : Type 0 where
  pub room : length (entries f) ≤ entry_bound
  pub made : All (λ e. was_made m e ≡ true) (entries f)

pub record ValidState (s : State) : Type 0 where
  pub memory : Valid s.memory
  pub count : length s.frames ≡ frame_count
  pub frames : All (ValidFrame s.memory) s.frames

-- ---- at a width. M-110: "Address sums .. fragment positions .. follow it."
-- "Address plus size is at most 2 to the width, less 1.", and no byte's position is too big, of dead allocations too
pub record NarrowAllocation (w : Width) (a : Allocation) : Type 0 where
  pub in_space : a.address + size a < addresses w
  pub positions : All (λ b. is_too_far w b ≡ false) a.words

abbrev pub Narrow : Width → Memory → Type 0
Narrow w m = All (NarrowAllocation w) m

pub record ValidRun (r : RunState) : Type 0 where
  pub state : ValidState r.state
  pub narrow : Narrow r.width r.state.memory
