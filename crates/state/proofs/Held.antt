-- Buffers that hold a state have its memory, and their lengths.
use Prim.Native.Nat.{ℕ, ◌≤◌}
use mathlib.Core.Path.{ap, ◌∙◌}
use mathlib.Core.List.{List}
use native.Mathlib.Omega.{arith}
use lib.ListN.{length}
use Rattle.definition.specs.Memory.{Memory}
use Rattle.definition.specs.Frame.{State}
use Rattle.definition.specs.Valid.{Valid}
use Rattle.tables.specs.Encoding.{Buffers, parents_of, protectors_of, words_of, codes_of}
use Rattle.tables.specs.Held.{buffers, Holds}
use Rattle.tables.proofs.Focus.{length-held}
use Rattle.tables.proofs.Records.{length-held-records}
use Rattle.tables.proofs.Sizes.{parents-fit, protectors-fit, words-fit, codes-fit}
use Rattle.tables.proofs.ReadBack.{holds-allocs, holds-parents, holds-protectors, holds-words, holds-codes}
use Rattle.frames.proofs.FromValid.{valid-holds}
use Rattle.frames.proofs.Frames.{buffer-length}
use Rattle.state.specs.State.{HoldsState}
use Rattle.state.proofs.Lengths.{Lengths}

module _ {s : State} {b : Buffers} {F : List ℕ} (h : HoldsState s b F) where
  pub memory-held : Holds s.memory b
  memory-held = record { valid = h.valid.memory; equal = h.memory }

  pub words-held : length b.words ≤ 4096
  words-held =
      omega (arith, ap length (holds-words memory-held), length-held 4096 words_of s.memory (words-fit s.memory h.valid.memory))

-- the lengths of the buffers
pub state-lengths : {s : State} {A P R W C F : List ℕ} → HoldsState s (buffers A P R W C) F → Lengths (buffers A P R W C) F
state-lengths {s} {A} {P} {R} {W} {C} {F} h =
    let m : Memory = s.memory in
    let v : Valid m = h.valid.memory in
    let k : Holds m (buffers A P R W C) = record { valid = v; equal = h.memory } in
    record {
      allocs = ap length (holds-allocs k) ∙ length-held-records m v.bounded.allocations;
      parents = ap length (holds-parents k) ∙ length-held 1024 parents_of m (parents-fit m v);
      protectors = ap length (holds-protectors k) ∙ length-held 1024 protectors_of m (protectors-fit m v);
      words = ap length (holds-words k) ∙ length-held 4096 words_of m (words-fit m v);
      codes = ap length (holds-codes k) ∙ length-held 32768 codes_of m (codes-fit m v);
      frames = buffer-length s.frames F 0 (valid-holds s F h.valid h.frames) (omega arith);
    }
