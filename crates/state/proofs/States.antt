-- A state that the buffers of a run hold: what the cores ask of it, and the five buffers from their parts.
use Prim.Native.Nat.{ℕ}
use mathlib.Core.Path.{◌≡◌, refl, ap}
use mathlib.Core.List.{List}
use Rattle.definition.specs.Memory.{Memory}
use Rattle.definition.specs.Frame.{State}
use Rattle.tables.specs.Encoding.{Buffers, words_of, held, encode}
use Rattle.tables.specs.Held.{buffers, Holds, Records, Trees}
use Rattle.tables.proofs.ReadBack.{encode-of}
use Rattle.frames.specs.Buffer.{HoldsFrames}
use Rattle.frames.proofs.FromValid.{valid-holds}
use Rattle.parts.specs.Trees.{HoldsMarked}
use Rattle.parts.proofs.Lent.{records-of}
use Rattle.state.specs.State.{HoldsTreesAndFrames}

-- ---- trees and frames
module _ {s : State} {A P R C F : List ℕ} (h : HoldsTreesAndFrames s A P R C F) where
  pub frames-held : HoldsFrames s.frames F
  frames-held = valid-holds s F h.valid h.frames

  pub trees-held : HoldsMarked s.memory A P R C
  trees-held = record { valid = h.valid.memory; trees = h.trees }

  pub records-held : Records s.memory A
  records-held = records-of trees-held

  -- with the words that the memory has
  pub all_held : Holds s.memory (buffers A P R (held 4096 words_of s.memory) C)
  all_held = record {
    valid = h.valid.memory;
    equal = encode-of s.memory h.trees.allocs h.trees.parents h.trees.protectors refl h.trees.codes;
  }

-- the parts of five buffers that are a memory's
pub trees-of : (m : Memory) {A P R W C : List ℕ} → buffers A P R W C ≡ encode m → Trees m A P R C
unfolding encode
trees-of m e = record {
  allocs = ap (λ (b : Buffers). b.allocs) e;
  parents = ap (λ (b : Buffers). b.parents) e;
  protectors = ap (λ (b : Buffers). b.protectors) e;
  codes = ap (λ (b : Buffers). b.codes) e;
}
