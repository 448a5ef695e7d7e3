-- The buffers' lengths one by one; and zeros of these lengths hold the empty state.
use Prim.Native.Nat.{ℕ}
use mathlib.Core.Path.{◌≡◌, ap, ◌∙◌}
use mathlib.Core.Bool.{Bool, true, ◌&&◌}
use mathlib.Core.List.{List, ◌++◌}
use native.Mathlib.Omega.{arith}
use borrow.Author.Tests.{eqb-true, eq-eqb}
use lib.Dec.{eqb}
use lib.ListN.{length, replicate}
use Rattle.definition.specs.Frame.{empty}
use Rattle.definition.proofs.Booleans.{and_left, and_right}
use Rattle.definition.proofs.ValidRuns.{valid-empty}
use Rattle.tables.specs.Encoding.{Buffers, encode}
use Rattle.tables.specs.Held.{buffers}
use Rattle.tables.proofs.ReadBack.{zeros-hold}
use Rattle.frames.specs.Buffer.{HoldsFrames}
use Rattle.state.specs.Lengths.{have_memory_lengths, have_lengths}
use Rattle.state.specs.State.{HoldsState}

-- ---- the lengths
pub record MemoryLengths (b : Buffers) : Type 0 where
  pub allocs : length b.allocs ≡ 1152
  pub parents : length b.parents ≡ 1024
  pub protectors : length b.protectors ≡ 1024
  pub words : length b.words ≡ 4096
  pub codes : length b.codes ≡ 32768

pub record Lengths (b : Buffers) (F : List ℕ) : Type 0 where
  pub allocs : length b.allocs ≡ 1152
  pub parents : length b.parents ≡ 1024
  pub protectors : length b.protectors ≡ 1024
  pub words : length b.words ≡ 4096
  pub codes : length b.codes ≡ 32768
  pub frames : length F ≡ 2080

-- the first of two tests, and the second
module _ (n k : ℕ) (rest : Bool) (e : eqb n k && rest ≡ true) where
  head : n ≡ k
  head = eqb-true n k (and_left (eqb n k) rest e)

  tail : rest ≡ true
  tail = and_right (eqb n k) rest e

pub memory-lengths : (b : Buffers) → have_memory_lengths b ≡ true → MemoryLengths b
memory-lengths b e =
    let p = tail (length b.allocs) 1152 _ e in
    let r = tail (length b.parents) 1024 _ p in
    let w = tail (length b.protectors) 1024 _ r in
    record {
      allocs = head (length b.allocs) 1152 _ e;
      parents = head (length b.parents) 1024 _ p;
      protectors = head (length b.protectors) 1024 _ r;
      words = head (length b.words) 4096 _ w;
      codes = eqb-true (length b.codes) 32768 (tail (length b.words) 4096 _ w);
    }

module _ (b : Buffers) (F : List ℕ) (e : have_lengths b F ≡ true) where
  pub of-memory : have_memory_lengths b ≡ true
  of-memory = and_left (have_memory_lengths b) (eqb (length F) 2080) e

  pub of-frames : length F ≡ 2080
  of-frames = eqb-true (length F) 2080 (and_right (have_memory_lengths b) (eqb (length F) 2080) e)

  pub lengths : Lengths b F
  lengths =
      let m = memory-lengths b of-memory in
      record { allocs = m.allocs; parents = m.parents; protectors = m.protectors; words = m.words; codes = m.codes; frames = of-frames }

pub have-lengths : (A P R W C F : List ℕ) → length A ≡ 1152 → length P ≡ 1024 → length R ≡ 1024 → length W ≡ 4096 → length C ≡ 32768 → length F ≡ 2080
    → have_lengths (buffers A P R W C) F ≡ true
have-lengths A P R W C F a p r w c f =
    rw (eq-eqb (length A) 1152 a, eq-eqb (length P) 1024 p, eq-eqb (length R) 1024 r, eq-eqb (length W) 4096 w, eq-eqb (length C) 32768 c, eq-eqb (length F) 2080 f)

-- ---- zeros of these lengths
pub all-zero : (b : Buffers) → have_memory_lengths b ≡ true → {A P R W C : List ℕ} → A ≡ replicate (length b.allocs) 0 → P ≡ replicate (length b.parents) 0
    → R ≡ replicate (length b.protectors) 0 → W ≡ replicate (length b.words) 0 → C ≡ replicate (length b.codes) 0
    → buffers A P R W C ≡ encode empty.memory
all-zero b e a p r w c =
    let l = memory-lengths b e in
    let zeros : ℕ → List ℕ = λ k. replicate k 0 in
    let a' = a ∙ ap zeros l.allocs in
    let p' = p ∙ ap zeros l.parents in
    let r' = r ∙ ap zeros l.protectors in
    let w' = w ∙ ap zeros l.words in
    let c' = c ∙ ap zeros l.codes in
    (λ i. buffers (a' i) (p' i) (r' i) (w' i) (c' i)) ∙ zeros-hold.equal

pub empty-held : {b : Buffers} {F : List ℕ} → b ≡ encode empty.memory → HoldsFrames empty.frames F → HoldsState empty b F
empty-held m f = record { valid = valid-empty; memory = m; frames = f.held }
