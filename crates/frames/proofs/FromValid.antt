-- The frames of every valid state fit the buffer: 128 allocations, and 1,024 nodes in all.
use Prim.Native.Nat.{ℕ}
use mathlib.Core.Path.{◌≡◌}
use mathlib.Core.Bool.{true}
use mathlib.Core.List.{List}
use native.Mathlib.Omega.{arith}
use Rattle.definition.specs.Memory.{Memory, Provenance, no_allocation, node_count, was_made}
use Rattle.definition.specs.Frame.{Frame, State, entries}
use Rattle.definition.specs.Valid.{Valid, ValidFrame, ValidState}
use Rattle.definition.proofs.Alls.{all-imp}
use Rattle.definition.proofs.ValidMemory.{was-made}
use Rattle.definition.proofs.Counts.{part-of-sum}
use Rattle.frames.specs.Buffer.{frames_held, FitsEntry, FitsFrame, HoldsFrames}

pub made-fits : (m : Memory) (e : Provenance) → Valid m → was_made m e ≡ true → FitsEntry e
made-fits m e v w =
    let made = was-made m e w in
    record {
      allocation = omega (arith, made.allocation, v.bounded.allocations);
      node = omega (arith, made.node, part-of-sum node_count no_allocation m e.allocation made.allocation, v.bounded.nodes);
    }

pub frame-fits : (m : Memory) → Valid m → (f : Frame) → ValidFrame m f → FitsFrame f
frame-fits m v f valid =
    record { room = valid.room; small = all-imp (λ e. was_made m e ≡ true) FitsEntry (λ e w. made-fits m e v w) (entries f) valid.made }

pub valid-holds : (s : State) (buffer : List ℕ) → ValidState s → buffer ≡ frames_held s.frames → HoldsFrames s.frames buffer
valid-holds s buffer v e =
    record {
      count = v.count;
      each = all-imp (ValidFrame s.memory) FitsFrame (frame-fits s.memory v.memory) s.frames v.frames;
      held = e;
    }
