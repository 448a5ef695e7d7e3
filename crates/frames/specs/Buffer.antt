-- How one buffer holds a run's 32 frames, 65 numbers each: the first says how many entries the frame has, and 64 places follow.
use Rattle.std.specs.Prelude.{ℕ, suc, ◌+◌, ◌-◌, ◌*◌, ◌/◌, ◌%◌, ◌<◌, ◌≤◌, ◌≡◌, List, [], ◌∷◌, ◌++◌, map, length, get_or, replicate}
use Rattle.definition.specs.Memory.{Provenance}
use Rattle.definition.specs.Frame.{Frame, entries, frame_count}
use Rattle.definition.specs.Frame.Frame.{Closed, Open}
use Rattle.definition.specs.Retag.{entry_bound}
use Rattle.definition.specs.Valid.{All}
use Rattle.frames.specs.List.{provenance_of}
use Rattle.frames.specs.declared.Entry.{Entry}

-- an entry as one number, and read back from it
abbrev pub entry_number : Provenance → ℕ
entry_number e = e.allocation * 4096 + e.node

abbrev pub entry_in : ℕ → Entry
entry_in w = record { allocation = w / 4096; node = w % 4096 }

-- the entries that numbers stand for
abbrev pub entries_in : List ℕ → List Provenance
entries_in numbers = map (λ w. provenance_of (entry_in w)) numbers

-- 0 for a closed frame, else 1 and the number of its entries
abbrev pub head_number : Frame → ℕ
head_number Closed = 0
head_number (Open es) = suc (length es)

-- a frame's 65 numbers: zeros behind its entries
unfoldable pub frame_numbers : Frame → List ℕ
frame_numbers f = head_number f ∷ (map entry_number (entries f) ++ replicate (64 - length (entries f)) 0)

unfoldable pub frames_held : List Frame → List ℕ
frames_held [] = []
frames_held (f ∷ fs) = frame_numbers f ++ frames_held fs

-- the entries of frame f
abbrev pub entries_at : List Frame → ℕ → List Provenance
entries_at fs f = entries (get_or fs f Closed)

-- ---- what fits there: every valid state's frames do (proofs/FromValid.antt)
pub record FitsEntry (e : Provenance) : Type 0 where
  pub allocation : e.allocation < 128
  pub node : e.node < 4096

pub record FitsFrame (f : Frame) : Type 0 where
  pub room : length (entries f) ≤ entry_bound
  pub small : All FitsEntry (entries f)

pub record HoldsFrames (fs : List Frame) (buffer : List ℕ) : Type 0 where
  pub count : length fs ≡ frame_count
  pub each : All FitsFrame fs
  pub held : buffer ≡ frames_held fs
