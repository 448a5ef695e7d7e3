-- The 65 numbers of one frame: the frame is told by them, and what they are when it is opened, closed and gets an entry more.
use Prim.Native.Nat.{ℕ, suc, ◌+◌, ◌-◌, ◌*◌, ◌/◌, ◌%◌, ◌<◌}
use mathlib.Core.Path.{◌≡◌, refl, sym, ap, ap₂, ◌∙◌}
use mathlib.Core.Bool.{false, not, false≢true}
use mathlib.Core.List.{List, [], ◌∷◌, ◌++◌, map, map-append}
use native.Mathlib.Omega.{arith}
use borrow.Author.Tests.{ne_eqb}
use lib.Dec.{eqb}
use lib.ListN.{length, get_or, take, drop, set, replicate, length-append, length-map, length-replicate, replicate-append-replicate, get_or-map}
use lib.Seq.{set_at, append_snoc, take_at}
use Rattle.definition.specs.Memory.{Provenance}
use Rattle.definition.specs.Frame.{Frame, is_open, entries}
use Rattle.definition.specs.Frame.Frame.{Closed, Open}
use Rattle.definition.specs.Valid.{All}
use Rattle.definition.proofs.Alls.{all_append}
use Rattle.frames.specs.List.{provenance_of}
use Rattle.frames.specs.Buffer.{entry_number, entry_in, entries_in, head_number, frame_numbers, FitsEntry, FitsFrame}
use Rattle.frames.specs.declared.Entry.{Entry}

pub closed-fits : FitsFrame Closed
closed-fits = record { room = omega arith; small = tt }

pub numbers-length : (f : Frame) → FitsFrame f → length (frame_numbers f) ≡ 65
unfolding frame_numbers
numbers-length f fits = simp (length-append, length-map, length-replicate) (omega (arith, fits.room))

-- ---- an entry's number there and back
entry-back : (e : Provenance) → FitsEntry e → provenance_of (entry_in (entry_number e)) ≡ e
entry-back e fits =
    let a : (e.allocation * 4096 + e.node) / 4096 ≡ e.allocation = omega (arith, fits.node) in
    let n : (e.allocation * 4096 + e.node) % 4096 ≡ e.node = omega (arith, fits.node) in
    λ i. record { allocation = a i; node = n i }

pub numbers-back : (es : List Provenance) → All FitsEntry es → entries_in (map entry_number es) ≡ es
numbers-back [] fits = refl
numbers-back (e ∷ es) fits = ap₂ ◌∷◌ (entry-back e fits.0) (numbers-back es fits.1)

entries-same : (es ds : List Provenance) → All FitsEntry es → All FitsEntry ds → map entry_number es ≡ map entry_number ds → es ≡ ds
entries-same es ds p q e = sym (numbers-back es p) ∙ ap entries_in e ∙ numbers-back ds q

-- the entry that is read from the number at a place
pub number_at : (numbers : List ℕ) (i : ℕ) (e : Entry) → e ≡ entry_in (get_or numbers i 0) → provenance_of e ≡ get_or (entries_in numbers) i (provenance_of (entry_in 0))
number_at numbers i e is = ap provenance_of is ∙ sym (get_or-map (λ (w : ℕ). provenance_of (entry_in w)) numbers i 0)

pub numbers-count : (numbers : List ℕ) → length (entries_in numbers) ≡ length numbers
numbers-count numbers = length-map numbers (λ (w : ℕ). provenance_of (entry_in w))

-- ---- two frames with the same numbers are equal
pub frame_same : (f g : Frame) → FitsFrame f → FitsFrame g → frame_numbers f ≡ frame_numbers g → f ≡ g
unfolding frame_numbers
frame_same Closed Closed p q e = refl
frame_same Closed (Open ds) p q e = absurd (omega (arith, ap (λ (l : List ℕ). get_or l 0 0) e))
frame_same (Open es) Closed p q e = absurd (omega (arith, ap (λ (l : List ℕ). get_or l 0 0) e))
frame_same (Open es) (Open ds) p q e =
    let n : length es ≡ length ds = omega (arith, ap (λ (l : List ℕ). get_or l 0 0) e) in
    let part : (xs : List Provenance) → length xs ≡ length ds → take (length ds) (map entry_number xs ++ replicate (64 - length xs) 0) ≡ map entry_number xs
    = λ xs l. take_at (map entry_number xs) (replicate (64 - length xs) 0) (length ds) (length-map xs entry_number ∙ l) in
    ap Open (entries-same es ds p.small q.small
    (sym (part es n) ∙ ap (λ (l : List ℕ). take (length ds) (drop 1 l)) e ∙ part ds refl))

-- ---- a frame by its first number
pub head-open : (x : Frame) → not (eqb (head_number x) 0) ≡ is_open x
head-open Closed = refl
head-open (Open es) = rw (ne_eqb (suc (length es)) 0 (λ e. omega arith))

pub head-count : (x : Frame) → head_number x - 1 ≡ length (entries x)
head-count Closed = refl
head-count (Open es) = omega arith

-- ---- opened, closed, and with an entry more
pub opened-numbers : (x : Frame) → is_open x ≡ false → set (frame_numbers x) 0 1 ≡ frame_numbers (Open [])
unfolding frame_numbers
opened-numbers Closed e = refl
opened-numbers (Open es) e = absurd (false≢true (sym e))

pub closed-numbers : replicate 65 0 ≡ frame_numbers Closed
unfolding frame_numbers
closed-numbers = refl

-- what a frame uses of its numbers, and the zeros behind it
abbrev pub used : Frame → List ℕ
used x = head_number x ∷ map entry_number (entries x)

abbrev pub unused : Frame → List ℕ
unused x = replicate (64 - length (entries x)) 0

pub as-used : (x : Frame) → frame_numbers x ≡ used x ++ unused x
unfolding frame_numbers
as-used x = refl

pub used-length : (x : Frame) → length (used x) ≡ 1 + length (entries x)
used-length x = omega (arith, length-map (entries x) entry_number)

pub used-cleared : (x : Frame) → FitsFrame x → replicate (1 + length (entries x)) 0 ++ unused x ≡ frame_numbers Closed
used-cleared x fits =
    let n : ℕ = length (entries x) in
    let all : 1 + n + (64 - n) ≡ 65 = omega (arith, fits.room) in
    replicate-append-replicate (1 + n) (64 - n) 0 ∙ ap (λ (k : ℕ). replicate k 0) all ∙ closed-numbers

pub opened-fits : FitsFrame (Open [])
opened-fits = record { room = omega arith; small = tt }

module _ (es : List Provenance) (e : Provenance) (room : length es < 64) where
  abbrev longer : List Provenance
  longer = es ++ (e ∷ [])

  longer-length : length longer ≡ length es + 1
  longer-length = length-append es (e ∷ [])

  pub pushed-fits : All FitsEntry es → FitsEntry e → FitsFrame (Open longer)
  pushed-fits small fits = record { room = omega (arith, longer-length); small = all_append FitsEntry es (e ∷ []) small (fits, tt) }

  pub pushed-numbers : (x : Frame) → entries x ≡ es → set (set (frame_numbers x) 0 (length es + 2)) (suc (length es)) (entry_number e) ≡ frame_numbers (Open longer)
  unfolding frame_numbers
  pushed-numbers x same =
      let n = length es in
      let head : n + 2 ≡ suc (length longer) = omega (arith, longer-length) in
      let split : 64 - n ≡ suc (64 - length longer) = omega (arith, longer-length) in
      let zeros : List ℕ = replicate (64 - length longer) 0 in
      let rest : set (map entry_number es ++ replicate (64 - n) 0) n (entry_number e) ≡ map entry_number longer ++ zeros =
      ap (λ (k : ℕ). set (map entry_number es ++ replicate k 0) n (entry_number e)) split
      ∙ set_at (map entry_number es) 0 zeros (entry_number e) n (length-map es entry_number)
      ∙ sym (append_snoc (map entry_number es) (entry_number e) zeros)
      ∙ ap (λ (t : List ℕ). t ++ zeros) (sym (map-append entry_number es (e ∷ []))) in
      rw same (ap₂ ◌∷◌ head rest)
