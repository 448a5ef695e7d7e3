-- The frames buffer: every frame takes 65 numbers, so one frame's part is read and replaced where it stands, and a buffer holds one list of frames.
use Prim.Native.Nat.{ℕ, zero, suc, ◌+◌, ◌-◌, ◌*◌, ◌<◌}
use mathlib.Core.Path.{◌≡◌, refl, sym, ap, ap₂, ◌∙◌}
use mathlib.Core.Bool.{false}
use mathlib.Core.List.{List, [], ◌∷◌, ◌++◌, map, append_assoc}
use native.Mathlib.Omega.{arith}
use borrow.Rule.Slice.PartMut.{put_mid}
use lib.ListN.{length, get_or, take, drop, set, replicate, length-append, length-map, length-set, replicate-append-replicate}
use lib.Seq.{split_at, set_split, take_at, drop_at, drop-append-add, length-take-le}
use Rattle.definition.specs.Memory.{Provenance}
use Rattle.definition.specs.Frame.{Frame, is_open, entries, frame_count, empty}
use Rattle.definition.specs.Frame.Frame.{Closed, Open}
use Rattle.definition.specs.Valid.{All}
use Rattle.definition.proofs.Alls.{all_get_d, all_take, all_set, all_replicate}
use Rattle.definition.proofs.Parts.{set-mid, get-mid}
use Rattle.frames.specs.Buffer.{entry_number, entries_in, head_number, frame_numbers, frames_held, FitsEntry, FitsFrame, HoldsFrames}
use Rattle.frames.proofs.FrameNumbers.{closed-fits, numbers-length, numbers-back, frame_same, opened-numbers, opened-fits, closed-numbers, used, unused, as-used, used-length, used-cleared, pushed-fits, pushed-numbers}

-- ---- the buffer around frame f
held-append : (xs ys : List Frame) → frames_held (xs ++ ys) ≡ frames_held xs ++ frames_held ys
unfolding frames_held
held-append [] ys = refl
held-append (x ∷ xs) ys =
    ap (λ (t : List ℕ). frame_numbers x ++ t) (held-append xs ys) ∙ sym (append_assoc (frame_numbers x) (frames_held xs) (frames_held ys))

pub held-length : (fs : List Frame) → All FitsFrame fs → length (frames_held fs) ≡ length fs * 65
unfolding frames_held
held-length [] fits = refl
held-length (f ∷ fs) fits = simp length-append (omega (arith, numbers-length f fits.0, held-length fs fits.1))

module _ (fs : List Frame) (f : ℕ) where
  -- what stands before frame f, and behind it
  abbrev pub before : List ℕ
  before = frames_held (take f fs)

  abbrev pub behind : List ℕ
  behind = frames_held (drop (suc f) fs)

  pub held_at : f < length fs → frames_held fs ≡ before ++ (frame_numbers (get_or fs f Closed) ++ behind)
  unfolding frames_held
  held_at h = ap frames_held (split_at fs f Closed h) ∙ held-append (take f fs) (get_or fs f Closed ∷ drop (suc f) fs)

  pub held-set : (x : Frame) → f < length fs → frames_held (set fs f x) ≡ before ++ (frame_numbers x ++ behind)
  unfolding frames_held
  held-set x h = ap frames_held (set_split fs f x h) ∙ held-append (take f fs) (x ∷ drop (suc f) fs)

  pub before-length : All FitsFrame fs → f < length fs → length before ≡ f * 65
  before-length fits h =
      held-length (take f fs) (all_take FitsFrame f fs fits) ∙ ap (λ (n : ℕ). n * 65) (length-take-le f fs (omega arith))

-- ---- two lists of frames with the same buffer are equal
pub held_same : (fs gs : List Frame) → All FitsFrame fs → All FitsFrame gs → frames_held fs ≡ frames_held gs → fs ≡ gs
unfolding frames_held
held_same [] [] p q e = refl
held_same [] (g ∷ gs) p q e = absurd (omega (arith, simp length-append at (ap length e), numbers-length g q.0))
held_same (f ∷ fs) [] p q e = absurd (omega (arith, simp length-append at (ap length e), numbers-length f p.0))
held_same (f ∷ fs) (g ∷ gs) p q e =
    let first = take_at (frame_numbers f) (frames_held fs) 65 (numbers-length f p.0) in
    let rest = drop_at (frame_numbers f) (frames_held fs) 65 (numbers-length f p.0) in
    ap₂ ◌∷◌
    (frame_same f g p.0 q.0 (sym first ∙ ap (take 65) e ∙ take_at (frame_numbers g) (frames_held gs) 65 (numbers-length g q.0)))
    (held_same fs gs p.1 q.1 (sym rest ∙ ap (drop 65) e ∙ drop_at (frame_numbers g) (frames_held gs) 65 (numbers-length g q.0)))

-- so a buffer holds one list of frames at most
pub one_list : (fs gs : List Frame) (buffer : List ℕ) → HoldsFrames fs buffer → HoldsFrames gs buffer → fs ≡ gs
one_list fs gs buffer p q = held_same fs gs p.each q.each (sym p.held ∙ q.held)

-- ---- what the functions read and write, at a buffer that holds fs
module _ (fs : List Frame) (buffer : List ℕ) (f : ℕ) (holds : HoldsFrames fs buffer) (below : f < 32) where
  abbrev frame : Frame
  frame = get_or fs f Closed

  pub inside : f < length fs
  inside = omega (arith, holds.count)

  pub frame-fits : FitsFrame frame
  frame-fits = all_get_d FitsFrame fs f Closed holds.each closed-fits

  pub buffer-length : length buffer ≡ 2080
  buffer-length = ap length holds.held ∙ held-length fs holds.each ∙ ap (λ (n : ℕ). n * 65) holds.count

  -- the buffer with other numbers in frame f's part
  abbrev pub with_part : List ℕ → List ℕ
  with_part x = before fs f ++ (x ++ behind fs f)

  pub as_parts : buffer ≡ with_part (frame_numbers frame)
  as_parts = holds.held ∙ held_at fs f inside

  start : (j : ℕ) → f * 65 + j ≡ length (before fs f) + j
  start j = ap (λ (n : ℕ). n + j) (sym (before-length fs f holds.each inside))

  pub read-part : (k j : ℕ) → k ≡ f * 65 + j → j < 65 → get_or buffer k 0 ≡ get_or (frame_numbers frame) j 0
  read-part k j e h =
      ap (λ (b : List ℕ). get_or b k 0) as_parts
      ∙ get-mid (before fs f) (frame_numbers frame) (behind fs f) k j 0 (e ∙ start j) (omega (arith, numbers-length frame frame-fits))

  pub store-part : (x : List ℕ) (k j v : ℕ) → k ≡ f * 65 + j → j < length x → set (with_part x) k v ≡ with_part (set x j v)
  store-part x k j v e h = set-mid (before fs f) x (behind fs f) k j v (e ∙ start j) h

  pub holds-set : (x : Frame) (b : List ℕ) → FitsFrame x → b ≡ with_part (frame_numbers x) → HoldsFrames (set fs f x) b
  holds-set x b fits e =
      record {
        count = length-set fs f x ∙ holds.count;
        each = all_set FitsFrame fs f x holds.each fits;
        held = e ∙ sym (held-set fs f x inside);
      }

  pub head_read : get_or buffer (f * 65) 0 ≡ head_number frame
  unfolding frame_numbers
  head_read = read-part (f * 65) 0 (omega arith) (omega arith)

  pub opens : is_open frame ≡ false → HoldsFrames (set fs f (Open [])) (set buffer (f * 65) 1)
  opens closed =
      holds-set (Open []) _ opened-fits
      (ap (λ (b : List ℕ). set b (f * 65) 1) as_parts
      ∙ store-part (frame_numbers frame) (f * 65) 0 1 (omega arith) (omega (arith, numbers-length frame frame-fits))
      ∙ ap with_part (opened-numbers frame closed))

  pub pushes : (e : Provenance) (n : ℕ) → FitsEntry e → n ≡ length (entries frame) → n < 64
      → HoldsFrames (set fs f (Open (entries frame ++ (e ∷ [])))) (set (set buffer (f * 65) (n + 2)) (f * 65 + 1 + n) (entry_number e))
  pushes e n fits same room =
      let x = frame_numbers frame in
      let free : length (entries frame) < 64 = omega arith in
      let wide : length x ≡ 65 = numbers-length frame frame-fits in
      holds-set (Open (entries frame ++ (e ∷ []))) _ (pushed-fits (entries frame) e free frame-fits.small fits)
      (ap (λ (b : List ℕ). set (set b (f * 65) (n + 2)) (f * 65 + 1 + n) (entry_number e)) as_parts
      ∙ ap (λ (b : List ℕ). set b (f * 65 + 1 + n) (entry_number e)) (store-part x (f * 65) 0 (n + 2) (omega arith) (omega arith))
      ∙ store-part (set x 0 (n + 2)) (f * 65 + 1 + n) (suc n) (entry_number e) (omega arith) (simp length-set (omega arith))
      ∙ ap with_part (ap (λ (k : ℕ). set (set x 0 (k + 2)) (suc k) (entry_number e)) same ∙ pushed-numbers (entries frame) e free frame refl))

  -- zeros in what frame f uses of its part, as a callee leaves them that was lent it
  pub closes : (n : ℕ) → n ≡ length (entries frame) → (z : List ℕ) → z ≡ replicate (1 + n) 0
      → HoldsFrames (set fs f Closed) (put_mid (f * 65) (f * 65 + 1 + n - f * 65) buffer z)
  closes n same z e =
      let l = before fs f in
      let r = behind fs f in
      let zeros : List ℕ = replicate (1 + n) 0 in
      let parts : buffer ≡ l ++ (used frame ++ (unused frame ++ r)) =
      as_parts ∙ ap with_part (as-used frame) ∙ ap (λ (t : List ℕ). l ++ t) (append_assoc (used frame) (unused frame) r) in
      let width : f * 65 + 1 + n - f * 65 ≡ 1 + n = omega arith in
      let starts : length l ≡ f * 65 = before-length fs f holds.each inside in
      holds-set Closed _ closed-fits
      (rw (e, width)
      (ap₂ (λ (p q : List ℕ). p ++ (zeros ++ q))
      (ap (take (f * 65)) parts ∙ take_at l (used frame ++ (unused frame ++ r)) (f * 65) starts)
      (ap (λ (b : List ℕ). drop (1 + n) (drop (f * 65) b)) parts ∙ ap (drop (1 + n)) (drop_at l (used frame ++ (unused frame ++ r)) (f * 65) starts)
      ∙ drop_at (used frame) (unused frame ++ r) (1 + n) (omega (arith, used-length frame)))
      ∙ ap (λ (t : List ℕ). l ++ t) (sym (append_assoc zeros (unused frame) r))
      ∙ ap with_part (ap (λ (k : ℕ). replicate (1 + k) 0 ++ unused frame) same ∙ used-cleared frame frame-fits)))

  -- the numbers of the entries of frame f, and the entries that they stand for
  read-numbers : (n : ℕ) → n ≡ length (entries frame) → take (f * 65 + 1 + n - (f * 65 + 1)) (drop (f * 65 + 1) buffer) ≡ map entry_number (entries frame)
  unfolding frame_numbers
  read-numbers n same =
      let ws = map entry_number (entries frame) in
      let width : f * 65 + 1 + n - (f * 65 + 1) ≡ n = omega arith in
      rw width
      (ap (take n) (ap₂ drop (start 1) as_parts ∙ drop-append-add (before fs f) (frame_numbers frame ++ behind fs f) 1 ∙ append_assoc ws (unused frame) (behind fs f))
      ∙ take_at ws (unused frame ++ behind fs f) n (length-map (entries frame) entry_number ∙ sym same))

  pub read-entries : (n : ℕ) → n ≡ length (entries frame) → entries_in (take (f * 65 + 1 + n - (f * 65 + 1)) (drop (f * 65 + 1) buffer)) ≡ entries frame
  read-entries n same = ap entries_in (read-numbers n same) ∙ numbers-back (entries frame) frame-fits.small

-- ---- no frame open
closed-held : (n : ℕ) → frames_held (replicate n Closed) ≡ replicate (n * 65) 0
unfolding frames_held
closed-held zero = refl
closed-held (suc n) =
    let e : suc n * 65 ≡ 65 + n * 65 = omega arith in
    ap₂ ◌++◌ (sym closed-numbers) (closed-held n) ∙ replicate-append-replicate 65 (n * 65) 0 ∙ ap (λ (k : ℕ). replicate k 0) (sym e)

pub cleared : (buffer : List ℕ) (n : ℕ) → n ≡ 2080 → buffer ≡ replicate n 0 → HoldsFrames empty.frames buffer
cleared buffer n is e =
    record {
      count = refl;
      each = all_replicate FitsFrame frame_count Closed closed-fits;
      held = e ∙ ap (λ (k : ℕ). replicate k 0) is ∙ sym (closed-held 32);
    }
