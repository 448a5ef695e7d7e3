-- A run, request by request: what the text comes to.
use Rattle.std.specs.Prelude.{if◌then◌else◌}
use Rattle.std.proofs.Common.{◌⊎◌, inl, inr}
use Prim.Native.Nat.{ℕ, suc, ◌+◌, ◌-◌, ◌*◌, ◌≤◌, ◌<◌, min}
use mathlib.Core.Path.{◌≡◌, refl, sym, ap, subst, ◌∙◌}
use mathlib.Core.Bool.{Bool, true, false, not, ◌&&◌, false≢true}
use mathlib.Core.List.{List, [], ◌∷◌, ◌++◌, append_assoc, append-nil}
use native.Mathlib.Omega.{arith}
use native.Mathlib.Decide.{dec_lt}
use native.Mathlib.Numerals.{add-one}
use borrow.Author.Tests.{eqb-true, lt-ltb, le-ltb, ltb-true, leb-true, leb-false, not-true}
use lib.Dec.{eqb, ltb, leb}
use lib.ListN.{length, take, drop, length-append, length-drop, drop_of_length-le}
use lib.Seq.{drop-drop, take_all, take-length}
use Rattle.definition.specs.Memory.{Answer, Memory}
use Rattle.definition.specs.Request.{request, following_length}
use Rattle.definition.specs.Run.{RunState, start, turn, program, words_of}
use Rattle.definition.specs.Output.{answer_line, answer_lines, memory_lines, output, IsOutput}
use Rattle.definition.proofs.Booleans.{and_left, and_right}
use Rattle.definition.proofs.Writes.{write-length, take-write}
use Rattle.tables.specs.Encoding.{Buffers}
use Rattle.tables.specs.Held as tables
use Rattle.state.specs.Run.{Holds}
use Rattle.state.specs.declared.RunState as code
use Rattle.report.specs.Written.{Written}
use Rattle.report.proofs.Lengths.{memory-length}
use Rattle.stream.specs.Stream.{request_size, next_request, program_from}
use Rattle.stream.proofs.Cuts.{program-from, program-end, program-more, program-last}
use Rattle.judge.specs.declared.Advance.{Advance}
use Rattle.judge.specs.Turn.{line_room, request_end, Turned, Taken}
use Rattle.judge.specs.Whole.{goes_on, left_at, memory_room, Performing}

-- ---- the bytes
-- the bytes of the next request
pub request-bytes : (bytes : List ℕ) (from : ℕ) → from ≤ length bytes
    → take (request_end bytes from - from) (drop from bytes) ≡ take (request_size (drop from bytes)) (drop from bytes)
request-bytes bytes from h =
    let ahead : List ℕ = drop from bytes in
    let d : length ahead ≡ length bytes - from = length-drop from bytes in
    elim (dec_lt (length ahead) (request_size ahead)) [
      | yes l ↦
          let e : request_end bytes from - from ≡ length ahead = omega arith in
          ap (λ (n : ℕ). take n ahead) e ∙ take-length ahead ∙ sym (take_all (request_size ahead) ahead (omega arith))
      | no l ↦ let e : request_end bytes from - from ≡ request_size ahead = omega arith in ap (λ (n : ℕ). take n ahead) e
    ]

-- and those behind it
pub bytes-behind : (bytes : List ℕ) (from : ℕ) → from ≤ length bytes
    → drop (request_end bytes from) bytes ≡ drop (request_size (drop from bytes)) (drop from bytes)
bytes-behind bytes from h =
    let ahead : List ℕ = drop from bytes in
    let d : length ahead ≡ length bytes - from = length-drop from bytes in
    sym (drop-drop (min (request_size ahead) (length bytes - from)) from bytes)
    ∙ elim (dec_lt (length ahead) (request_size ahead)) [
      | yes l ↦
          drop_of_length-le ahead {i = min (request_size ahead) (length bytes - from)} (omega arith)
          ∙ sym (drop_of_length-le ahead {i = request_size ahead} (omega arith))
      | no l ↦ let e : min (request_size ahead) (length bytes - from) ≡ request_size ahead = omega arith in ap (λ (n : ℕ). drop n ahead) e
    ]

pub size-some : (bytes : List ℕ) → 0 < request_size bytes
unfolding request_size
size-some bytes = omega arith

pub end-ahead : (bytes : List ℕ) (from : ℕ) → from < length bytes → from < request_end bytes from
end-ahead bytes from h = omega (arith, size-some (drop from bytes))

pub end-within : (bytes : List ℕ) (from : ℕ) → from ≤ length bytes → request_end bytes from ≤ length bytes
end-within bytes from h = omega arith

pub size-most : (bytes : List ℕ) → request_size bytes ≤ 16400
unfolding request_size
size-most bytes = by (following_length (request (words_of bytes)))
  where
    by : (n : ℕ) → 16 + 4 * (if ltb 4096 n then 0 else n) ≤ 16400
    by n =
        elim (dec_lt 4096 n) [
          | yes l ↦ rw (lt-ltb 4096 n l) (omega arith)
          | no l ↦ rw (le-ltb 4096 n (omega arith)) (omega arith)
        ]

-- ---- a text behind another
pub text-behind : {before : List ℕ} {at : ℕ} (text : List ℕ) {after : List ℕ} {end : ℕ} → Written before at text after end → end ≤ length after → take end after ≡ take at before ++ text
text-behind {before} {at} text {after} {end} w fits =
    let l : length after ≡ length before = ap length w.contents ∙ write-length at text before in
    ap (λ (n : ℕ). take n after) w.place
    ∙ ap (λ (o : List ℕ). take (at + length text) o) w.contents
    ∙ take-write at text before (omega (arith, w.place))

-- ---- the run
-- before the first request
pub performing-start : (bytes : List ℕ) (p : Advance) {run : code.RunState} → Holds start run → p.from ≡ 0 → p.index ≡ 0 → p.refused ≡ false → Performing bytes p [] run
performing-start bytes p h from index going =
    let left : left_at start bytes p ≡ program bytes =
    ap (λ (t : Bool). if t then ([], start) else program_from start (drop p.from bytes)) going
    ∙ ap (λ (n : ℕ). program_from start (drop n bytes)) from
    ∙ program-from bytes in
    record {
      state = start;
      holds = h;
      text = ap (λ (n : ℕ). answer_lines n (left_at start bytes p).0) index ∙ ap (λ (o : List Answer × RunState). answer_lines 0 o.0) left;
      final = ap (λ (o : List Answer × RunState). o.1) left;
      within = omega (arith, from);
      counted = omega (arith, from, index);
    }

-- the line of a request's answer is added to the others
pub record LineAdded (s : RunState) (ws : List ℕ) (index : ℕ) (lines : List ℕ) (refused : Bool) (lines' : List ℕ) (run : code.RunState) : Type 0 where
  pub holds : Holds (turn s ws).1 run
  pub line : lines' ≡ lines ++ answer_line index (turn s ws).0
  pub told : refused ≡ not (eqb (turn s ws).0.refusal 0)

-- the request of a run at p, and how far the run is behind it
pub record Advanced (s : RunState) (bytes : List ℕ) (p : Advance) (lines : List ℕ) (r : Advance) (lines' : List ℕ) (run : code.RunState) : Type 0 where
  pub added : LineAdded s (next_request (drop p.from bytes)) p.index lines r.refused lines' run
  pub from : r.from ≡ request_end bytes p.from
  pub index : r.index ≡ p.index + 1

-- the line stands in the buffer, behind the others
pub advanced : {s : RunState} {bytes : List ℕ} {p : Advance} {before : List ℕ} {r : Advance} {after : List ℕ} {run : code.RunState} → Taken s bytes p before r after run
    → Advanced s bytes p (take p.at before) r (take r.at after) run
advanced {s} {bytes} {p} k =
    let w = k.turned.line.written in
    let o : Answer × RunState = turn s (next_request (drop p.from bytes)) in
    record {
      added = record {
        holds = k.turned.holds;
        line = text-behind (answer_line p.index o.0) w.written w.fits;
        told = k.turned.line.told;
      };
      from = k.from;
      index = k.index;
    }

-- one request more
module _ {s : RunState} {bytes : List ℕ} {p : Advance} {lines : List ℕ} {r : Advance} {lines' : List ℕ} {run' : code.RunState}
    (going : p.refused ≡ false) (more : p.from < length bytes) (k : Advanced s bytes p lines r lines' run') where
  abbrev ahead : List ℕ
  ahead = drop p.from bytes

  abbrev outcome : Answer × RunState
  outcome = turn s (next_request ahead)

  some_bytes : 0 < length ahead
  some_bytes = omega (arith, length-drop p.from bytes)

  behind : drop r.from bytes ≡ drop (request_size ahead) ahead
  behind = ap (λ (n : ℕ). drop n bytes) k.from ∙ bytes-behind bytes p.from (omega arith)

  left_by : (t : Bool) → eqb outcome.0.refusal 0 ≡ t
      → program_from s ahead ≡ (outcome.0 ∷ (left_at outcome.1 bytes r).0, (left_at outcome.1 bytes r).1)
  left_by true e =
      let accepted : r.refused ≡ false = k.added.told ∙ ap not e in
      program-more s ahead some_bytes (eqb-true outcome.0.refusal 0 e)
      ∙ ap (λ (l : List ℕ). let o = program_from outcome.1 l in (outcome.0 ∷ o.0, o.1)) (sym behind)
      ∙ ap (λ (t : Bool). let o = if t then ([], outcome.1) else program_from outcome.1 (drop r.from bytes) in (outcome.0 ∷ o.0, o.1)) (sym accepted)
  left_by false e =
      let refused : r.refused ≡ true = k.added.told ∙ ap not e in
      program-last s ahead some_bytes e
      ∙ ap (λ (t : Bool). let o = if t then ([], outcome.1) else program_from outcome.1 (drop r.from bytes) in (outcome.0 ∷ o.0, o.1)) (sym refused)

  left-more : left_at s bytes p ≡ (outcome.0 ∷ (left_at outcome.1 bytes r).0, (left_at outcome.1 bytes r).1)
  left-more =
      ap (λ (t : Bool). if t then ([], s) else program_from s ahead) going ∙ left_by (eqb outcome.0.refusal 0) refl

  text-more : lines' ++ answer_lines r.index (left_at outcome.1 bytes r).0 ≡ lines ++ answer_lines p.index (left_at s bytes p).0
  unfolding answer_lines
  text-more =
      let line : List ℕ = answer_line p.index outcome.0 in
      let later : ℕ → List ℕ = λ n. answer_lines n (left_at outcome.1 bytes r).0 in
      let one : r.index ≡ suc p.index = k.index ∙ add-one p.index in
      ap (λ (t : List ℕ). t ++ later r.index) k.added.line
      ∙ append_assoc lines line (later r.index)
      ∙ ap (λ (n : ℕ). lines ++ (line ++ later n)) one
      ∙ ap (λ (o : List Answer × RunState). lines ++ answer_lines p.index o.0) (sym left-more)

pub performing-next : {bytes : List ℕ} {p : Advance} {lines : List ℕ} {run : code.RunState} (h : Performing bytes p lines run)
    {r : Advance} {lines' : List ℕ} {run' : code.RunState} → p.refused ≡ false → p.from < length bytes → Advanced h.state bytes p lines r lines' run'
    → Performing bytes r lines' run'
performing-next {bytes} {p} h {r} going more k =
    record {
      state = (turn h.state (next_request (drop p.from bytes))).1;
      holds = k.added.holds;
      text = text-more going more k ∙ h.text;
      final = sym (ap (λ (o : List Answer × RunState). o.1) (left-more going more k)) ∙ h.final;
      within = subst (λ (n : ℕ). n ≤ length bytes) (sym k.from) (end-within bytes p.from (omega arith));
      counted = omega (arith, k.index, k.from, h.counted, end-ahead bytes p.from more);
    }

-- no request is left
pub record Performed (bytes lines : List ℕ) (s : RunState) : Type 0 where
  pub text : lines ≡ answer_lines 0 (program bytes).0
  pub final : s ≡ (program bytes).1

pub performing-end : {bytes : List ℕ} {p : Advance} {lines : List ℕ} {run : code.RunState} (h : Performing bytes p lines run)
    → (p.refused ≡ false → p.from < length bytes → ⊥) → Performed bytes lines h.state
unfolding answer_lines
performing-end {bytes} {p} {lines} h over =
    let none : left_at h.state bytes p ≡ ([], h.state) = by p.refused refl in
    record {
      text = sym (append-nil lines) ∙ ap (λ (o : List Answer × RunState). lines ++ answer_lines p.index o.0) (sym none) ∙ h.text;
      final = ap (λ (o : List Answer × RunState). o.1) (sym none) ∙ h.final;
    }
  where
    by : (t : Bool) → p.refused ≡ t → left_at h.state bytes p ≡ ([], h.state)
    by true e = ap (λ (t : Bool). if t then ([], h.state) else program_from h.state (drop p.from bytes)) e
    by false e =
        let all : length bytes ≤ p.from = elim (dec_lt p.from (length bytes)) [ yes l ↦ absurd (over e l) | no l ↦ omega arith ] in
        ap (λ (t : Bool). if t then ([], h.state) else program_from h.state (drop p.from bytes)) e
        ∙ ap (program_from h.state) (drop_of_length-le bytes all)
        ∙ program-end h.state

-- the lines so far are no longer than the whole
pub text-short : {bytes : List ℕ} {p : Advance} {lines : List ℕ} {run : code.RunState} → Performing bytes p lines run → length lines ≤ length (output bytes)
unfolding output
text-short {bytes} {p} {lines} h =
    let left = answer_lines p.index (left_at h.state bytes p).0 in
    let whole = answer_lines 0 (program bytes).0 in
    omega (
      arith,
      ap length h.text,
      length-append lines left,
      length-append whole (memory_lines 0 (program bytes).1.state.memory),
    )

-- the lines of the memory end in the buffer
pub memory-inside : {m : Memory} {b : Buffers} → tables.Holds m b → {out : List ℕ} {at : ℕ} {after : List ℕ} {end : ℕ} → Written out at (memory_lines 0 m) after end
    → at + memory_room ≤ length out → end ≤ length after
memory-inside {m} h {out} {at} w room =
    omega (arith, w.place, ap length w.contents ∙ write-length at (memory_lines 0 m) out, memory-length m h.valid)

-- and with the lines of the memory it is the whole
pub text-whole : {bytes lines : List ℕ} {s : RunState} → Performed bytes lines s → IsOutput bytes (lines ++ memory_lines 0 s.state.memory)
unfolding output
text-whole {bytes} {lines} {s} k =
    ap (λ (t : List ℕ). t ++ memory_lines 0 s.state.memory) k.text
    ∙ ap (λ (o : RunState). answer_lines 0 (program bytes).0 ++ memory_lines 0 o.state.memory) k.final

-- ---- the tests before the memory's lines
pub none-left : {refused : Bool} {from total : ℕ} → ((not refused ≡ true) × (total ≤ from)) ⊎ (not refused ≡ false) → refused ≡ false → from < total → ⊥
none-left (inl e) f l = omega (arith, e.1)
none-left (inr e) f l = false≢true (sym e ∙ ap not f)

-- a request is left, and no line has room
pub no-room : (p : Advance) {total room : ℕ} → goes_on p total room ≡ false → not p.refused ≡ true → p.from < total → room < p.at + memory_room
no-room p {total} {room} e going more =
    let line : leb (p.at + line_room) room ≡ false = sym (rw (going, lt-ltb p.from total more)) ∙ e in
    omega (arith, leb-false (p.at + line_room) room line)

-- ---- the next request
pub taken : {s : RunState} {bytes : List ℕ} {p : Advance} {before : List ℕ} {r : Advance} {after : List ℕ} {run : code.RunState} {ws : List ℕ}
    → ws ≡ next_request (drop p.from bytes) → Turned s ws p.index before p.at after r.at r.refused run
    → r.from ≡ request_end bytes p.from → r.index ≡ p.index + 1 → Taken s bytes p before r after run
taken {s} {bytes} {p} {before} {r} {after} {run} e k from index =
    record {
      turned = subst (λ (ws : List ℕ). Turned s ws p.index before p.at after r.at r.refused run) e k;
      from = from;
      index = index;
    }

-- a request is left, and there is room for its line
pub goes : (p : Advance) (total room : ℕ) → goes_on p total room ≡ true → (p.refused ≡ false) × ((p.from < total) × (p.at + line_room ≤ room))
goes p total room e =
    let left : not p.refused && ltb p.from total ≡ true = and_left (not p.refused && ltb p.from total) (leb (p.at + line_room) room) e in (
      not-true p.refused (and_left (not p.refused) (ltb p.from total) left),
      (
        ltb-true p.from total (and_right (not p.refused) (ltb p.from total) left),
        leb-true (p.at + line_room) room (and_right (not p.refused && ltb p.from total) (leb (p.at + line_room) room) e),
      ),
    )
