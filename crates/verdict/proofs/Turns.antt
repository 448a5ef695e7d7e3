-- What a turn comes to: more bytes at hand, or one request more; and what all turns come to.
use Rattle.std.specs.Prelude.{if◌then◌else◌}
use Prim.Native.Nat.{ℕ, ◌+◌, ◌-◌, ◌≤◌, ◌<◌, ◌^◌, min}
use mathlib.Core.Path.{◌≡◌, refl, sym, ap, subst, ◌∙◌}
use mathlib.Core.Bool.{Bool, true, false, not, ◌&&◌, ◌||◌, false≢true}
use mathlib.Core.List.{List, [], ◌++◌, append_assoc, append-nil}
use native.Mathlib.Omega.{arith}
use borrow.Author.Tests.{ltb-true, ltb-false, eqb-false, not-true}
use lib.Dec.{eqb, ltb}
use lib.ListN.{length, take, drop, length-append, take-append-drop}
use lib.Seq.{drop-drop, drop-append_seam, length-take-le}
use Rattle.definition.specs.Memory.{Memory}
use Rattle.definition.specs.Run as definition
use Rattle.definition.specs.Run.{start}
use Rattle.definition.specs.Output.{memory_lines}
use Rattle.definition.proofs.Booleans.{and_left, and_right, or-neither, not-not-false}
use Rattle.tables.specs.Held as tables
use Rattle.tables.specs.Held.{WellFormed}
use Rattle.state.specs.Run.{memory_of, Holds}
use Rattle.state.specs.declared.RunState.{RunState}
use Rattle.state.proofs.Held.{memory-held}
use Rattle.report.specs.Written.{Written}
use Rattle.stream.specs.Stream.{request_size, next_request}
use Rattle.judge.specs.declared.Advance.{Advance}
use Rattle.judge.specs.Turn.{request_end, Taken}
use Rattle.judge.specs.Whole.{Performing}
use Rattle.judge.proofs.Runs.{LineAdded, advanced, performing-start, performing-next, performing-end, text-behind, text-whole, memory-inside}
use Rattle.verdict.specs.declared.Progress.{Progress}
use Rattle.verdict.specs.Progress.{lacks, goes_on, at_hand, text_at_hand, most_text, HasRead, is_long, with_text, flushed_as, with_text_to}
use Rattle.verdict.specs.Came.{MayFollow, advance_in, Came, start_at, Reached, ByTurn, Made, AllMade, IsPrinted}
use Rattle.verdict.specs.Came.Reached.{at_start, after_turn}
use Rattle.verdict.proofs.Bytes.{same_bytes, hand-length, SameNext, same_next, some-request}

-- ---- the same, by other names
performing-same : {bytes bytes' : List ℕ} {p p' : Advance} {lines lines' : List ℕ} {run : RunState} → bytes ≡ bytes' → p ≡ p' → lines ≡ lines' → Performing bytes p lines run
    → Performing bytes' p' lines' run
performing-same {bytes} {bytes'} {p} {p'} {lines} {lines'} {run} e f g h =
    subst (λ (l : List ℕ). Performing bytes' p' l run) g (subst (λ (q : Advance). Performing bytes' q lines run) f (subst (λ (l : List ℕ). Performing l p lines run) e h))

came_same : {bytes bytes' written written' : List ℕ} {p : Progress} {input out : List ℕ} {run : RunState} → bytes ≡ bytes' → written ≡ written' → Came bytes written p input out run
    → Came bytes' written' p input out run
came_same {bytes} {bytes'} {written} {written'} {p} {input} {out} {run} e f k =
    subst (λ (l : List ℕ). Came bytes' l p input out run) f (subst (λ (l : List ℕ). Came l written p input out run) e k)

-- a test that goes on
accepted : (p : Progress) → goes_on p ≡ true → p.advance.refused ≡ false
accepted p g = not-true p.advance.refused (and_left (not p.advance.refused) (not p.ended || ltb p.advance.from p.end) g)

-- ---- before the first turn
came-start : (input out : List ℕ) {run : RunState} → Holds start run → Came [] [] start_at input out run
came-start input out h =
    record {
      ready = record { ordered = omega arith; filled = omega arith; short = omega arith };
      done = [];
      parts = refl;
      performing = λ rest _. performing-start rest (advance_in [] start_at) h refl refl refl;
    }

-- ---- a turn that reads
pub came-read : {bytes written : List ℕ} {p : Progress} {input out : List ℕ} {run : RunState} (k : Came bytes written p input out run)
    {r : Progress} {input' : List ℕ} → p.ended ≡ false → (h : HasRead p input r input') → Came (bytes ++ h.new) (written ++ text_at_hand p out) r input' out run
came-read {bytes} {written} {p} {input} {out} k {r} {input'} more h =
    let from : r.advance.from ≡ 0 = ap (λ (q : Advance). q.from) h.advance in
    let at : r.advance.at ≡ 0 = ap (λ (q : Advance). q.at) h.advance in
    record {
      ready = record { ordered = omega arith; filled = h.filled; short = omega arith };
      done = k.done;
      parts =
          ap (λ (l : List ℕ). l ++ h.new) k.parts
          ∙ append_assoc k.done (at_hand p input) h.new
          ∙ ap (λ (l : List ℕ). k.done ++ l) (sym h.hand);
      performing = λ rest _.
          performing-same
          (sym (append_assoc bytes h.new rest))
          (ap (λ (q : Advance). record { from = length k.done; at = 0; index = q.index; refused = q.refused }) (sym h.advance))
          (sym (append-nil (written ++ text_at_hand p out)) ∙ ap (λ (n : ℕ). (written ++ text_at_hand p out) ++ take n out) (sym at))
          (k.performing (h.new ++ rest) (λ e. absurd (false≢true (sym more ∙ e))));
    }

unended : (bytes : List ℕ) (ended : Bool) → lacks bytes ended ≡ true → ended ≡ false
unended bytes ended e = not-true ended (and_right (ltb (length bytes) (request_size bytes)) (not ended) e)

pub made-read : {bytes written : List ℕ} {p : Progress} {input out : List ℕ} {run : RunState} → Came bytes written p input out run → lacks (at_hand p input) p.ended ≡ true
    → {r : Progress} {input' : List ℕ} → HasRead p input r input' → Made bytes written p input out r input' out run
made-read {p = p} {input = input} {out = out} k e {r} h =
    record {
      new = h.new;
      said = text_at_hand p out;
      came = came-read k (unended (at_hand p input) p.ended e) h;
      turn =
          subst (λ (t : Bool). ByTurn t p out r h.new (text_at_hand p out)) (sym e)
          (record { index = ap (λ (q : Advance). q.index) h.advance; told = h.told; handed = refl });
    }

-- ---- a turn that performs a request
-- lines in front make no difference
added-behind : (front : List ℕ) {s : definition.RunState} {ws : List ℕ} {index : ℕ} {lines : List ℕ} {refused : Bool} {lines' : List ℕ} {run : RunState}
    → LineAdded s ws index lines refused lines' run → LineAdded s ws index (front ++ lines) refused (front ++ lines') run
added-behind front {lines = lines} k =
    record {
      holds = k.holds;
      line = ap (λ (l : List ℕ). front ++ l) k.line ∙ sym (append_assoc front lines _);
      told = k.told;
    }

module _ {bytes written : List ℕ} {p : Progress} {input out : List ℕ} {run : RunState} (k : Came bytes written p input out run)
    (next : Advance) (out' : List ℕ) {run' : RunState}
    (taken : (s : definition.RunState) → Holds s run → Taken s (take p.end input) p.advance out next out' run')
    (goes : goes_on p ≡ true) (enough : lacks (at_hand p input) p.ended ≡ false) where
  abbrev hand : List ℕ
  hand = at_hand p input

  -- the bytes that it takes
  abbrev size : ℕ
  size = min (request_size hand) (length hand)

  abbrev done_now : List ℕ
  done_now = k.done ++ take size hand

  some_left : p.advance.from < p.end
  some_left = some-request p input goes enough

  hand-is : drop p.advance.from (take p.end input) ≡ hand
  hand-is = same_bytes p.advance.from p.end input k.ready.ordered k.ready.filled

  -- where the next one starts
  next-from : next.from ≡ p.advance.from + size
  next-from =
      let h = k.performing [] (λ _. refl) in
      let all : length (take p.end input) ≡ p.end = length-take-le p.end input k.ready.filled in
      let left : length (take p.end input) - p.advance.from ≡ length hand = omega (arith, hand-length p input k.ready) in
      (taken h.state h.holds).from
      ∙ ap (λ (l : List ℕ). p.advance.from + min (request_size l) (length (take p.end input) - p.advance.from)) hand-is
      ∙ ap (λ (n : ℕ). p.advance.from + min (request_size hand) n) left

  done-length : length done_now ≡ length k.done + size
  done-length = omega (arith, length-append k.done (take size hand), length-take-le size hand (omega arith))

  parts-now : bytes ≡ done_now ++ take (p.end - next.from) (drop next.from input)
  parts-now =
      let behind : drop size hand ≡ take (p.end - next.from) (drop next.from input) =
      ap (drop size) (sym hand-is)
      ∙ drop-drop size p.advance.from (take p.end input)
      ∙ ap (λ (n : ℕ). drop n (take p.end input)) (sym next-from)
      ∙ same_bytes next.from p.end input (omega (arith, next-from, hand-length p input k.ready, k.ready.ordered)) k.ready.filled in
      k.parts
      ∙ ap (λ (l : List ℕ). k.done ++ l) (sym (take-append-drop size hand))
      ∙ sym (append_assoc k.done (take size hand) (drop size hand))
      ∙ ap (λ (l : List ℕ). done_now ++ l) behind

  -- the bytes from `from` on, and whatever follows
  behind-done : (rest : List ℕ) → drop (length k.done) (bytes ++ rest) ≡ hand ++ rest
  behind-done rest =
      ap (λ (l : List ℕ). drop (length k.done) (l ++ rest)) k.parts
      ∙ ap (drop (length k.done)) (append_assoc k.done hand rest)
      ∙ drop-append_seam k.done (hand ++ rest)

  abbrev advance_now : Advance
  advance_now = record { from = length done_now; at = 0; index = next.index; refused = next.refused }

  performing-now : (rest : List ℕ) → MayFollow p rest → Performing (bytes ++ rest) advance_now (written ++ take next.at out') run'
  performing-now rest f =
      let h = k.performing rest f in
      let same : SameNext hand rest = same_next p.ended hand rest enough f in
      let a = advanced (taken h.state h.holds) in
      let words : next_request (drop p.advance.from (take p.end input)) ≡ next_request (drop (length k.done) (bytes ++ rest)) =
      ap next_request hand-is ∙ sym same.words ∙ ap next_request (sym (behind-done rest)) in
      let total : length (bytes ++ rest) ≡ length k.done + length (hand ++ rest) =
      ap (λ (l : List ℕ). length (l ++ rest)) k.parts ∙ ap length (append_assoc k.done hand rest) ∙ length-append k.done (hand ++ rest) in
      let end : request_end (bytes ++ rest) (length k.done) ≡ length done_now =
      ap (λ (l : List ℕ). length k.done + min (request_size l) (length (bytes ++ rest) - length k.done)) (behind-done rest)
      ∙ omega (arith, total, same.size, done-length) in
      performing-next h (accepted p goes) (omega (arith, total, length-append hand rest, hand-length p input k.ready, some_left))
      (record {
        added =
            added-behind written
            (subst (λ (ws : List ℕ). LineAdded h.state ws p.advance.index (text_at_hand p out) next.refused (take next.at out') run') words a.added);
        from = sym end;
        index = a.index;
      })

  turn-index : next.index ≡ p.advance.index + 1
  turn-index = let h = k.performing [] (λ _. refl) in (taken h.state h.holds).index

  inside : next.at ≤ length out'
  inside = let h = k.performing [] (λ _. refl) in (taken h.state h.holds).turned.line.written.fits

  turn_by : (r : Progress) → r.advance.index ≡ next.index → r.ended ≡ p.ended → (said : List ℕ) → (length said ≤ most_text → said ≡ [])
      → ByTurn (lacks hand p.ended) p out r [] said
  turn_by r i e said long =
      subst (λ (t : Bool). ByTurn t p out r [] said) (sym enough)
      (record { index = i ∙ turn-index; told = e; none = refl; long = long })

  made_by : (t : Bool) → is_long next ≡ t
      → let r : Progress = record { advance = if t then with_text 0 next else next; end = p.end; ended = p.ended } in Made bytes written p input out r input out' run'
  made_by true e =
      record {
        new = [];
        said = take next.at out';
        came =
            came_same (sym (append-nil bytes)) refl
            (record {
              ready = record { ordered = omega (arith, next-from, hand-length p input k.ready, k.ready.ordered); filled = k.ready.filled; short = omega arith };
              done = done_now;
              parts = parts-now;
              performing = λ rest f. performing-same refl refl (sym (append-nil (written ++ take next.at out'))) (performing-now rest f);
            });
        turn = turn_by _ refl refl (take next.at out') (λ h. absurd (omega (arith, h, ltb-true most_text next.at e, length-take-le next.at out' inside)));
      }
  made_by false e =
      record {
        new = [];
        said = [];
        came =
            came_same (sym (append-nil bytes)) (sym (append-nil written))
            (record {
              ready = record { ordered = omega (arith, next-from, hand-length p input k.ready, k.ready.ordered); filled = k.ready.filled; short = ltb-false most_text next.at e };
              done = done_now;
              parts = parts-now;
              performing = performing-now;
            });
        turn = turn_by _ refl refl [] (λ _. refl);
      }

  pub made-next : {r : Progress} → r ≡ flushed_as p next → Made bytes written p input out r input out' run'
  made-next e = subst (λ (q : Progress). Made bytes written p input out q input out' run') (sym e) (made_by (is_long next) refl)

-- ---- all turns
-- each of so many turns read bytes, or found the end of the input, or performed a request
abbrev one : Bool → ℕ
one t = if t then 1 else 0

pub record Going (p : Progress) (turns : ℕ) (input out : List ℕ) (run : RunState) : Type 0 where
  pub bytes : List ℕ
  pub written : List ℕ
  pub reached : Reached p input out run bytes written
  pub came : Came bytes written p input out run
  pub made : turns ≤ p.advance.index + (length bytes + one p.ended)
  pub fits : p.advance.index ≤ turns

pub going-start : (input out : List ℕ) {run : RunState} → Holds start run → Going start_at 0 input out run
going-start input out h =
    record { bytes = []; written = []; reached = at_start h; came = came-start input out h; made = omega arith; fits = omega arith }

-- a read that gives nothing tells the end
read-counts : (bytes new : List ℕ) (ended : Bool) → ended ≡ eqb (length new) 0 → length bytes + 1 ≤ length (bytes ++ new) + one ended
read-counts bytes new ended e = by (eqb (length new) 0) refl
  where
    by : (z : Bool) → eqb (length new) 0 ≡ z → length bytes + 1 ≤ length (bytes ++ new) + one ended
    by true z = rw (e, z) (omega (arith, length-append bytes new))
    by false z = rw (e, z) (omega (arith, length-append bytes new, eqb-false (length new) 0 z))

pub going-next : {p : Progress} {turns : ℕ} {input out : List ℕ} {run : RunState} (g : Going p turns input out run) {r : Progress} {input' out' : List ℕ} {run' : RunState}
    → goes_on p ≡ true → Made g.bytes g.written p input out r input' out' run' → Going r (turns + 1) input' out' run'
going-next {p} {turns} {input} {out} g {r} {input'} {out'} {run'} goes m = by (lacks (at_hand p input) p.ended) refl m.turn
  where
    by : (t : Bool) → lacks (at_hand p input) p.ended ≡ t → ByTurn t p out r m.new m.said → Going r (turns + 1) input' out' run'
    by true e k =
        let none : one p.ended ≡ 0 = ap one (unended (at_hand p input) p.ended e) in
        record {
          bytes = g.bytes ++ m.new;
          written = g.written ++ m.said;
          reached = after_turn g.reached goes m;
          came = m.came;
          made = omega (arith, g.made, k.index, read-counts g.bytes m.new r.ended k.told);
          fits = omega (arith, g.fits, k.index);
        }
    by false e k =
        let same : length (g.bytes ++ m.new) ≡ length g.bytes = ap (λ (l : List ℕ). length (g.bytes ++ l)) k.none ∙ ap length (append-nil g.bytes) in
        let told : one r.ended ≡ one p.ended = ap one k.told in
        record {
          bytes = g.bytes ++ m.new;
          written = g.written ++ m.said;
          reached = after_turn g.reached goes m;
          came = m.came;
          made = omega (arith, g.made, k.index);
          fits = omega (arith, g.fits, k.index);
        }

-- a request has bytes, so there were no more of them than bytes
counted : {bytes written : List ℕ} {p : Progress} {input out : List ℕ} {run : RunState} (k : Came bytes written p input out run) → p.advance.index ≤ length bytes
counted {bytes} {p = p} {input = input} k = omega (arith, (k.performing [] (λ _. refl)).counted, ap length k.parts, length-append k.done (at_hand p input))

-- left where it does not go on, or after all turns
pub all-made : {p : Progress} {turns : ℕ} {input out : List ℕ} {run : RunState} → Going p turns input out run → (goes_on p ≡ true → 2 ^ 64 ≤ turns + 2) → AllMade p input out run
all-made {p} {turns} g last =
    record {
      bytes = g.bytes;
      written = g.written;
      reached = g.reached;
      came = g.came;
      over = λ h. by p.ended (last h) g.made;
    }
  where
    by : (ended : Bool) → 2 ^ 64 ≤ turns + 2 → turns ≤ p.advance.index + (length g.bytes + one ended) → 2 ^ 63 ≤ length g.bytes + 1
    by true l h = omega (arith, counted g.came)
    by false l h = omega (arith, counted g.came)

-- ---- the whole
-- where the program stops nothing is left
stops : {bytes written : List ℕ} {p : Progress} {input out : List ℕ} {run : RunState} (k : Came bytes written p input out run) → goes_on p ≡ false
    → (rest : List ℕ) → MayFollow p rest → p.advance.refused ≡ false → length k.done < length (bytes ++ rest) → ⊥
stops {bytes} {p = p} {input = input} k e rest f kept h =
    let left : not p.ended || ltb p.advance.from p.end ≡ false =
    sym (ap (λ (t : Bool). not t && (not p.ended || ltb p.advance.from p.end)) kept) ∙ e in
    let n = or-neither (not p.ended) (ltb p.advance.from p.end) left in
    let none : rest ≡ [] = f (not-not-false p.ended n.0) in
    omega (
      arith,
      h,
      length-append bytes rest,
      ap length none,
      ap length k.parts,
      length-append k.done (at_hand p input),
      hand-length p input k.ready,
      ltb-false p.advance.from p.end n.1,
    )

module _ {p : Progress} {input out : List ℕ} {run : RunState} (a : AllMade p input out run) where
  pub well-formed : WellFormed (memory_of run)
  well-formed = let h = a.came.performing [] (λ _. refl) in (h.state.state.memory, memory-held h.holds.state)

  pub printed : p.advance.at + 0x28000 ≤ length out → {end : ℕ} {out' : List ℕ}
      → ((m : Memory) → tables.Holds m (memory_of run) → Written out p.advance.at (memory_lines 0 m) out' end) → IsPrinted (with_text_to end p) out'
  printed room {end} {out'} w =
      record {
        last = p;
        input = input;
        before = out;
        run = run;
        bytes = a.bytes;
        written = a.written;
        reached = a.reached;
        same = refl;
        fits = inside;
        output = λ few rest f.
            let h = a.came.performing rest f in
            let k = performing-end h (stops a.came (over few) rest f) in
            let m = memory-held h.holds.state in
            ap (λ (l : List ℕ). a.written ++ l) (text-behind (memory_lines 0 h.state.state.memory) (w h.state.state.memory m) inside)
            ∙ sym (append_assoc a.written (text_at_hand p out) (memory_lines 0 h.state.state.memory))
            ∙ text-whole k;
      }
    where
      inside : end ≤ length out'
      inside = let m = well-formed in memory-inside m.1 (w m.0 m.1) room

      over : length a.bytes + 1 < 2 ^ 63 → goes_on p ≡ false
      over few = by (goes_on p) refl
        where
          by : (t : Bool) → goes_on p ≡ t → goes_on p ≡ false
          by true e = absurd (omega (arith, few, a.over e))
          by false e = e
