-- Nothing written, a word more, and what can be read back.
use Prim.Native.Nat.{ℕ, ◌+◌, ◌<◌, ◌≤◌}
use native.Mathlib.Omega.{arith}
use mathlib.Core.Bool.{true, false}
use mathlib.Core.Path.{◌≡◌, sym, ap, ◌∙◌}
use mathlib.Core.List.{List, [], ◌∷◌, ◌++◌}
use borrow.Author.Tests.{le-leb, lt-leb, leb-true}
use lib.Dec.{leb-zero}
use lib.ListN.{length, take, set, length-append}
use lib.Seq.{set_out}
use Rattle.definition.specs.Notation.{write_at}
use Rattle.definition.proofs.Writes.{write-none, write-length, write-one, write-more, write-back}
use Rattle.transcript.specs.Transcript.{WrittenTo}
use Rattle.transcript.specs.declared.Written.{Written}
use native.Mathlib.Nat.{zero-add}

-- ---- nothing
pub written_none : (out : List ℕ) → WrittenTo [] out out (record { at = 0; whole = true })
written_none out =
    record { contents = sym (write-none 0 out); end = omega arith; fits = sym (leb-zero (length out)) }

-- ---- a word more
write-end : (text : List ℕ) (x : ℕ) (before : List ℕ) → write_at 0 (text ++ (x ∷ [])) before ≡ set (write_at 0 text before) (length text) x
write-end text x before = sym (write-one (length text) x (write_at 0 text before) ∙ (rw zero-add at (write-more 0 text (x ∷ []) before)))

module _ (text before out : List ℕ) (w : Written) (h : WrittenTo text before out w) (x : ℕ) where
  out-length : length out ≡ length before
  out-length = ap length h.contents ∙ write-length 0 text before

  longer : length (text ++ (x ∷ [])) ≡ length text + 1
  longer = length-append text (x ∷ [])

  contents-more : set out (length text) x ≡ write_at 0 (text ++ (x ∷ [])) before
  contents-more = ap (λ (l : List ℕ). set l (length text) x) h.contents ∙ sym (write-end text x before)

  pub written-more : w.at < length out → WrittenTo (text ++ (x ∷ [])) before (set out w.at x) (record { at = w.at + 1; whole = w.whole })
  written-more room =
      let l = out-length in
      let n = longer in
      let e : w.at ≡ length text = omega (arith, h.end) in
      let fitted = le-leb (length text) (length before) (omega (arith, h.end)) in
      let fits = le-leb (length (text ++ (x ∷ []))) (length before) (omega (arith, h.end)) in
      record {
        contents = ap (λ (k : ℕ). set out k x) e ∙ contents-more;
        end = omega (arith, h.end);
        fits = h.fits ∙ fitted ∙ sym fits;
      }

  pub written-cut : length out ≤ w.at → WrittenTo (text ++ (x ∷ [])) before out (record { at = w.at; whole = false })
  written-cut full =
      let l = out-length in
      let n = longer in
      let beyond : length out ≤ length text = omega (arith, h.end) in
      record {
        contents = sym (set_out out (length text) x beyond) ∙ contents-more;
        end = omega (arith, h.end);
        fits = sym (lt-leb (length (text ++ (x ∷ []))) (length before) (omega arith));
      }

-- ---- reading back
pub written_back : (text before out : List ℕ) (w : Written) → WrittenTo text before out w → w.whole ≡ true → take w.at out ≡ text
written_back text before out w h whole =
    let room : length text ≤ length before = leb-true (length text) (length before) (sym h.fits ∙ whole) in
    let e : w.at ≡ length text = omega (arith, h.end) in
    rw (e, h.contents) (write-back text before room)
