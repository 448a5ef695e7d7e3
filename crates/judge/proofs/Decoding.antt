-- The bytes of a request: its fields, and the words behind them.
use Prim.Native.Nat.{ℕ, ◌≤◌, ◌<◌}
use mathlib.Core.Path.{◌≡◌, refl, sym, ap, ◌∙◌}
use mathlib.Core.List.{List}
use native.Mathlib.Omega.{arith}
use lib.ListN.{length, get_or, take, drop, length-take, length-drop}
use lib.Seq.{take-take}
use Rattle.definition.specs.Run.{words_of}
use Rattle.request.specs.declared.Request.{Request}
use Rattle.step.specs.Steps.{Decoded}
use Rattle.stream.specs.Stream.{HeadOf}
use Rattle.stream.proofs.Words.{counted, words_take, words-drop, bytes-words}

pub few_words : (bytes : List ℕ) → length bytes < 16 → length (words_of bytes) < 4
few_words bytes h = let k = counted bytes in omega (arith, k.total)

pub decoded : (bytes following : List ℕ) (q : Request) → 16 ≤ length bytes → ((i : ℕ) → get_or bytes i 0 < 256) → HeadOf bytes q
    → following ≡ words_of (drop 16 bytes) → Decoded q following (words_of bytes)
decoded bytes following q long small head e =
    let k = counted bytes in
    let rest : following ≡ drop 4 (words_of bytes) = e ∙ words-drop 4 bytes in
    record {
      fields = head (words_of bytes) refl;
      rest = rest;
      count = omega (arith, ap length rest, length-drop 4 (words_of bytes), k.few, k.total);
      words = bytes-words bytes small;
    }

-- ---- the fields of a run are those of the part that is its next request
pub head-long : (bytes : List ℕ) (n : ℕ) → 16 ≤ length (take n bytes) → 16 ≤ length bytes
head-long bytes n h = omega (arith, length-take n bytes)

pub head-part : (bytes : List ℕ) (n : ℕ) (q : Request) → 16 ≤ length (take n bytes) → HeadOf bytes q → HeadOf (take n bytes) q
head-part bytes n q h head ws front =
    head ws (front ∙ sym (words_take 4 (take n bytes)) ∙ ap words_of (take-take 16 n bytes (omega (arith, length-take n bytes))) ∙ words_take 4 bytes)
