-- The bytes at hand: what a request takes of them, and that it is the same whatever follows.
use Prim.Native.Nat.{ℕ, ◌+◌, ◌-◌, ◌≤◌, ◌<◌, min}
use mathlib.Core.Path.{◌≡◌, refl, sym, ap, ◌∙◌}
use mathlib.Core.Bool.{Bool, true, false, not, ◌&&◌, ◌||◌}
use mathlib.Core.List.{List, [], ◌++◌, append-nil}
use native.Mathlib.Omega.{arith}
use borrow.Author.Tests.{ltb-true, ltb-false}
use lib.Dec.{eqb, ltb}
use lib.ListN.{length, take, drop, length-take, length-drop, length-append}
use lib.Seq.{take-add, take_at, drop_at, length-take-le}
use Rattle.definition.proofs.Booleans.{and_left, and_right}
use Rattle.stream.specs.Stream.{request_size, next_request, moved}
use Rattle.stream.proofs.Cuts.{size-more, next_more}
use Rattle.judge.proofs.Runs.{size-some, size-most}
use Rattle.verdict.specs.declared.Progress.{Progress}
use Rattle.verdict.specs.Progress.{lacks, goes_on, at_hand, Ready, HasRead}

-- what is not lacking is whole, or nothing more may come
whole : (t : Bool) → t && true ≡ false → t ≡ false
whole true e = e
whole false e = e

-- a request that is not lacking has bytes
by_tests : (ended : Bool) (from end : ℕ) (bytes : List ℕ) → length bytes ≤ end - from → not ended || ltb from end ≡ true → lacks bytes ended ≡ false → from < end
by_tests true from end bytes h g l = ltb-true from end g
by_tests false from end bytes h g l = omega (arith, size-some bytes, ltb-false (length bytes) (request_size bytes) (whole (ltb (length bytes) (request_size bytes)) l))

pub some-request : (p : Progress) (input : List ℕ) → goes_on p ≡ true → lacks (at_hand p input) p.ended ≡ false → p.advance.from < p.end
some-request p input g l =
    let from : ℕ = p.advance.from in
    by_tests p.ended from p.end (take (p.end - from) (drop from input))
    (omega (arith, length-take (p.end - from) (drop from input)))
    (and_right (not p.advance.refused) (not p.ended || ltb from p.end) g) l

-- the bytes up to the end, from a place on
pub same_bytes : (from end : ℕ) (input : List ℕ) → from ≤ end → end ≤ length input → drop from (take end input) ≡ take (end - from) (drop from input)
same_bytes from end input h k =
    let e : end ≡ from + (end - from) = omega arith in
    ap (λ (n : ℕ). drop from (take n input)) e
    ∙ ap (drop from) (take-add from (end - from) input)
    ∙ drop_at (take from input) (take (end - from) (drop from input)) from (length-take-le from input (omega arith))

-- they are as many as the places say
pub hand-length : (p : Progress) (input : List ℕ) → Ready p input → length (at_hand p input) ≡ p.end - p.advance.from
hand-length p input h = length-take-le (p.end - p.advance.from) (drop p.advance.from input) (omega (arith, length-drop p.advance.from input))

-- a request that is lacking leaves room in the buffer
pub lacks-room : (p : Progress) (input : List ℕ) → Ready p input → lacks (at_hand p input) p.ended ≡ true → p.end - p.advance.from < 16400
lacks-room p input h e =
    let hand : List ℕ = at_hand p input in
    omega (arith, hand-length p input h, size-most hand, ltb-true (length hand) (request_size hand) (and_left (ltb (length hand) (request_size hand)) (not p.ended) e))

-- ---- what a read leaves
-- the bytes at hand are moved to the front, and n bytes stand behind them
pub has-read : (p : Progress) (input : List ℕ) → Ready p input → (kept n : ℕ) (front input' : List ℕ) → kept ≡ p.end - p.advance.from → front ≡ moved p.advance.from (p.end - p.advance.from) input
    → take kept input' ≡ take kept front → kept + n ≤ length input'
    → HasRead p input (record { advance = record { from = 0; at = 0; index = p.advance.index; refused = p.advance.refused }; end = kept + n; ended = eqb n 0 }) input'
has-read p input ready kept n front input' e f g fits =
    let new : List ℕ = take n (drop kept input') in
    let all : kept + n - 0 ≡ kept + n = omega arith in
    let hand : take kept input' ≡ at_hand p input =
    g
    ∙ ap (take kept) f
    ∙ ap (λ (m : ℕ). take m (moved p.advance.from (p.end - p.advance.from) input)) e
    ∙ take_at (at_hand p input) (drop (p.end - p.advance.from) input) (p.end - p.advance.from) (hand-length p input ready) in
    record {
      new = new;
      hand =
          ap (λ (m : ℕ). take m input') all
          ∙ take-add kept n input'
          ∙ ap (λ (l : List ℕ). l ++ new) hand;
      advance = refl;
      filled = fits;
      told = ap (λ (m : ℕ). eqb m 0) (sym (length-take-le n (drop kept input') (omega (arith, length-drop kept input'))));
    }

-- ---- the next request, whatever follows the bytes at hand
pub record SameNext (hand rest : List ℕ) : Type 0 where
  pub words : next_request (hand ++ rest) ≡ next_request hand
  pub size : min (request_size (hand ++ rest)) (length (hand ++ rest)) ≡ min (request_size hand) (length hand)

pub same_next : (ended : Bool) (hand rest : List ℕ) → lacks hand ended ≡ false → (ended ≡ true → rest ≡ []) → SameNext hand rest
same_next true hand rest l f =
    let e : hand ++ rest ≡ hand = ap (λ (l : List ℕ). hand ++ l) (f refl) ∙ append-nil hand in
    record { words = ap next_request e; size = ap (λ (l : List ℕ). min (request_size l) (length l)) e }
same_next false hand rest l f =
    let h : request_size hand ≤ length hand = ltb-false (length hand) (request_size hand) (whole (ltb (length hand) (request_size hand)) l) in
    record { words = next_more hand rest h; size = omega (arith, size-more hand rest h, length-append hand rest) }
