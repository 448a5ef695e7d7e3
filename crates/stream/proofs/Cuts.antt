-- The next request by its bytes is the first request of the definition's cut, and what is left is cut from the bytes behind it. So a run taken request by request, up to the first refusal, is the definition's `program`.
use Rattle.std.specs.Prelude.{if◌then◌else◌}
use Prim.Native.Nat.{ℕ, zero, suc, ◌+◌, ◌-◌, ◌*◌, ◌%◌, ◌≤◌, ◌<◌}
use mathlib.Core.Path.{◌≡◌, refl, sym, ap, ap₂, ◌∙◌}
use mathlib.Core.Bool.{Bool, true, false, not, ◌||◌}
use mathlib.Core.List.{List, [], ◌∷◌, ◌++◌}
use native.Mathlib.Omega.{arith}
use native.Mathlib.Nat.{mul-add-mod_self_left, mod-eq_of_lt}
use borrow.Author.Tests.{ltb-true, ltb-false, lt-ltb, ne_eqb}
use lib.Dec.{eqb, ltb}
use lib.ListN.{length, take, drop, length-take, length-drop, drop_of_length-le}
use lib.Seq.{take_all, take-nil, take-append-le}
use Rattle.definition.specs.Refusal.{malformed}
use Rattle.definition.specs.Memory.{Answer, refused_with}
use Rattle.definition.specs.Frame.{State}
use Rattle.definition.specs.Request.{request, following_length, is_miscounted, is_malformed, Request, is_too_big}
use Rattle.definition.specs.Run.{words_of, rest_request, taken_length, cut_requests, requests_of, performed_count, RunState, start, width_after, turn, answers, final, run, perform, step, program}
use Rattle.stream.specs.Stream.{request_size, next_request, program_from}
use Rattle.stream.proofs.Words.{fourfold, fourfold-mul, words_take, words-drop, counted}

-- ---- how many words follow is read from the first four
abbrev follow : List ℕ → ℕ
follow ws = following_length (request ws)

follow-sucs : (n : ℕ) (ws : List ℕ) → follow (take (suc (suc (suc (suc n)))) ws) ≡ follow ws
unfolding request following_length
follow-sucs n [] = refl
follow-sucs n (a ∷ []) = refl
follow-sucs n (a ∷ b ∷ []) = refl
follow-sucs n (a ∷ b ∷ c ∷ []) = refl
follow-sucs n (a ∷ b ∷ c ∷ d ∷ ws) = refl

pub follow-four : (n : ℕ) (ws : List ℕ) → follow (take (4 + n) ws) ≡ follow ws
follow-four n ws =
    let e : 4 + n ≡ suc (suc (suc (suc n))) = omega arith in ap (λ (m : ℕ). follow (take m ws)) e ∙ follow-sucs n ws

-- ---- a request that is whole at hand is the same whatever follows
module _ (bytes later : List ℕ) (h : request_size bytes ≤ length bytes) where
  four-words : (l : List ℕ) → follow (words_of l) ≡ follow (words_of (take 16 l))
  four-words l = sym (follow-four 0 (words_of l)) ∙ ap follow (sym (words_take 4 l))

  same-follow : follow (words_of (bytes ++ later)) ≡ follow (words_of bytes)
  unfolding request_size
  same-follow =
      four-words (bytes ++ later)
      ∙ ap (λ (l : List ℕ). follow (words_of l)) (take-append-le 16 bytes later (omega arith))
      ∙ sym (four-words bytes)

  pub size-more : request_size (bytes ++ later) ≡ request_size bytes
  unfolding request_size
  size-more = ap (λ (n : ℕ). 16 + 4 * taken_length n) same-follow

  pub next_more : next_request (bytes ++ later) ≡ next_request bytes
  next_more =
      ap (λ (n : ℕ). words_of (take n (bytes ++ later))) size-more
      ∙ ap words_of (take-append-le (request_size bytes) bytes later h)

-- ---- more fuel than words makes no difference
cut-fuel : (m m' : ℕ) (rest : Bool) (ws : List ℕ) → length ws ≤ m → length ws ≤ m' → cut_requests m rest ws ≡ cut_requests m' rest ws
unfolding cut_requests
cut-fuel zero zero rest ws h h' = refl
cut-fuel zero (suc m') rest [] h h' = refl
cut-fuel zero (suc m') rest (w ∷ ws) h h' = absurd (omega arith)
cut-fuel (suc m) zero rest [] h h' = refl
cut-fuel (suc m) zero rest (w ∷ ws) h h' = absurd (omega arith)
cut-fuel (suc m) (suc m') rest [] h h' = refl
cut-fuel (suc m) (suc m') rest (w ∷ ws) h h' =
    let n : ℕ = 4 + taken_length (follow (w ∷ ws)) in
    let k : length (drop n (w ∷ ws)) ≡ length (w ∷ ws) - n = length-drop n (w ∷ ws) in
    ap (λ (l : List (List ℕ)). if ltb (length (w ∷ ws)) n then (w ∷ ws) ∷ [] else take n (w ∷ ws) ∷ l)
    (cut-fuel m m' rest (drop n (w ∷ ws)) (omega arith) (omega arith))

-- ---- bytes behind the last word
abbrev is_rest : List ℕ → Bool
is_rest bytes = not (eqb (length bytes % 4) 0)

rest-drop : (n : ℕ) (bytes : List ℕ) → 4 * n ≤ length bytes → is_rest (drop (4 * n) bytes) ≡ is_rest bytes
rest-drop n bytes h =
    let k : length (drop (4 * n) bytes) ≡ length bytes - 4 * n = length-drop (4 * n) bytes in
    let e : 4 * n + length (drop (4 * n) bytes) ≡ length bytes = omega arith in
    ap (λ (r : ℕ). not (eqb r 0)) (sym (mul-add-mod_self_left 4 n (length (drop (4 * n) bytes))) ∙ ap (λ (x : ℕ). x % 4) e)

-- ---- the first request
-- the size that is taken, in words
abbrev taken : List ℕ → ℕ
taken ws = taken_length (follow ws)

size-taken : (bytes : List ℕ) → request_size bytes ≡ fourfold (4 + taken (words_of bytes))
unfolding request_size
size-taken bytes = let h : fourfold (4 + taken (words_of bytes)) ≡ 4 * (4 + taken (words_of bytes)) = fourfold-mul (4 + taken (words_of bytes)) in omega arith

next-words : (bytes : List ℕ) → next_request bytes ≡ take (4 + taken (words_of bytes)) (words_of bytes)
next-words bytes =
    ap (λ (n : ℕ). words_of (take n bytes)) (size-taken bytes) ∙ words_take (4 + taken (words_of bytes)) bytes

-- it is the first of the cut, and what is left is cut from the bytes behind it
abbrev CutOff : List ℕ → Type 0
CutOff bytes = requests_of bytes ≡ next_request bytes ∷ requests_of (drop (request_size bytes) bytes)

-- nothing is behind it
none-behind : (bytes : List ℕ) → length bytes ≤ request_size bytes → [] ≡ requests_of (drop (request_size bytes) bytes)
unfolding requests_of cut_requests words_of
none-behind bytes h = ap requests_of (sym (drop_of_length-le bytes {i = request_size bytes} h))

-- no word: one to three bytes
module _ (bytes : List ℕ) (e : words_of bytes ≡ []) (h : 0 < length bytes) where
  no_words : requests_of bytes ≡ [] ∷ []
  unfolding requests_of cut_requests
  no_words =
      let k = counted bytes in
      let z : length (words_of bytes) ≡ 0 = ap length e in
      let r : length bytes % 4 ≡ length bytes = mod-eq_of_lt (omega (arith, k.few, k.total)) in
      ap (λ (ws : List ℕ). cut_requests (length ws) (is_rest bytes) ws) e
      ∙ ap (λ (t : Bool). rest_request (not t)) (ne_eqb (length bytes % 4) 0 (omega arith))

  first-without : CutOff bytes
  unfolding request_size
  first-without =
      let k = counted bytes in
      let z : length (words_of bytes) ≡ 0 = ap length e in
      let next : [] ≡ next_request bytes = sym (next-words bytes ∙ ap (λ (l : List ℕ). take (4 + taken l) l) e ∙ take-nil (4 + taken [])) in
      no_words ∙ ap₂ ◌∷◌ next (none-behind bytes (omega (arith, k.few, k.total)))

module _ (bytes : List ℕ) (w : ℕ) (ws : List ℕ) (e : words_of bytes ≡ w ∷ ws) where
  abbrev all : List ℕ
  all = w ∷ ws

  abbrev whole : ℕ
  whole = 4 + taken all

  abbrev later : List (List ℕ)
  later = cut_requests (length ws) (is_rest bytes) (drop whole all)

  cut_by : (short : Bool) → ltb (length all) whole ≡ short → requests_of bytes ≡ (if short then all ∷ [] else take whole all ∷ later)
  unfolding requests_of cut_requests
  cut_by short es =
      ap (λ (l : List ℕ). cut_requests (length l) (is_rest bytes) l) e
      ∙ ap (λ (t : Bool). if t then all ∷ [] else take whole all ∷ later) es

  next-is : next_request bytes ≡ take whole all
  next-is = next-words bytes ∙ ap (λ (l : List ℕ). take (4 + taken l) l) e

  size_is : request_size bytes ≡ fourfold whole
  size_is = size-taken bytes ∙ ap (λ (l : List ℕ). fourfold (4 + taken l)) e

  -- the last request is cut short
  nothing-behind : length all < whole → [] ≡ requests_of (drop (request_size bytes) bytes)
  nothing-behind l =
      let k = counted bytes in
      let z : length (words_of bytes) ≡ length all = ap length e in
      let f : fourfold whole ≡ 4 * whole = fourfold-mul whole in
      none-behind bytes (omega (arith, k.few, k.total, size_is))

  -- more may follow
  later-behind : whole ≤ length all → later ≡ requests_of (drop (request_size bytes) bytes)
  unfolding requests_of
  later-behind l =
      let k = counted bytes in
      let z : length (words_of bytes) ≡ length all = ap length e in
      let f : fourfold whole ≡ 4 * whole = fourfold-mul whole in
      let d : length (drop whole all) ≡ length all - whole = length-drop whole all in
      let words : words_of (drop (fourfold whole) bytes) ≡ drop whole all = words-drop whole bytes ∙ ap (drop whole) e in
      let rest : is_rest (drop (fourfold whole) bytes) ≡ is_rest bytes =
      ap (λ (n : ℕ). is_rest (drop n bytes)) f ∙ rest-drop whole bytes (omega (arith, k.few, k.total)) in
      cut-fuel (length ws) (length (drop whole all)) (is_rest bytes) (drop whole all) (omega arith) (omega arith)
      ∙ ap (λ (r : Bool). cut_requests (length (drop whole all)) r (drop whole all)) (sym rest)
      ∙ ap (λ (l : List ℕ). cut_requests (length l) (is_rest (drop (fourfold whole) bytes)) l) (sym words)
      ∙ ap (λ (n : ℕ). requests_of (drop n bytes)) (sym size_is)

  first_by : (short : Bool) → ltb (length all) whole ≡ short → CutOff bytes
  first_by true es =
      let l : length all < whole = ltb-true (length all) whole es in
      cut_by true es ∙ ap₂ ◌∷◌ (sym (next-is ∙ take_all whole all (omega arith))) (nothing-behind l)
  first_by false es = cut_by false es ∙ ap₂ ◌∷◌ (sym next-is) (later-behind (ltb-false (length all) whole es))

pub first-request : (bytes : List ℕ) → 0 < length bytes → CutOff bytes
first-request bytes h = by (words_of bytes) refl
  where
    by : (l : List ℕ) → words_of bytes ≡ l → CutOff bytes
    by [] e = first-without bytes e h
    by (w ∷ ws) e = first_by bytes w ws e (ltb (length (w ∷ ws)) (4 + taken (w ∷ ws))) refl

-- "so does, in the program, a store or retag with more than 4,096 words after its fourth": the next request is then refused with 2, and changes nothing
module _ (r : RunState) (bytes : List ℕ) (many : 4096 < follow (words_of bytes)) where
  miscounted : is_miscounted (next_request bytes) ≡ true
  unfolding is_miscounted
  miscounted =
      let none : taken (words_of bytes) ≡ 0 = ap (λ (t : Bool). if t then 0 else follow (words_of bytes)) (lt-ltb 4096 (follow (words_of bytes)) many) in
      let four : next_request bytes ≡ take 4 (words_of bytes) = next-words bytes ∙ ap (λ (n : ℕ). take (4 + n) (words_of bytes)) none in
      let few : length (next_request bytes) ≤ 4 = omega (arith, ap length four, length-take 4 (words_of bytes)) in
      let same : follow (next_request bytes) ≡ follow (words_of bytes) = ap follow four ∙ follow-four 0 (words_of bytes) in
      ap not (ne_eqb (length (next_request bytes)) (4 + follow (next_request bytes)) (omega arith))

  pub too_many : turn r (next_request bytes) ≡ (refused_with malformed, r)
  unfolding turn step width_after
  too_many =
      let ws : List ℕ = next_request bytes in
      let q : Request = request ws in
      let at : Answer × State → Answer × RunState = λ o. (o.0, record { state = o.1; width = width_after o.0 q r.width }) in
      ap (λ (t : Bool). at (if t || is_malformed q.kind r.state q || is_too_big r.width q then (refused_with malformed, r.state) else perform r.width q.kind r.state q)) miscounted

-- ---- the run, request by request
pub program-from : (bytes : List ℕ) → program_from start bytes ≡ program bytes
unfolding program_from program
program-from bytes = refl

pub program-end : (s : RunState) → program_from s [] ≡ ([], s)
unfolding program_from requests_of words_of cut_requests answers performed_count final
program-end s = refl

-- the requests up to the first that is refused
abbrev stopped : RunState → List (List ℕ) → List Answer × RunState
stopped s wss = run s (take (performed_count (answers s wss)) wss)

stopped_more : (s : RunState) (ws : List ℕ) (wss : List (List ℕ)) → (turn s ws).0.refusal ≡ 0
    → stopped s (ws ∷ wss) ≡ ((turn s ws).0 ∷ (stopped (turn s ws).1 wss).0, (stopped (turn s ws).1 wss).1)
unfolding answers performed_count final
stopped_more s ws wss z =
    ap (λ (r : ℕ). run s (take (suc (if eqb r 0 then performed_count (answers (turn s ws).1 wss) else 0)) (ws ∷ wss))) z

stopped-last : (s : RunState) (ws : List ℕ) (wss : List (List ℕ)) → eqb (turn s ws).0.refusal 0 ≡ false
    → stopped s (ws ∷ wss) ≡ ((turn s ws).0 ∷ [], (turn s ws).1)
unfolding answers performed_count final
stopped-last s ws wss z =
    ap (λ (t : Bool). run s (take (suc (if t then performed_count (answers (turn s ws).1 wss) else 0)) (ws ∷ wss))) z

module _ (s : RunState) (bytes : List ℕ) (h : 0 < length bytes) where
  abbrev outcome : Answer × RunState
  outcome = turn s (next_request bytes)

  abbrev left : List Answer × RunState
  left = program_from outcome.1 (drop (request_size bytes) bytes)

  pub program-more : outcome.0.refusal ≡ 0 → program_from s bytes ≡ (outcome.0 ∷ left.0, left.1)
  unfolding program_from
  program-more z =
      ap (stopped s) (first-request bytes h) ∙ stopped_more s (next_request bytes) (requests_of (drop (request_size bytes) bytes)) z

  pub program-last : eqb outcome.0.refusal 0 ≡ false → program_from s bytes ≡ (outcome.0 ∷ [], outcome.1)
  unfolding program_from
  program-last z =
      ap (stopped s) (first-request bytes h) ∙ stopped-last s (next_request bytes) (requests_of (drop (request_size bytes) bytes)) z
