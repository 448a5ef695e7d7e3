-- Demand 3, for the definition: from any state of a run, at any width, and so from its start.
--     order-is-free    exchanges change no answer and nothing that is left; an accepted load made again is accepted, gives the same words, and changes nothing more
-- A load or store is either refused with 2 whatever the state, or an access; accesses that are independent commute (Accesses).
use Rattle.std.specs.Prelude.{if◌then◌else◌}
use Prim.Native.Nat.{ℕ, zero, suc, ◌+◌, ◌≤◌, ◌<◌}
use mathlib.Core.Path.{◌≡◌, refl, sym, ap, ap₂, ◌∙◌}
use mathlib.Core.Bool.{Bool, true, false, ◌&&◌, ◌||◌, false≢true}
use mathlib.Core.Logic.{◌⊎◌, inl, inr, ⊎_elim}
use mathlib.Core.List.{List, [], ◌∷◌}
use native.Mathlib.Decide.{dec_lt}
use native.Mathlib.Omega.{arith}
use lib.Dec.{eqb}
use borrow.Author.Tests.{not-false, eqb-true}
use lib.ListN.{length, get_or, drop, length-drop}
use Rattle.definition.specs.Refusal.{malformed}
use Rattle.definition.specs.Width.{Width}
use Rattle.definition.specs.Permission.AccessKind.{Read}
use Rattle.definition.specs.Memory.{Memory, Answer, refused_with, MemoryAccess, access_refusal, accept_access, perform_access}
use Rattle.definition.specs.Frame.{State, empty, in_memory}
use Rattle.definition.specs.Request.{Kind, request, following_length, is_miscounted, is_malformed, is_too_big, load_of, store_of}
use Rattle.definition.specs.Request.Kind.{Allocate, Deallocate, Load, Store, Retag, NewCall, EndCall, Dereferenceable, SignedDereferenceable, LeakCheck, Unused}
use Rattle.definition.specs.Run.{perform, step, RunState, width_by, width_after, turn, answers, final}
use Rattle.definition.specs.Exchange.{kind_of, IsLoadOrStore, Independent, MayExchange, exchange, exchange_all, Exchanged, twice, all_accepted, OrderIsFree}
use Rattle.definition.specs.Exchange.Independent.{both_loads, no_common_address}
use Rattle.definition.proofs.Booleans.{or-neither}
use Rattle.definition.proofs.Alls.{not-refused}
use Rattle.definition.proofs.Accesses.{from, Empty, Fits, Aside, answer-same, memory-same, again, again-answer}
use Rattle.definition.proofs.Accesses.Aside.{reads, before, behind}

and-swap : (a b c : Bool) → a && (b && c) ≡ b && (a && c)
and-swap true b c = refl
and-swap false true c = refl
and-swap false false c = refl

-- ---- a load or store, as a step: refused with 2 if b says so, whatever the state, and else an access
abbrev play : Bool → MemoryAccess → State → Answer × State
play b t s = if b then (refused_with malformed, s) else in_memory s (perform_access t s.memory)

record Played (w : Width) (ws : List ℕ) : Type 0 where
  bad : Bool
  touch : MemoryAccess
  steps : (s : State) → step w s ws ≡ play bad touch s
  start : from touch ≡ (request ws).address
  as_long : bad ≡ false → touch.len ≡ (request ws).fourth
  fits : Fits touch
  load : kind_of ws ≡ Load → touch.kind ≡ Read
  no_bytes : kind_of ws ≡ Load → touch.bytes ≡ []

abbrev is-load : Kind → Bool
is-load Allocate = false
is-load Deallocate = false
is-load Load = true
is-load Store = false
is-load Retag = false
is-load NewCall = false
is-load EndCall = false
is-load Dereferenceable = false
is-load SignedDereferenceable = false
is-load LeakCheck = false
is-load Kind.Empty = false
is-load Unused = false

no-load : (ws : List ℕ) → kind_of ws ≡ Store → kind_of ws ≡ Load → ⊥
no-load ws e l = false≢true (sym (ap is-load e) ∙ ap is-load l)

-- a store that is not is_miscounted has as many bytes as its length says
counted : (ws : List ℕ) → kind_of ws ≡ Store → is_miscounted ws ≡ false → length (drop 4 ws) ≡ (request ws).fourth
unfolding is_miscounted following_length
counted ws e h =
    let l : length ws ≡ 4 + following_length (request ws) = eqb-true (length ws) (4 + following_length (request ws)) (not-false _ h) in
    let k : following_length (request ws) ≡ (request ws).fourth = rw (e, following_length) in
    omega (arith, length-drop 4 ws)

following-is : (ws : List ℕ) → (request ws).following ≡ drop 4 ws
unfolding request
following-is ws = refl

-- 2, of a kind that uses no frame
abbrev tests : Width → Kind → List ℕ → Bool
tests w k ws = is_miscounted ws || is_malformed k empty (request ws) || is_too_big w (request ws)

load-steps : (w : Width) (ws : List ℕ) → kind_of ws ≡ Load → (s : State) → step w s ws ≡ play (tests w Load ws) (load_of (request ws)) s
unfolding step perform is_malformed
load-steps w ws e s =
    ap (λ (k : Kind). if is_miscounted ws || is_malformed k s (request ws) || is_too_big w (request ws) then (refused_with malformed, s) else perform w k s (request ws)) e

store-steps : (w : Width) (ws : List ℕ) → kind_of ws ≡ Store → (s : State) → step w s ws ≡ play (tests w Store ws) (store_of (request ws)) s
unfolding step perform is_malformed
store-steps w ws e s =
    ap (λ (k : Kind). if is_miscounted ws || is_malformed k s (request ws) || is_too_big w (request ws) then (refused_with malformed, s) else perform w k s (request ws)) e

played : (w : Width) (ws : List ℕ) → IsLoadOrStore ws → Played w ws
played w ws (inl e) =
    record {
      bad = tests w Load ws;
      touch = load_of (request ws);
      steps = load-steps w ws e;
      start = refl;
      as_long = λ h. refl;
      fits = omega arith;
      load = λ l. refl;
      no_bytes = λ l. refl;
    }
played w ws (inr e) =
    record {
      bad = tests w Store ws;
      touch = store_of (request ws);
      steps = store-steps w ws e;
      start = refl;
      as_long =
          λ h.
          let words : is_miscounted ws || is_malformed Store empty (request ws) ≡ false = (or-neither (is_miscounted ws || is_malformed Store empty (request ws)) (is_too_big w (request ws)) h).0 in
          ap length (following-is ws) ∙ counted ws e (or-neither (is_miscounted ws) (is_malformed Store empty (request ws)) words).0;
      fits = omega arith;
      load = λ l. absurd (no-load ws e l);
      no_bytes = λ l. absurd (no-load ws e l);
    }

-- ---- two neighbours
-- two ranges, neither empty, with no number in common
ranges : (a k b l : ℕ) → (k ≡ 0 → ⊥) → (l ≡ 0 → ⊥) → ((n : ℕ) → a ≤ n → n < a + k → b ≤ n → n < b + l → ⊥) → (a + k ≤ b) ⊎ (b + l ≤ a)
ranges a k b l zk zl h =
    elim (dec_lt b (a + k)) [
      | no n ↦ inl (omega arith)
      | yes i ↦
          elim (dec_lt a (b + l)) [
            | no n ↦ inr (omega arith)
            | yes j ↦
                elim (dec_lt a b) [
                  | yes c ↦ absurd (h b (omega arith) (omega arith) (omega arith) (omega arith))
                  | no c ↦ absurd (h a (omega arith) (omega arith) (omega arith) (omega arith))
                ]
          ]
    ]

module _ {w : Width} (x y : List ℕ) (p : Played w x) (q : Played w y) where
  -- with some length each, they are independent
  aside : Independent x y → p.bad ≡ false → q.bad ≡ false → (Empty p.touch → ⊥) → (Empty q.touch → ⊥) → Aside p.touch q.touch
  aside (both_loads a b) e f zp zq = reads (p.load a) (q.load b) (p.no_bytes a) (q.no_bytes b)
  aside (no_common_address h) e f zp zq =
      let lp : p.touch.len ≡ (request x).fourth = p.as_long e in
      let lq : q.touch.len ≡ (request y).fourth = q.as_long f in
      let sp : from p.touch ≡ (request x).address = p.start in
      let sq : from q.touch ≡ (request y).address = q.start in
      ⊎_elim (λ (i : from p.touch + p.touch.len ≤ from q.touch). before i) (λ (i : from q.touch + q.touch.len ≤ from p.touch). behind i)
      (ranges (from p.touch) p.touch.len (from q.touch) q.touch.len zp zq
      (λ n a b c d. h n (record { from = omega arith; to = omega arith }) (record { from = omega arith; to = omega arith })))

play-answer : (b c : Bool) (t u : MemoryAccess) → (b ≡ false → c ≡ false → (Empty t → ⊥) → (Empty u → ⊥) → Aside t u) → Fits t → Fits u → (s : State)
    → (play c u (play b t s).1).0 ≡ (play c u s).0
play-answer b true t u ind ft fu s = refl
play-answer true false t u ind ft fu s = refl
play-answer false false t u ind ft fu s = answer-same t u (ind refl refl) ft fu s.memory

play-end : (b c : Bool) (t u : MemoryAccess) → (b ≡ false → c ≡ false → (Empty t → ⊥) → (Empty u → ⊥) → Aside t u) → Fits t → Fits u → (s : State)
    → (play c u (play b t s).1).1 ≡ (play b t (play c u s).1).1
play-end true true t u ind ft fu s = refl
play-end true false t u ind ft fu s = refl
play-end false true t u ind ft fu s = refl
play-end false false t u ind ft fu s =
    ap {B = State} (λ (m : Memory). record { memory = m; frames = s.frames }) (memory-same t u (ind refl refl) ft fu s.memory)

flip : (x y : List ℕ) → Independent x y → Independent y x
flip x y (both_loads a b) = both_loads b a
flip x y (no_common_address h) = no_common_address (λ n u v. h n v u)

module _ (w : Width) (x y : List ℕ) (may : MayExchange x y) (s : State) where
  abbrev p : Played w x
  p = played w x may.first

  abbrev q : Played w y
  q = played w y may.second

  -- the second gets the same answer as without the first
  step-later : (step w (step w s x).1 y).0 ≡ (step w s y).0
  step-later =
      ap (λ (r : Answer × State). r.0) (q.steps (step w s x).1)
      ∙ ap (λ (r : Answer × State). (play q.bad q.touch r.1).0) (p.steps s)
      ∙ play-answer p.bad q.bad p.touch q.touch (aside x y p q may.independent) p.fits q.fits s
      ∙ sym (ap (λ (r : Answer × State). r.0) (q.steps s))

  -- both leave the same in either order
  step-ends : (step w (step w s x).1 y).1 ≡ (step w (step w s y).1 x).1
  step-ends =
      ap (λ (r : Answer × State). r.1) (q.steps (step w s x).1)
      ∙ ap (λ (r : Answer × State). (play q.bad q.touch r.1).1) (p.steps s)
      ∙ play-end p.bad q.bad p.touch q.touch (aside x y p q may.independent) p.fits q.fits s
      ∙ sym (ap (λ (r : Answer × State). r.1) (p.steps (step w s y).1) ∙ ap (λ (r : Answer × State). (play p.bad p.touch r.1).1) (q.steps s))

-- ---- in a run: a load or store keeps the width
abbrev at_width : Width → Answer × State → Answer × RunState
at_width w o = (o.0, record { state = o.1; width = w })

same_width : (ws : List ℕ) → IsLoadOrStore ws → (a : Answer) (w : Width) → width_after a (request ws) w ≡ w
unfolding width_after
same_width ws is a w = by (eqb a.refusal 0)
  where
    kept : width_by (kind_of ws) (request ws) w ≡ w
    kept = ⊎_elim (λ (e : kind_of ws ≡ Load). ap (λ (k : Kind). width_by k (request ws) w) e) (λ (e : kind_of ws ≡ Store). ap (λ (k : Kind). width_by k (request ws) w) e) is

    by : (t : Bool) → (if t then width_by (kind_of ws) (request ws) w else w) ≡ w
    by true = kept
    by false = refl

turns : (r : RunState) (ws : List ℕ) → IsLoadOrStore ws → turn r ws ≡ at_width r.width (step r.width r.state ws)
unfolding turn
turns r ws is =
    let o : Answer × State = step r.width r.state ws in
    ap (λ (w : Width). (o.0, record { state = o.1; width = w })) (same_width ws is o.0 r.width)

module _ (x y : List ℕ) (may : MayExchange x y) (r : RunState) where
  abbrev w : Width
  w = r.width

  abbrev s : State
  s = r.state

  both : turn (turn r x).1 y ≡ at_width w (step w (step w s x).1 y)
  both = ap (λ (o : Answer × RunState). turn o.1 y) (turns r x may.first) ∙ turns (record { state = (step w s x).1; width = w }) y may.second

  later : (turn (turn r x).1 y).0 ≡ (turn r y).0
  later =
      ap (λ (o : Answer × RunState). o.0) both
      ∙ step-later w x y may s
      ∙ sym (ap (λ (o : Answer × RunState). o.0) (turns r y may.second))

turned-may : (x y : List ℕ) → MayExchange x y → MayExchange y x
turned-may x y m = record { first = m.second; second = m.first; independent = flip x y m.independent }

ends : (x y : List ℕ) → MayExchange x y → (r : RunState) → (turn (turn r x).1 y).1 ≡ (turn (turn r y).1 x).1
ends x y may r =
    ap (λ (o : Answer × RunState). o.1) (both x y may r)
    ∙ ap (λ (z : State). record { state = z; width = r.width }) (step-ends r.width x y may r.state)
    ∙ sym (ap (λ (o : Answer × RunState). o.1) (both y x (turned-may x y may) r))

-- ---- one exchange in a list
one-answers : (n : ℕ) (l : List (List ℕ)) (r : RunState) → MayExchange (get_or l n []) (get_or l (suc n) []) → answers r (exchange n l) ≡ exchange n (answers r l)
unfolding answers exchange
one-answers n [] r may = refl
one-answers zero (x ∷ []) r may = refl
one-answers zero (x ∷ y ∷ l) r may =
    ap₂ ◌∷◌ (sym (later x y may r))
    (ap₂ ◌∷◌ (later y x (turned-may x y may) r) (ap (λ (z : RunState). answers z l) (sym (ends x y may r))))
one-answers (suc n) (x ∷ l) r may = ap (λ (rest : List Answer). (turn r x).0 ∷ rest) (one-answers n l (turn r x).1 may)

one_end : (n : ℕ) (l : List (List ℕ)) (r : RunState) → MayExchange (get_or l n []) (get_or l (suc n) []) → final r (exchange n l) ≡ final r l
unfolding final exchange
one_end n [] r may = refl
one_end zero (x ∷ []) r may = refl
one_end zero (x ∷ y ∷ l) r may = ap (λ (z : RunState). final z l) (sym (ends x y may r))
one_end (suc n) (x ∷ l) r may = one_end n l (turn r x).1 may

-- ---- any number of them
all-answers : (ns : List ℕ) (l : List (List ℕ)) (r : RunState) → Exchanged ns l → answers r (exchange_all ns l) ≡ exchange_all ns (answers r l)
unfolding exchange_all
all-answers [] l r h = refl
all-answers (n ∷ ns) l r h = all-answers ns (exchange n l) r h.1 ∙ ap (exchange_all ns) (one-answers n l r h.0)

all_end : (ns : List ℕ) (l : List (List ℕ)) (r : RunState) → Exchanged ns l → final r (exchange_all ns l) ≡ final r l
unfolding exchange_all
all_end [] l r h = refl
all_end (n ∷ ns) l r h = all_end ns (exchange n l) r h.1 ∙ one_end n l r h.0

-- ---- a load again
was-accepted : (t : MemoryAccess) (m : Memory) → (perform_access t m).0.refusal ≡ 0 → access_refusal t m ≡ 0
unfolding perform_access
was-accepted t m e = not-refused (access_refusal t m) m (accept_access t m) e

play-again : (b : Bool) (t : MemoryAccess) → t.kind ≡ Read → t.bytes ≡ [] → Fits t → (s : State) → (play b t s).0.refusal ≡ 0
    → ((play b t (play b t s).1).0 ≡ (play b t s).0) × ((play b t (play b t s).1).1 ≡ (play b t s).1)
play-again true t x y f s e = absurd (omega arith)
play-again false t x y f s e =
    let z : access_refusal t s.memory ≡ 0 = was-accepted t s.memory e in
    (again-answer t x y f s.memory z, ap {B = State} (λ (m : Memory). record { memory = m; frames = s.frames }) (again t x y f s.memory z))

turn-again : (x : List ℕ) → kind_of x ≡ Load → (r : RunState) → (turn r x).0.refusal ≡ 0
    → ((turn (turn r x).1 x).0 ≡ (turn r x).0) × ((turn (turn r x).1 x).1 ≡ (turn r x).1)
turn-again x l r e =
    let w : Width = r.width in
    let s : State = r.state in
    let p = played w x (inl l) in
    let once : turn r x ≡ at_width w (play p.bad p.touch s) = turns r x (inl l) ∙ ap (at_width w) (p.steps s) in
    let o : Answer × State = play p.bad p.touch s in
    let twice : turn (turn r x).1 x ≡ at_width w (play p.bad p.touch o.1) =
    ap (λ (t : Answer × RunState). turn t.1 x) once
    ∙ turns (record { state = o.1; width = w }) x (inl l)
    ∙ ap (at_width w) (p.steps o.1)
    in
    let h = play-again p.bad p.touch (p.load l) (p.no_bytes l) p.fits s (ap (λ (t : Answer × RunState). t.0.refusal) (sym once) ∙ e) in (
      ap (λ (t : Answer × RunState). t.0) twice ∙ h.0 ∙ sym (ap (λ (t : Answer × RunState). t.0) once),
      ap (λ (t : Answer × RunState). t.1) twice
          ∙ ap (λ (z : State). record { state = z; width = w }) h.1
          ∙ sym (ap (λ (t : Answer × RunState). t.1) once),
    )

twice-answers : (n : ℕ) (l : List (List ℕ)) (r : RunState) → kind_of (get_or l n []) ≡ Load → (get_or (answers r l) n (refused_with malformed)).refusal ≡ 0
    → answers r (twice n l) ≡ twice n (answers r l)
unfolding answers twice
twice-answers n [] r k e = refl
twice-answers zero (x ∷ l) r k e =
    let h = turn-again x k r e in
    ap (λ (rest : List Answer). (turn r x).0 ∷ rest) (ap₂ ◌∷◌ h.0 (ap (λ (z : RunState). answers z l) h.1))
twice-answers (suc n) (x ∷ l) r k e = ap (λ (rest : List Answer). (turn r x).0 ∷ rest) (twice-answers n l (turn r x).1 k e)

twice-end : (n : ℕ) (l : List (List ℕ)) (r : RunState) → kind_of (get_or l n []) ≡ Load → (get_or (answers r l) n (refused_with malformed)).refusal ≡ 0
    → final r (twice n l) ≡ final r l
unfolding answers final twice
twice-end n [] r k e = refl
twice-end zero (x ∷ l) r k e = ap (λ (z : RunState). final z l) (turn-again x k r e).1
twice-end (suc n) (x ∷ l) r k e = twice-end n l (turn r x).1 k e

-- ---- all accepted, or not
exchange-accepted : (n : ℕ) (l : List Answer) → all_accepted (exchange n l) ≡ all_accepted l
unfolding exchange all_accepted
exchange-accepted n [] = refl
exchange-accepted zero (x ∷ []) = refl
exchange-accepted zero (x ∷ y ∷ l) = and-swap (eqb y.refusal 0) (eqb x.refusal 0) (all_accepted l)
exchange-accepted (suc n) (x ∷ l) = ap (λ (b : Bool). eqb x.refusal 0 && b) (exchange-accepted n l)

exchanges-accepted : (places : List ℕ) (l : List Answer) → all_accepted (exchange_all places l) ≡ all_accepted l
unfolding exchange_all
exchanges-accepted [] l = refl
exchanges-accepted (n ∷ places) l = exchanges-accepted places (exchange n l) ∙ exchange-accepted n l

-- ---- the claim
pub order-is-free : (r : RunState) (l : List (List ℕ)) → OrderIsFree r l
order-is-free r l =
    record {
      same_answers = λ places h. all-answers places l r h;
      same_end = λ places h. all_end places l r h;
      same_acceptance = λ places h. ap all_accepted (all-answers places l r h) ∙ exchanges-accepted places (answers r l);
      again_answers = λ n h. twice-answers n l r h.load h.accepted;
      again_end = λ n h. twice-end n l r h.load h.accepted;
    }
