-- One request: its fields and its words are the definition's, and each way to answer it is the definition's `step`.
use Rattle.std.specs.Prelude.{if◌then◌else◌}
use Prim.Native.Nat.{ℕ, suc, ◌+◌, ◌^◌, ◌≤◌, ◌<◌}
use native.Mathlib.Omega.{arith}
use borrow.Author.Tests.{ne_eqb}
use mathlib.Core.Path.{◌≡◌, refl, sym, ap, subst, ◌∙◌}
use mathlib.Core.Bool.{Bool, true, false, not, ◌||◌}
use mathlib.Core.List.{List, [], ◌∷◌}
use lib.Dec.{eqb}
use lib.ListN.{length, get_or, drop, length-drop}
use Rattle.definition.specs.Width.{Width}
use Rattle.definition.specs.Refusal.{malformed}
use Rattle.definition.specs.Memory as definition
use Rattle.definition.specs.Memory.{refused_with}
use Rattle.definition.specs.Frame.{State}
use Rattle.definition.specs.Request.{Request, request, following_length, is_miscounted, is_malformed, is_too_big}
use Rattle.definition.specs.Run.{IsWord, perform, is_refused, step, RunState, width_after, turn}
use Rattle.definition.specs.Valid.{All, ValidState}
use Rattle.definition.proofs.Alls.{all_drop}
use Rattle.definition.proofs.Booleans.{or-neither}
use Rattle.definition.proofs.ValidRuns.{valid-step}
use Rattle.answer.specs.declared.Answer.{Answer}
use Rattle.answer.specs.declared.Answer.TheVariants.{Refused}
use Rattle.tables.specs.Encoding.{Buffers, encode}
use Rattle.frames.specs.Buffer.{HoldsFrames, frames_held}
use Rattle.frames.proofs.FromValid.{valid-holds}
use Rattle.pointer.specs.Width.{width_of}
use Rattle.answer.specs.Answer.{answer_of}
use Rattle.request.specs.declared.Request as code
use Rattle.request.specs.Fields.{kind_of, request_of}
use Rattle.perform.specs.Performed.{Formed, outcome_of, Left}
use Rattle.state.specs.State.{HoldsState}
use Rattle.state.specs.Run.{memory_of, Holds}
use Rattle.state.specs.declared.RunState as state
use Rattle.step.specs.Steps.{Decoded, Stepped, Turned}

-- numbers that are each below 2^32
pub all_words : (ws : List ℕ) → ((i : ℕ) → get_or ws i 0 < 2 ^ 32) → All IsWord ws
all_words [] h = tt
all_words (w ∷ ws) h = (h 0, all_words ws (λ i. h (suc i)))

-- the fields of words, and the words behind them
pub decoded : (ws : List ℕ) → All IsWord ws → (q : code.Request) → request_of q (drop 4 ws) ≡ request ws → {following : List ℕ} → following ≡ drop 4 ws → 4 ≤ length ws → Decoded q following ws
decoded ws words q fields rest long = record { fields = fields; rest = rest; count = omega (arith, ap length rest, length-drop 4 ws); words = words }

-- the three tests of 2
pub refused-by : (w : Width) (s : State) (ws : List ℕ) {a b e : Bool} → a ≡ is_miscounted ws → (q : code.Request) → request_of q (drop 4 ws) ≡ request ws
    → {following : List ℕ} → following ≡ drop 4 ws → b ≡ is_malformed (kind_of q.kind) s (request_of q following) → e ≡ is_too_big w (request_of q following)
    → a || b || e ≡ is_refused w s ws
refused-by w s ws f q same {following} is g k i =
    let as-request : request_of q following ≡ request ws = ap (request_of q) is ∙ same in
    f i || (g ∙ ap (λ (x : Request). is_malformed x.kind s x) as-request) i || (k ∙ ap (is_too_big w) as-request) i

-- too few words even for the fields
pub short-refused : (w : Width) (s : State) (ws : List ℕ) → length ws < 4 → is_refused w s ws ≡ true
unfolding is_miscounted
short-refused w s ws h =
    let n = 4 + following_length (request ws) in
    let other : eqb (length ws) n ≡ false = ne_eqb (length ws) n (λ e. omega arith) in
    rw other

module _ {s : State} {b : Buffers} {F : List ℕ} (h : HoldsState s b F) where
  pub frames-held : HoldsFrames s.frames F
  frames-held = valid-holds s F h.valid h.frames

  module _ (w : Width) (ws : List ℕ) where
    by-test : (t : Bool) → is_refused w s ws ≡ t → step w s ws ≡ (if t then (refused_with malformed, s) else perform w (request ws).kind s (request ws))
    unfolding step
    by-test t e = ap (λ (t : Bool). if t then (refused_with malformed, s) else perform w (request ws).kind s (request ws)) e

    stepped_by : {o : definition.Answer × State} → step w s ws ≡ o → {r : Answer} {b' : Buffers} {F' : List ℕ} → Left o r b' F' → ValidState (step w s ws).1 → Stepped w s ws r b' F'
    stepped_by e k v = record {
      answer = k.answer ∙ ap (λ (o : definition.Answer × State). o.0) (sym e);
      holds = record {
        valid = v;
        memory = k.memory ∙ ap (λ (o : definition.Answer × State). encode o.1.memory) (sym e);
        frames = k.frames ∙ ap (λ (o : definition.Answer × State). frames_held o.1.frames) (sym e);
      };
    }

    pub stepped-refused : is_refused w s ws ≡ true → Stepped w s ws (Refused 2) b F
    stepped-refused e =
        stepped_by (by-test true e) (record { answer = refl; memory = h.memory; frames = h.frames })
        (subst (λ (o : definition.Answer × State). ValidState o.1) (sym (by-test true e)) h.valid)

    module _ (passed : is_refused w s ws ≡ false) (q : code.Request) {following : List ℕ} (d : Decoded q following ws) where
      as-request : request_of q following ≡ request ws
      as-request = ap (request_of q) d.rest ∙ d.fields

      pub formed : Formed s q following
      formed =
          let fields : Bool = is_miscounted ws || is_malformed (request ws).kind s (request ws) in
          record {
            fine =
                ap (λ (x : Request). is_malformed x.kind s x) as-request
                ∙ (or-neither (is_miscounted ws) (is_malformed (request ws).kind s (request ws)) (or-neither fields (is_too_big w (request ws)) passed).0).1;
            words = subst (All IsWord) (sym d.rest) (all_drop IsWord 4 ws d.words);
          }

      pub stepped : {r : Answer} {b' : Buffers} {F' : List ℕ} → Left (outcome_of w s q following) r b' F' → Stepped w s ws r b' F'
      stepped k = stepped_by (by-test false passed ∙ ap (λ (x : Request). perform w x.kind s x) (sym as-request)) k (valid-step w s ws d.words h.valid)

-- ---- in a run
module _ {r : RunState} (run : state.RunState) (h : Holds r run) (ws : List ℕ) where
  turned_by : {a : Answer} (run' : state.RunState) → Stepped (width_of run.width) r.state ws a (memory_of run') run'.frames.now
      → width_of run'.width ≡ width_after (step (width_of run.width) r.state ws).0 (request ws) (width_of run.width) → Turned r ws a run'
  unfolding turn
  turned_by {a} run' k e =
      let k' : Stepped r.width r.state ws a (memory_of run') run'.frames.now = subst (λ (w : Width). Stepped w r.state ws a (memory_of run') run'.frames.now) h.width k in
      record {
        answer = k'.answer;
        holds = record { state = k'.holds; width = e ∙ ap (λ (w : Width). width_after (step w r.state ws).0 (request ws) w) h.width };
      }

  -- refused before its fields are read
  pub turned-short : length ws < 4 → Turned r ws (Refused 2) run
  unfolding width_after step
  turned-short few =
      let refused : is_refused (width_of run.width) r.state ws ≡ true = short-refused (width_of run.width) r.state ws few in
      turned_by run (stepped-refused h.state (width_of run.width) ws refused) (rw refused refl)

  pub turned : {q : code.Request} {following : List ℕ} → Decoded q following ws → {a : Answer} (run' : state.RunState)
      → Stepped (width_of run.width) r.state ws a (memory_of run') run'.frames.now
      → ((d : definition.Answer) (ws : List ℕ) → not (eqb (answer_of a run'.words.now).refusal 0) ≡ not (eqb d.refusal 0) → width_of run'.width ≡ width_after d (request_of q ws) (width_of run.width))
      → Turned r ws a run'
  turned {q} {following} d run' k f =
      let w = width_of run.width in
      let a : definition.Answer = (step w r.state ws).0 in
      turned_by run' k (f a (drop 4 ws) (ap (λ (x : definition.Answer). not (eqb x.refusal 0)) k.answer) ∙ ap (λ (x : Request). width_after a x w) d.fields)
