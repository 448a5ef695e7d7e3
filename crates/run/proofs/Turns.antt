-- A list, turn by turn: what is left to do from the state that is held comes to what the whole list does from the empty one.
use Rattle.std.specs.Prelude.{Ok, Err}
use Prim.Native.Nat.{ℕ, ◌+◌, ◌-◌, ◌≤◌, ◌<◌}
use mathlib.Core.Path.{◌≡◌, refl, sym, ap, subst, ◌∙◌}
use mathlib.Core.Bool.{true, false}
use mathlib.Core.List.{List, [], ◌∷◌, ◌++◌, append-nil, append_assoc}
use native.Mathlib.Numerals.{add-one}
use native.Mathlib.Omega.{arith}
use lib.ListN.{length, get_or, take, drop, drop_of_length-le}
use lib.Seq.{drop-cons}
use Rattle.definition.specs.Memory as definition
use Rattle.definition.specs.Run.{RunState, start, turn, answers, final}
use Rattle.definition.proofs.Exchanges.{order-is-free}
use Rattle.definition.proofs.Writes.{write-length}
use Rattle.tables.specs.Encoding.{Buffers, encode}
use Rattle.frames.specs.Buffer.{frames_held}
use Rattle.state.specs.Run.{memory_of, Holds}
use Rattle.state.specs.declared.RunState as code
use Rattle.state.proofs.Held.{state-lengths}
use Rattle.answer.specs.Answer.{answer_of}
use Rattle.answer.specs.declared.Answer.{Answer}
use Rattle.answer.proofs.Loaded.{loaded-length}
use Rattle.transcript.specs.Transcript.{answer_words, transcript, WrittenTo}
use Rattle.transcript.specs.declared.Written.{Written}
use Rattle.refusal.specs.declared.Refusal.TheVariants.{NotWellFormed}
use Rattle.run.specs.declared.Answered.{Answered}
use Rattle.run.specs.Lists.{requests_from, requests_in, Lent, lent, ran, answered, list_run, ListRan}
use Rattle.pointer.specs.Width.{declared_width}
use Rattle.pointer.proofs.Widths.{declared_same}
use Rattle.step.specs.Steps as step
use Rattle.state.specs.Lengths.{have_lengths}
use Rattle.run.specs.Turns.{Turned, Going}

pub written-length : {text before out : List ℕ} {w : Written} → WrittenTo text before out w → length out ≡ length before
written-length {text} {before} h = ap length h.contents ∙ write-length 0 text before

-- ---- one turn
module _ {r : RunState} {ws : List ℕ} {a : Answer} (run : code.RunState) (k : step.Turned r ws a run) where
  pub few_words : length (answer_of a run.words.now).words ≤ 4096
  few_words = omega (arith, loaded-length a run.words.now, (state-lengths k.holds.state).words)

  pub turned : {w w' : Written} {out out' : List ℕ}
      → ((text before : List ℕ) → WrittenTo text before out w → WrittenTo (text ++ answer_words (answer_of a run.words.now)) before out' w')
      → Turned r ws w out w' run out'
  turned {w} {w'} {out} {out'} f = record {
    holds = k.holds;
    written = λ text before t. subst (λ (d : definition.Answer). WrittenTo (text ++ answer_words d) before out' w') k.answer (f text before t);
  }

-- ---- the list
module _ (words ends before : List ℕ) where
  pub going_start : {w : Written} (run : code.RunState) → Holds start run → ((out : List ℕ) → WrittenTo [] out out w) → Going words ends before 0 0 w run before
  going_start run h f = record { state = start; text = []; holds = h; written = f before; to_end = refl; told = refl }

  module _ {i : ℕ} (from : ℕ) (inside : i < length ends) where
    next : {end : ℕ} → end ≡ get_or ends i 0 → requests_from from (drop i ends) words ≡ take (end - from) (drop from words) ∷ requests_from end (drop (i + 1) ends) words
    unfolding requests_from
    next e = ap (λ (l : List ℕ). requests_from from l words) (drop-cons ends i 0 inside) ∙ rw (add-one, ← e)

    pub going_on : {w w' : Written} (run run' : code.RunState) → {out out' request : List ℕ} {end : ℕ} → (g : Going words ends before i from w run out) → end ≡ get_or ends i 0
        → request ≡ take (end - from) (drop from words) → Turned g.state request w out w' run' out' → Going words ends before (i + 1) end w' run' out'
    unfolding final answers transcript
    going_on run run' {request = request} {end} g e is t =
        let s = g.state in
        let rest = requests_from end (drop (i + 1) ends) words in
        let left : requests_from from (drop i ends) words ≡ request ∷ rest = next e ∙ ap (λ (ws : List ℕ). ws ∷ rest) (sym is) in
        record {
          state = (turn s request).1;
          text = g.text ++ answer_words (turn s request).0;
          holds = t.holds;
          written = t.written g.text before g.written;
          to_end = sym (ap (final s) left) ∙ g.to_end;
          told =
              append_assoc g.text (answer_words (turn s request).0) (transcript (answers (turn s request).1 rest))
              ∙ ap (λ (l : List (List ℕ)). g.text ++ transcript (answers s l)) (sym left)
              ∙ g.told;
        }

  pub all-ran : {i from : ℕ} {w : Written} (run : code.RunState) {out : List ℕ} → length ends ≤ i → Going words ends before i from w run out
      → ◌≡◌ {A = Answered × Lent} (record { written = w; width = run.width }, lent (memory_of run) run.frames.now out) (ran (requests_in words ends) before)
  unfolding requests_from final answers transcript ran
  all-ran {i} {from} {w} run {out} all g =
      let l : List (List ℕ) = requests_in words ends in
      let none_left : drop i ends ≡ [] = drop_of_length-le ends {i = i} all in
      let s-end : g.state ≡ final start l = ap (λ (x : List ℕ). final g.state (requests_from from x words)) (sym none_left) ∙ g.to_end in
      let told : g.text ≡ transcript (answers start l) =
      sym (append-nil g.text) ∙ ap (λ (x : List ℕ). g.text ++ transcript (answers g.state (requests_from from x words))) (sym none_left) ∙ g.told in
      let t : WrittenTo (transcript (answers start l)) before out w = subst (λ (text : List ℕ). WrittenTo text before out w) told g.written in
      let memory : memory_of run ≡ encode (final start l).state.memory = g.holds.state.memory ∙ ap (λ (r : RunState). encode r.state.memory) s-end in
      let frames : run.frames.now ≡ frames_held (final start l).state.frames = g.holds.state.frames ∙ ap (λ (r : RunState). frames_held r.state.frames) s-end in
      let width : run.width ≡ declared_width (final start l).width =
      declared_same run.width ∙ ap declared_width (g.holds.width ∙ ap (λ (r : RunState). r.width) s-end) in
      λ k. (record { written = record { at = t.end k; whole = t.fits k }; width = width k }, lent (memory k) (frames k) (t.contents k))

-- ---- for whatever is lent
module _ {l : List (List ℕ)} {b₀ : Buffers} {F₀ before : List ℕ} where
  pub not-lent : have_lengths b₀ F₀ ≡ false → ListRan l (lent b₀ F₀ before) (Err NotWellFormed) (lent b₀ F₀ before)
  unfolding list_run
  not-lent e = record { outcome = rw e; order = order-is-free start l }

  pub list-ran : have_lengths b₀ F₀ ≡ true → {a : Answered} {left : Lent} → ◌≡◌ {A = Answered × Lent} (a, left) (ran l before)
      → ListRan l (lent b₀ F₀ before) (Ok a) left
  unfolding list_run
  list-ran e k = record {
    outcome = rw e (ap answered k);
    order = order-is-free start l;
  }
