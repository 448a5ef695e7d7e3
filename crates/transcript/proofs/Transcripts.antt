-- The words of a list tell its answers: each answer begins with a heading of five words, whose last says how many words follow.
use Prim.Native.Nat.{ℕ, zero, suc}
use mathlib.Core.Bool.{true}
use mathlib.Core.Path.{◌≡◌, refl, sym, ap, ◌∙◌}
use mathlib.Core.Option.{none, some}
use mathlib.Core.List.{List, [], ◌∷◌, ◌++◌, append_assoc, append-nil}
use native.Mathlib.Omega.{arith}
use lib.ListN.{length, get_or, take, drop}
use lib.Seq.{take-append_seam, drop-append_seam}
use Rattle.definition.specs.Memory.{Answer, Named}
use Rattle.definition.specs.Memory.Named.{Pointer, Leak}
use Rattle.transcript.specs.Transcript.{heading, answer_words, transcript, WrittenTo}
use Rattle.transcript.specs.declared.Written.{Written}
use Rattle.transcript.proofs.Writing.{written_back}

-- ---- answers behind answers
pub transcript-append : (xs ys : List Answer) → transcript (xs ++ ys) ≡ transcript xs ++ transcript ys
unfolding transcript
transcript-append [] ys = refl
transcript-append (x ∷ xs) ys =
    ap (λ (l : List ℕ). answer_words x ++ l) (transcript-append xs ys) ∙ sym (append_assoc (answer_words x) (transcript xs) (transcript ys))

pub transcript-more : (xs : List Answer) (a : Answer) → transcript (xs ++ (a ∷ [])) ≡ transcript xs ++ answer_words a
unfolding transcript
transcript-more xs a = transcript-append xs (a ∷ []) ∙ ap (λ (l : List ℕ). transcript xs ++ l) (append-nil (answer_words a))

-- ---- one-to-one: an answer can be read back
abbrev read_named : ℕ → ℕ → ℕ → Named
read_named zero first second = Pointer none
read_named (suc zero) first second = Pointer (some (record { allocation = first; node = second }))
read_named (suc (suc gives)) first second = Leak first

-- the first answer, and the words behind it
abbrev read_answer : List ℕ → Answer × List ℕ
read_answer l =
    let rest : List ℕ = drop 5 l in
    let count : ℕ = get_or l 4 0 in (
      record { refusal = get_or l 0 0; names = read_named (get_or l 1 0) (get_or l 2 0) (get_or l 3 0); words = take count rest },
      drop count rest,
    )

loaded-back : (refusal : ℕ) (names : Named) (ws x : List ℕ)
    → ◌≡◌ {A = Answer × List ℕ} (record { refusal = refusal; names = names; words = take (length ws) (ws ++ x) }, drop (length ws) (ws ++ x)) (record { refusal = refusal; names = names; words = ws }, x)
loaded-back refusal names ws x = λ i. (record { refusal = refusal; names = names; words = take-append_seam ws x i }, drop-append_seam ws x i)

read_back : (refusal : ℕ) (names : Named) (ws x : List ℕ)
    → read_answer ((heading refusal names (length ws) ++ ws) ++ x) ≡ (record { refusal = refusal; names = names; words = ws }, x)
read_back refusal (Pointer none) ws x = loaded-back refusal (Pointer none) ws x
read_back refusal (Pointer (some t)) ws x = loaded-back refusal (Pointer (some t)) ws x
read_back refusal (Leak n) ws x = loaded-back refusal (Leak n) ws x

answer_back : (a : Answer) (x : List ℕ) → read_answer (answer_words a ++ x) ≡ (a, x)
unfolding answer_words
answer_back a x = read_back a.refusal a.names a.words x

apart : ◌≡◌ {A = ℕ} 0 1 → ⊥
apart e = omega arith

pub transcript-one-to-one : (xs ys : List Answer) → transcript xs ≡ transcript ys → xs ≡ ys
unfolding transcript answer_words
transcript-one-to-one [] [] e = refl
transcript-one-to-one [] (y ∷ ys) e = absurd (apart (cc))
transcript-one-to-one (x ∷ xs) [] e = absurd (apart (cc))
transcript-one-to-one (x ∷ xs) (y ∷ ys) e =
    let h : ◌≡◌ {A = Answer × List ℕ} (x, transcript xs) (y, transcript ys) = sym (answer_back x (transcript xs)) ∙ ap read_answer e ∙ answer_back y (transcript ys) in
    λ i. (h i).0 ∷ transcript-one-to-one xs ys (λ j. (h j).1) i

-- equal buffers that hold all words are those of equal answers, whatever stood in them before
pub same_answers : (xs ys : List Answer) (before before' out : List ℕ) (w : Written)
    → WrittenTo (transcript xs) before out w → WrittenTo (transcript ys) before' out w → w.whole ≡ true → xs ≡ ys
same_answers xs ys before before' out w h h' whole =
    transcript-one-to-one xs ys
    (sym (written_back (transcript xs) before out w h whole) ∙ written_back (transcript ys) before' out w h' whole)
