-- The words of a part of the bytes are a part of their words.
use Prim.Native.Nat.{ℕ, zero, suc, ◌+◌, ◌*◌, ◌≤◌, ◌<◌}
use mathlib.Core.Path.{◌≡◌, refl, sym, ap, ◌∙◌}
use mathlib.Core.List.{List, [], ◌∷◌, map}
use native.Mathlib.Omega.{arith}
use native.Mathlib.Nat.{add-zero}
use lib.ListN.{length, get_or, take, drop, length-drop}
use lib.Seq.{get_or-drop, drop-drop}
use Rattle.std.specs.Int.{w32, from_be_bytes}
use Rattle.std.specs.Simd.{first_chunks}
use Rattle.definition.specs.Run.{IsWord, words_of}
use Rattle.definition.specs.Valid.{All}
use Rattle.stream.specs.Stream.{word_from}

-- 4 * n, by recursion on n
abbrev pub fourfold : ℕ → ℕ
fourfold zero = zero
fourfold (suc n) = suc (suc (suc (suc (fourfold n))))

pub fourfold-mul : (n : ℕ) → fourfold n ≡ 4 * n
fourfold-mul zero = refl
fourfold-mul (suc n) = let h : fourfold n ≡ 4 * n = fourfold-mul n in omega arith

pub words_take : (n : ℕ) (bytes : List ℕ) → words_of (take (fourfold n) bytes) ≡ take n (words_of bytes)
unfolding words_of
words_take zero bytes = refl
words_take (suc n) [] = refl
words_take (suc n) (a ∷ []) = refl
words_take (suc n) (a ∷ b ∷ []) = refl
words_take (suc n) (a ∷ b ∷ c ∷ []) = refl
words_take (suc n) (a ∷ b ∷ c ∷ d ∷ bytes) = ap (λ (ws : List ℕ). word_from a b c d ∷ ws) (words_take n bytes)

pub words-drop : (n : ℕ) (bytes : List ℕ) → words_of (drop (fourfold n) bytes) ≡ drop n (words_of bytes)
unfolding words_of
words-drop zero bytes = refl
words-drop (suc n) [] = refl
words-drop (suc n) (a ∷ []) = refl
words-drop (suc n) (a ∷ b ∷ []) = refl
words-drop (suc n) (a ∷ b ∷ c ∷ []) = refl
words-drop (suc n) (a ∷ b ∷ c ∷ d ∷ bytes) = words-drop n bytes

-- how many words: one to three bytes at the end make none
pub record Counted (bytes : List ℕ) : Type 0 where
  pub left : ℕ
  pub few : left < 4
  pub total : length bytes ≡ 4 * length (words_of bytes) + left

pub counted : (bytes : List ℕ) → Counted bytes
unfolding words_of
counted [] = record { left = 0; few = omega arith; total = refl }
counted (a ∷ []) = record { left = 1; few = omega arith; total = refl }
counted (a ∷ b ∷ []) = record { left = 2; few = omega arith; total = refl }
counted (a ∷ b ∷ c ∷ []) = record { left = 3; few = omega arith; total = refl }
counted (a ∷ b ∷ c ∷ d ∷ bytes) =
    let k = counted bytes in
    record { left = k.left; few = k.few; total = omega (arith, k.total) }

-- bytes make words of 32 bits
pub bytes-words : (bytes : List ℕ) → ((i : ℕ) → get_or bytes i 0 < 256) → All IsWord (words_of bytes)
unfolding words_of
bytes-words [] h = tt
bytes-words (a ∷ []) h = tt
bytes-words (a ∷ b ∷ []) h = tt
bytes-words (a ∷ b ∷ c ∷ []) h = tt
bytes-words (a ∷ b ∷ c ∷ d ∷ bytes) h = (omega (arith, h 0, h 1, h 2, h 3), bytes-words bytes (λ i. h (suc (suc (suc (suc i))))))

-- the word at a place
four_bytes : (bytes : List ℕ) → 4 ≤ length bytes
    → words_of bytes ≡ word_from (get_or bytes 0 0) (get_or bytes 1 0) (get_or bytes 2 0) (get_or bytes 3 0) ∷ words_of (drop 4 bytes)
unfolding words_of
four_bytes [] h = absurd (omega arith)
four_bytes (a ∷ []) h = absurd (omega arith)
four_bytes (a ∷ b ∷ []) h = absurd (omega arith)
four_bytes (a ∷ b ∷ c ∷ []) h = absurd (omega arith)
four_bytes (a ∷ b ∷ c ∷ d ∷ bytes) h = refl

pub word-at : (bytes : List ℕ) (at : ℕ) → at + 4 ≤ length bytes
    → words_of (drop at bytes)
    ≡ word_from (get_or bytes at 0) (get_or bytes (at + 1) 0) (get_or bytes (at + 2) 0) (get_or bytes (at + 3) 0) ∷ words_of (drop (at + 4) bytes)
word-at bytes at h =
    four_bytes (drop at bytes) (omega (arith, length-drop at bytes)) ∙ simp (get_or-drop, drop-drop, add-zero)

pub words-few : (bytes : List ℕ) → length bytes < 4 → words_of bytes ≡ []
unfolding words_of
words-few [] h = refl
words-few (a ∷ []) h = refl
words-few (a ∷ b ∷ []) h = refl
words-few (a ∷ b ∷ c ∷ []) h = refl
words-few (a ∷ b ∷ c ∷ d ∷ bytes) h = absurd (omega arith)

-- the words of the whole chunks of four
pub chunk_words : (k : ℕ) (bytes : List ℕ) → 4 * k ≤ length bytes → length bytes < 4 * k + 4
    → map (from_be_bytes w32) (first_chunks 4 k bytes) ≡ words_of bytes
unfolding words_of
chunk_words zero bytes l h = sym (words-few bytes (omega arith))
chunk_words (suc k) [] l h = absurd (omega arith)
chunk_words (suc k) (a ∷ []) l h = absurd (omega arith)
chunk_words (suc k) (a ∷ b ∷ []) l h = absurd (omega arith)
chunk_words (suc k) (a ∷ b ∷ c ∷ []) l h = absurd (omega arith)
chunk_words (suc k) (a ∷ b ∷ c ∷ d ∷ bytes) l h = ap (λ (ws : List ℕ). word_from a b c d ∷ ws) (chunk_words k bytes (omega arith) (omega arith))
