-- The fields of a line, one after the other.
use Prim.Native.Nat.{ℕ, ◌+◌, ◌*◌, ◌≤◌, ◌<◌}
use mathlib.Core.List.{List, [], ◌∷◌, ◌++◌, map, append_assoc}
use mathlib.Core.Path.{◌≡◌, refl, ap, ◌∙◌}
use native.Mathlib.Omega.{arith}
use mathlib.Core.Bool.{true, false}
use borrow.Author.Tests.{eqb-true}
use lib.Dec.{eqb}
use lib.ListN.{length, drop, get_or, length-append}
use lib.Seq.{drop-length}
use Rattle.definition.specs.Memory.{Provenance}
use Rattle.definition.specs.Output.{Text, ascii, decimal, word, words, pointed, ended}
use Rattle.definition.proofs.Parts.{drop-next}
use Rattle.report.specs.declared.page.Page.{Page}
use Rattle.report.specs.Page.{Puts}
use Rattle.report.proofs.Numbers.{decimal-length, hex-length}
use Rattle.report.proofs.Writes.{puts_both}

-- ---- a line, field by field
module _ {p : Page} where
  -- a field, and the others behind it
  pub field_put : {f : Text} (fs : List Text) {q r : Page} → Puts p (ascii " " ++ f) q → Puts q (ended fs) r → Puts p (ended (f ∷ fs)) r
  unfolding ended
  field_put fs v w = puts_both v w

  -- its end
  pub end_put : {q : Page} → Puts p (ascii "\n") q → Puts p (ended []) q
  unfolding ended
  end_put w = w

-- ---- words
pub words-none : (ws : List ℕ) → eqb (length ws) 0 ≡ true → ascii " -\n" ≡ ended (words ws)
unfolding ended
words-none [] e = refl
words-none (w ∷ ws) e = absurd (omega (arith, eqb-true (length (w ∷ ws)) 0 e))

pub words-some : (ws : List ℕ) → eqb (length ws) 0 ≡ false → ended (words ws) ≡ ended (map word ws)
words-some [] e = cc
words-some (w ∷ ws) e = refl

pub words-next : (ws : List ℕ) (i : ℕ) → i < length ws
    → ended (map word (drop i ws)) ≡ (ascii " " ++ word (get_or ws i 0)) ++ ended (map word (drop (i + 1) ws))
unfolding ended
words-next ws i h = ap (λ (l : List ℕ). ended (map word l)) (drop-next ws i 0 h)

pub words-end : (ws : List ℕ) (i : ℕ) → i ≡ length ws → ended (map word (drop i ws)) ≡ ascii "\n"
unfolding ended
words-end ws i e = ap (λ (k : ℕ). ended (map word (drop k ws))) e ∙ ap (λ (l : List ℕ). ended (map word l)) (drop-length ws)

-- ---- a pointer
pub pointed-parts : (t : Provenance)
    → ended (pointed t ∷ []) ≡ (ascii " " ++ decimal t.allocation) ++ (ascii "." ++ (decimal t.node ++ ascii "\n"))
unfolding ended pointed
pointed-parts t =
    ap (λ (l : Text). ascii " " ++ l) (append_assoc (decimal t.allocation) (ascii "." ++ decimal t.node) (ascii "\n"))

-- ---- lengths
pub field-length : (f : Text) (fs : List Text) → length (ended (f ∷ fs)) ≡ 1 + length f + length (ended fs)
unfolding ended
field-length f fs = omega (arith, length-append f (ended fs))

pub end-length : length (ended []) ≡ 1
unfolding ended
end-length = refl

all-words-length : (ws : List ℕ) → length (ended (map word ws)) ≡ 9 * length ws + 1
all-words-length [] = end-length
all-words-length (w ∷ ws) = omega (arith, field-length (word w) (map word ws), hex-length 8 w, all-words-length ws)

pub words-length : (ws : List ℕ) → length (ended (words ws)) ≤ 9 * length ws + 3
unfolding ended
words-length [] = omega arith
words-length (w ∷ ws) = omega (arith, all-words-length (w ∷ ws))

-- how long the fields of a line are
pub ruleset fields = (field-length, end-length)

-- how long its numbers are
pub ruleset numbers = (field-length, end-length, decimal-length, words-length)
