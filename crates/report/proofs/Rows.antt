-- The codes of a row, and the nodes of an allocation, one after the other.
use Prim.Native.Nat.{ℕ, suc, ◌+◌, ◌-◌, ◌*◌, ◌<◌}
use mathlib.Core.List.{List, [], ◌∷◌, ◌++◌, map}
use mathlib.Core.Path.{◌≡◌, refl, ap, ap₂, ◌∙◌}
use native.Mathlib.Nat.{suc-mul}
use native.Mathlib.Numerals.{add-one}
use native.Mathlib.Omega.{arith}
use mathlib.Core.Bool.{true, false}
use borrow.Author.Tests.{eqb-true}
use lib.Dec.{eqb}
use lib.ListN.{length, take, drop, get_or}
use lib.Seq.{drop-drop, drop-length}
use Rattle.definition.proofs.Permissions.{code-permission}
use Rattle.definition.specs.Output.{Text, ascii, digit, codes, node_line, node_lines}
use Rattle.definition.specs.Permission.{permission, code}
use Rattle.definition.specs.Valid.{All}
use Rattle.definition.proofs.Parts.{drop-next, get_d-first}
use Rattle.tables.specs.Decoding.{nodes_in}
use Rattle.report.specs.Memory.{node_of}

-- ---- a row
pub codes-none : (row : List ℕ) → eqb (length row) 0 ≡ true → ascii " -" ≡ ascii " " ++ codes (map permission row)
unfolding codes
codes-none [] e = refl
codes-none (c ∷ row) e = absurd (omega (arith, eqb-true (length (c ∷ row)) 0 e))

digits : (row : List ℕ) → All (λ (c : ℕ). c < 15) row → map (λ q. digit (code q)) (map permission row) ≡ map digit row
digits [] h = refl
digits (c ∷ row) h = ap₂ ◌∷◌ (ap digit (code-permission c h.0)) (digits row h.1)

pub codes-some : (row : List ℕ) → All (λ (c : ℕ). c < 15) row → eqb (length row) 0 ≡ false → codes (map permission row) ≡ map digit row
unfolding codes
codes-some [] h e = cc
codes-some (c ∷ row) h e = digits (c ∷ row) h

pub codes-next : (row : List ℕ) (i : ℕ) → i < length row → map digit (drop i row) ≡ (digit (get_or row i 0) ∷ []) ++ map digit (drop (i + 1) row)
codes-next row i h = ap (map digit) (drop-next row i 0 h)

pub codes-end : (row : List ℕ) (i : ℕ) → i ≡ length row → map digit (drop i row) ≡ []
codes-end row i e = ap (λ (k : ℕ). map digit (drop k row)) e ∙ ap (map digit) (drop-length row)

-- ---- nodes: the lines from node k on, whose rows stand from place `start` on
abbrev pub lines_from : ℕ → ℕ → List ℕ → List ℕ → List ℕ → ℕ → ℕ → Text
lines_from a size P R C k start = node_lines a k (nodes_in (length P - k) size (drop k P) (drop k R) (drop start C))

module _ (a size : ℕ) (P R C : List ℕ) where
  pub nodes-next : (k start : ℕ) → k < length P
      → lines_from a size P R C k start ≡ node_line a k (node_of (get_or P k 0) (get_or R k 0) (take size (drop start C))) ++ lines_from a size P R C (k + 1) (start + size)
  unfolding nodes_in node_lines
  nodes-next k start h =
      let e : length P - k ≡ suc (length P - (k + 1)) = omega arith in
      rw (e, get_d-first P k 0, get_d-first R k 0, drop-drop 1 k P, drop-drop 1 k R, drop-drop size start C, ← add-one k)

  -- with the row as the code takes it
  pub nodes-step : (k start : ℕ) → k < length P
      → lines_from a size P R C k start
      ≡ node_line a k (node_of (get_or P k 0) (get_or R k 0) (take (start + size - start) (drop start C))) ++ lines_from a size P R C (k + 1) (start + size)
  nodes-step k start h = let e : start + size - start ≡ size = omega arith in rw e (nodes-next k start h)

  pub nodes-end : (k start : ℕ) → k ≡ length P → lines_from a size P R C k start ≡ []
  unfolding nodes_in node_lines
  nodes-end k start e = let z : length P - k ≡ 0 = omega arith in rw z

-- ---- the rows stand within the codes: so many are left behind node k
pub rows_next : (n k size start total : ℕ) → k < n → start + (n - k) * size ≡ total → start + size + (n - (k + 1)) * size ≡ total
rows_next n k size start total h e =
    let z : n - k ≡ suc (n - (k + 1)) = omega arith in
    omega (arith, e, ap (λ (i : ℕ). i * size) z, suc-mul (n - (k + 1)) size)
