-- Where zeros stand behind the used part, putting in a row moves only what is used.
use Prim.Native.Nat.{ℕ, ◌+◌, ◌-◌, ◌≤◌}
use mathlib.Core.Path.{◌≡◌, refl, sym, ap, ap₂, subst, ◌∙◌}
use mathlib.Core.List.{List, [], ◌++◌, append_assoc}
use native.Mathlib.Omega.{arith}
use lib.ListN.{length, take, drop, replicate, length-append, length-drop, length-take, length-replicate, take-append-drop}
use lib.Seq.{take_at, drop_at, take-append-add, drop-append-add, drop-drop}
use Rattle.definition.specs.Memory.{Allocation, Memory}
use Rattle.definition.proofs.Parts.{take-zeros, drop-zeros}
use Rattle.tables.specs.Encoding.{concat_map, pad, held}
use Rattle.tables.specs.Held.{inserted, ZerosFrom}

module _ (X Y row : List ℕ) (k : ℕ) (room : length row ≤ k) where
  abbrev Z : List ℕ
  Z = replicate k 0

  abbrev n : ℕ
  n = length X + (length Y + length row)

  front : take n (X ++ (Y ++ Z)) ≡ X ++ (Y ++ take (length row) Z)
  front = take-append-add X (Y ++ Z) (length Y + length row) ∙ ap (λ (l : List ℕ). X ++ l) (take-append-add Y Z (length row))

  behind : drop n (X ++ (Y ++ Z)) ≡ replicate (k - length row) 0
  behind = drop-append-add X (Y ++ Z) (length Y + length row) ∙ drop-append-add Y Z (length row) ∙ drop-zeros (length row) k

  -- a row put in behind X, where so many follow it
  put_in : (T : List ℕ) (j : ℕ) → length (X ++ (Y ++ T)) - (length X + length row) ≡ length Y + j
      → inserted (X ++ (Y ++ T)) (length X) row ≡ X ++ (row ++ (Y ++ take j T))
  put_in T j e =
      ap₂ (λ (a b : List ℕ). a ++ (row ++ b)) (take_at X (Y ++ T) (length X) refl)
      (ap₂ take e (drop_at X (Y ++ T) (length X) refl) ∙ take-append-add Y T j)

  moved : inserted (take n (X ++ (Y ++ Z))) (length X) row ++ drop n (X ++ (Y ++ Z)) ≡ inserted (X ++ (Y ++ Z)) (length X) row
  moved =
      let lz : length Z ≡ k = length-replicate {A = ℕ} k 0 in
      let lt : length (take (length row) Z) ≡ length row = length-take (length row) Z ∙ omega (arith, lz) in
      let inner : inserted (X ++ (Y ++ take (length row) Z)) (length X) row ≡ X ++ (row ++ (Y ++ take 0 (take (length row) Z))) =
      put_in (take (length row) Z) 0 (simp length-append (omega (arith, lt))) in
      let outer : inserted (X ++ (Y ++ Z)) (length X) row ≡ X ++ (row ++ (Y ++ take (k - length row) Z)) =
      put_in Z (k - length row) (simp length-append (omega (arith, lz))) in
      ap₂ (λ (a b : List ℕ). a ++ b) (ap (λ (l : List ℕ). inserted l (length X) row) front ∙ inner) behind
      ∙ append_assoc X (row ++ (Y ++ [])) (replicate (k - length row) 0)
      ∙ ap (λ (l : List ℕ). X ++ l) (append_assoc row (Y ++ []) (replicate (k - length row) 0) ∙ ap (λ (l : List ℕ). row ++ l) (append_assoc Y [] (replicate (k - length row) 0)))
      ∙ ap (λ (l : List ℕ). X ++ (row ++ (Y ++ l))) (sym (take-zeros (k - length row) k (omega arith)))
      ∙ sym outer

pub inserted-in-used : (C row : List ℕ) (u p : ℕ) → ZerosFrom u C → p ≤ u → u + length row ≤ length C
    → inserted (take (u + length row) C) p row ++ drop (u + length row) C ≡ inserted C p row
inserted-in-used C row u p zeros h room =
    let X : List ℕ = take p C in
    let Y : List ℕ = take (u - p) (drop p C) in
    let k : ℕ = length C - u in
    let lx : length X ≡ p = length-take p C ∙ omega arith in
    let ly : length Y ≡ u - p = length-take (u - p) (drop p C) ∙ omega (arith, length-drop p C) in
    let end : u + length row ≡ length X + (length Y + length row) = omega (arith, lx, ly) in
    let at : p + (u - p) ≡ u = omega arith in
    let parts : X ++ (Y ++ replicate k 0) ≡ C =
    ap (λ (l : List ℕ). X ++ (Y ++ l)) (sym zeros ∙ ap (λ (i : ℕ). drop i C) (sym at) ∙ sym (drop-drop (u - p) p C))
    ∙ ap (λ (l : List ℕ). X ++ l) (take-append-drop (u - p) (drop p C)) ∙ take-append-drop p C in
    subst (λ (l : List ℕ). inserted (take (u + length row) l) p row ++ drop (u + length row) l ≡ inserted l p row) parts
    (subst (λ (i : ℕ). inserted (take i (X ++ (Y ++ replicate k 0))) p row ++ drop i (X ++ (Y ++ replicate k 0)) ≡ inserted (X ++ (Y ++ replicate k 0)) p row) (sym end)
    (subst (λ (i : ℕ). inserted (take (length X + (length Y + length row)) (X ++ (Y ++ replicate k 0))) i row ++ drop (length X + (length Y + length row)) (X ++ (Y ++ replicate k 0)) ≡ inserted (X ++ (Y ++ replicate k 0)) i row) lx
    (moved X Y row k (omega arith))))

pub held-zeros : (total : ℕ) (f : Allocation → List ℕ) (m : Memory) {l : List ℕ} → l ≡ held total f m → {u : ℕ} → u ≡ length (concat_map f m) → u ≤ total → ZerosFrom u l
unfolding held pad
held-zeros total f m {l} e {u} is h =
    let x : List ℕ = concat_map f m in
    let z : List ℕ = replicate (total - length x) 0 in
    let len : length l ≡ total = ap length e ∙ length-append x z ∙ omega (arith, length-replicate {A = ℕ} (total - length x) 0) in
    let n : total - length x ≡ length l - u = omega (arith, len) in
    ap (drop u) e ∙ drop_at x z u (sym is) ∙ ap (λ (k : ℕ). replicate k 0) n
