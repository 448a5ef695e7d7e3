-- Where the rows of a table stand.
use Prim.Native.Nat.{ℕ, ◌+◌, ◌-◌, ◌*◌, ◌≤◌, ◌<◌}
use mathlib.Core.Path.{◌≡◌, sym, ap, ap₂, subst⁻¹, ◌∙◌}
use mathlib.Core.List.{List, ◌++◌, append_assoc}
use native.Mathlib.Omega.{arith}
use lib.ListN.{length, take, drop, length-drop, take-append-drop}
use lib.Seq.{length-take-le, take-take, take-add, take-append-le, drop-append-le, drop-drop}
use Rattle.definition.specs.Tree.{relation}
use Rattle.definition.proofs.Parts.{row_fits}
use Rattle.std.specs.Prelude.{Ok, Err}
use Rattle.visit.specs.declared.Effect.TheVariants.{Stays, Changes}
use Rattle.visit.specs.declared.Reach.{Reach}
use Rattle.visit.specs.Walk.{SameVisit, Ready, Answer, Told, ToldRow, row_at, with_row_at, node_refusal, node_after}

-- row n ends within the table
pub row_in : (v : Reach) (ps codes : List ℕ) (n : ℕ) → Ready v ps codes → n < length ps → n * v.width + v.width ≤ length codes
row_in v ps codes n r h = omega (arith, r.rows, row_fits n (length ps) v.width h)

pub width_of : (a w : ℕ) → a + w - a ≡ w
width_of a w = omega arith

-- the part that is lent as row n, and the table when it is given back changed
pub part-row : (w n : ℕ) (codes : List ℕ) → take (n * w + w - n * w) (drop (n * w) codes) ≡ row_at w n codes
part-row w n codes = ap (λ (k : ℕ). take k (drop (n * w) codes)) (width_of (n * w) w)

pub put_back : (f : List ℕ → List ℕ) (w n : ℕ) (codes row : List ℕ) → row ≡ f (take (n * w + w - n * w) (drop (n * w) codes))
    → take (n * w) codes ++ (row ++ drop (n * w + w - n * w) (drop (n * w) codes)) ≡ with_row_at w n (f (row_at w n codes)) codes
put_back f w n codes row e =
    ap₂ (λ (r : List ℕ) (k : ℕ). take (n * w) codes ++ (r ++ drop k (drop (n * w) codes))) (e ∙ ap f (part-row w n codes)) (width_of (n * w) w)

-- the part that is lent as the visited bytes of row n, and the table when it is given back changed
module _ (w n from len : ℕ) (codes : List ℕ) (fits : n * w + w ≤ length codes) (inside : from + len ≤ w) where
  abbrev at : ℕ
  at = n * w + from

  abbrev rest : List ℕ
  rest = drop (n * w) codes

  abbrev row : List ℕ
  row = row_at w n codes

  wide : length row ≡ w
  wide = length-take-le w rest (omega (arith, length-drop (n * w) codes))

  -- the bytes from there on: those of the row, and the rows behind it
  from-there : drop at codes ≡ drop from row ++ drop w rest
  from-there =
      sym (drop-drop from (n * w) codes)
      ∙ ap (drop from) (sym (take-append-drop w rest))
      ∙ drop-append-le from row (drop w rest) (omega (arith, wide))

  many : len ≤ length (drop from row)
  many = omega (arith, length-drop from row, wide)

  pub part_bytes : take (at + len - at) (drop at codes) ≡ take len (drop from row)
  part_bytes = ap₂ (λ (k : ℕ) (cs : List ℕ). take k cs) (width_of at len) from-there ∙ take-append-le len (drop from row) (drop w rest) many

  pub put-bytes : (given : List ℕ) → take at codes ++ (given ++ drop (at + len - at) (drop at codes)) ≡ with_row_at w n (take from row ++ (given ++ drop len (drop from row))) codes
  put-bytes given =
      let before : take at codes ≡ take (n * w) codes ++ take from row =
      take-add (n * w) from codes ∙ ap (λ (l : List ℕ). take (n * w) codes ++ l) (sym (take-take from w rest (omega arith))) in
      let behind : drop (at + len - at) (drop at codes) ≡ drop len (drop from row) ++ drop w rest =
      ap₂ (λ (k : ℕ) (cs : List ℕ). drop k cs) (width_of at len) from-there ∙ drop-append-le len (drop from row) (drop w rest) many in
      ap₂ (λ (l r : List ℕ). l ++ (given ++ r)) before behind ∙ simp append_assoc

-- a row that is put back as it was
pub same_row : (w n : ℕ) (codes : List ℕ) → with_row_at w n (row_at w n codes) codes ≡ codes
same_row w n codes = ap (λ (l : List ℕ). take (n * w) codes ++ l) (take-append-drop w (drop (n * w) codes)) ∙ take-append-drop (n * w) codes

-- what the check of a row tells of its node
pub told-node : (v : Reach) (ps lent codes : List ℕ) (n : ℕ) (answer : Answer) → ToldRow v lent (relation ps n v.node) (row_at v.width n codes) answer
    → Told (node_refusal v ps lent codes n) codes (node_after v ps lent n codes) answer
unfolding node_refusal node_after
told-node v ps lent codes n (Ok Stays) t = (t.0, sym (same_row v.width n codes) ∙ ap (λ (row : List ℕ). with_row_at v.width n row codes) t.1)
told-node v ps lent codes n (Ok Changes) t = t
told-node v ps lent codes n (Err refusal) t = t

pub row-length : (w n : ℕ) (codes : List ℕ) → n * w + w ≤ length codes → length (row_at w n codes) ≡ w
row-length w n codes fits = length-take-le w (drop (n * w) codes) (omega (arith, length-drop (n * w) codes))

-- a table of the same length is as ready
pub ready-again : (v : Reach) (ps codes codes' : List ℕ) → length codes' ≡ length codes → Ready v ps codes → Ready v ps codes'
ready-again v ps codes codes' e r = record { tree = r.tree; node = r.node; inside = r.inside; rows = e ∙ r.rows; few = r.few }

-- the same visit is as ready
pub same-ready : (v r : Reach) (lent ps codes : List ℕ) → SameVisit v lent r → Ready v ps codes → Ready r ps codes
same-ready v r lent ps codes s h =
    subst⁻¹ (λ (q : Reach). Ready q ps codes) s.same (record { tree = h.tree; node = h.node; inside = h.inside; rows = h.rows; few = h.few })

pub same-spared : (v r : Reach) (lent : List ℕ) → SameVisit v lent r → r.spared ≡ v.spared
same-spared v r lent s = ap (λ (q : Reach). q.spared) s.same

pub same_width : (v r : Reach) (lent : List ℕ) → SameVisit v lent r → r.width ≡ v.width
same_width v r lent s = ap (λ (q : Reach). q.width) s.same
