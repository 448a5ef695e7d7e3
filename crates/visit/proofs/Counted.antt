-- How many codes an access checks, and if it is not refused changes: `len` at each node, and each node is visited once.
use Prim.Native.Nat.{ℕ, ◌*◌, ◌<◌}
use mathlib.Core.Path.{◌≡◌, sym, ap, ◌∙◌}
use mathlib.Core.Option.{none}
use mathlib.Core.List.{List, [], ◌∷◌}
use native.Mathlib.Nat.{zero-mul, suc-mul, add_comm}
use native.Mathlib.Omega.{arith}
use lib.ListN.{length, take, drop, length-drop}
use lib.Seq.{length-take-le}
use Rattle.definition.specs.Notation.{sum_of}
use Rattle.definition.specs.Tree.{visiting_order}
use Rattle.definition.specs.Valid.{All}
use Rattle.definition.proofs.Order.{none-spared, order-length, visits-only-nodes}
use Rattle.visit.specs.declared.Reach.{Reach}
use Rattle.visit.specs.Walk.{Ready, row_at}
use Rattle.visit.proofs.Places.{row_in, row-length}

sum_same : (P : ℕ → Type 0) (f : ℕ → ℕ) (k : ℕ) → ((n : ℕ) → P n → f n ≡ k) → (l : List ℕ) → All P l → sum_of f l ≡ length l * k
unfolding sum_of
sum_same P f k h [] a = sym (zero-mul k)
sum_same P f k h (n ∷ l) a = rw (h n a.0, sum_same P f k h l a.1, suc-mul (length l) k) (add_comm k (length l * k))

pub codes-visited : (v : Reach) (ps codes : List ℕ) → Ready v ps codes
    → sum_of (λ n. length (take v.len (drop v.from (row_at v.width n codes)))) (visiting_order ps none) ≡ length ps * v.len
codes-visited v ps codes ready =
    sum_same (λ n. n < length ps) (λ n. length (take v.len (drop v.from (row_at v.width n codes)))) v.len each (visiting_order ps none) (visits-only-nodes ps none)
    ∙ ap (λ (k : ℕ). k * v.len) (ap length (none-spared ps) ∙ order-length ps ready.tree)
  where
    each : (n : ℕ) → n < length ps → length (take v.len (drop v.from (row_at v.width n codes))) ≡ v.len
    each n l =
        length-take-le v.len (drop v.from (row_at v.width n codes))
        (omega (arith, ready.inside, length-drop v.from (row_at v.width n codes), row-length v.width n codes (row_in v ps codes n ready l)))
