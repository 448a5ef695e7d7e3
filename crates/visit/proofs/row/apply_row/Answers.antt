-- A row that stays is what the change leaves of it.
use Prim.Native.Nat.{ℕ}
use mathlib.Core.Path.{◌≡◌, sym, subst, ◌∙◌}
use mathlib.Core.Bool.{true}
use mathlib.Core.List.{List}
use lib.ListN.{length}
use lib.Seq.{take-length}
use Rattle.permission.specs.Codes.{node_relation}
use Rattle.visit.specs.Walk.{accesses_at, bytes_stay}
use Rattle.visit.proofs.Rows.{stay-told}
use Rattle.visit.proofs.row.apply_row.Goals as goal

pub returns-then-long_stays : goal.returns-then-long_stays
returns-then-long_stays c = let r = node_relation c.args.relation in
    let lent = c.args.lent.now in
    let row = c.args.row.now in
    (stay-told r (accesses_at c.args.what (length row) lent) row
    (subst (λ (l : List ℕ). bytes_stay c.args.what l r row ≡ true) (take-length lent) (sym c.long_stays.ensures ∙ c.if-long_stays.true))).1
