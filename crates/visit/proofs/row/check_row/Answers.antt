-- Rows that stay have nothing refused or changed.
use Prim.Native.Nat.{ℕ}
use mathlib.Core.Path.{◌≡◌, sym, subst₂, ◌∙◌}
use mathlib.Core.Bool.{true}
use mathlib.Core.List.{List}
use lib.ListN.{length}
use lib.Seq.{take-length}
use Rattle.permission.specs.Codes.{node_relation}
use Rattle.visit.specs.Walk.{accesses_at, bytes_stay}
use Rattle.visit.proofs.Rows.{short-stay, stay-told}
use Rattle.visit.proofs.row.check_row.Goals as goal

pub returns-then-long_stays : goal.returns-then-long_stays
returns-then-long_stays c = let r = node_relation c.args.relation in
    let lent = c.args.lent.now in
    let row = c.args.row.now in
    stay-told r (accesses_at c.args.what (length row) lent) row
    (subst₂ (λ (l cs : List ℕ). bytes_stay c.args.what l r cs ≡ true) (take-length lent) (take-length row) (sym c.long_stays.ensures ∙ c.if-long_stays.true))

pub returns-then-short_stays : goal.returns-then-short_stays
returns-then-short_stays c = let row = c.args.row.now in
    let lent = c.args.lent.now in
    let r = node_relation c.args.relation in
    stay-told r (accesses_at c.args.what (length row) lent) row (short-stay c.args.what lent r row (sym c.short_stays.ensures ∙ c.if-short_stays.true))
