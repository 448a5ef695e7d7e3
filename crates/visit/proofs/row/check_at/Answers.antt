-- The part that is lent is the visited bytes of the row.
use Prim.Native.Nat.{ℕ}
use mathlib.Core.List.{List}
use mathlib.Core.Path.{subst}
use Rattle.permission.specs.Codes.{node_relation}
use Rattle.visit.specs.Walk.{ToldBytes, row_at}
use Rattle.visit.proofs.Places.{part_bytes, row-length}
use Rattle.visit.proofs.Rows.{told-row}
use native.Mathlib.Omega.{arith}
use Rattle.visit.proofs.row.check_at.Goals as goal

pub returns : goal.returns
returns c = let v = c.args.v in
    let codes = c.args.codes.now in
    told-row v c.args.lent.now (node_relation c.args.relation) (row_at v.width c.args.n codes) (omega (arith, row-length v.width c.args.n codes c.requires.0, c.requires.1)) c.check_row.result
    (subst (λ (row : List ℕ). ToldBytes v.what c.args.lent.now (node_relation c.args.relation) row c.check_row.result) (part_bytes v.width c.args.n v.from v.len codes c.requires.0 c.requires.1) c.check_row.ensures)
