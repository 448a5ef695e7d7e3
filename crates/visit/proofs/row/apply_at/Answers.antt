-- The part that is lent is the visited bytes of the row, and it is given back changed.
use Prim.Native.Nat.{ℕ, ◌+◌, ◌≤◌}
use mathlib.Core.List.{List, ◌++◌}
use mathlib.Core.Path.{sym, ap, ◌∙◌}
use lib.ListN.{length, take, drop}
use Rattle.permission.specs.Codes.{node_relation}
use Rattle.visit.specs.Walk.{bytes_after, row_at, with_row_at}
use Rattle.visit.proofs.Places.{part_bytes, put-bytes, row-length}
use Rattle.visit.proofs.Rows.{visited-after}
use native.Mathlib.Omega.{arith}
use Rattle.visit.proofs.row.apply_at.Goals as goal

pub returns : goal.returns
returns c = let v = c.args.v in
    let codes = c.args.codes.now in
    let r = node_relation c.args.relation in
    let row = row_at v.width c.args.n codes in
    let given = c.apply_row in
    let inside : v.from + v.len ≤ length row = omega (arith, row-length v.width c.args.n codes c.requires.0, c.requires.1) in
    let changed = given.ensures ∙ ap (bytes_after v.what c.args.lent.now r) (part_bytes v.width c.args.n v.from v.len codes c.requires.0 c.requires.1) in
    put-bytes v.width c.args.n v.from v.len codes c.requires.0 c.requires.1 given.new.row
    ∙ ap (λ (cs : List ℕ). with_row_at v.width c.args.n (take v.from row ++ cs) codes)
    (ap (λ (cs : List ℕ). cs ++ drop v.len (drop v.from row)) changed ∙ sym (visited-after v c.args.lent.now r row inside))
