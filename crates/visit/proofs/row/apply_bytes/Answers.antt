-- The codes before k are changed.
use Prim.Native.Nat.{ℕ}
use mathlib.Core.Path.{◌≡◌, sym, ap, ◌∙◌}
use mathlib.Core.Option.{Option, none}
use lib.ListN.{length, set, get_or}
use native.Mathlib.Omega.{arith}
use Rattle.std.specs.Prelude as std
use Rattle.definition.specs.Permission.{AccessKind}
use Rattle.permission.specs.Codes.{maybe_access, node_relation, next_code}
use Rattle.permission.specs.declared.AccessKind as declared
use Rattle.visit.specs.Walk.{accesses_at, bytes_after}
use Rattle.visit.proofs.Loops.{not_yet, change-turn, changed-all}
use Rattle.visit.proofs.Rows.{planned-at, codes-length, after-at}
use Rattle.visit.proofs.Steps.{no_change}
use Rattle.visit.proofs.row.apply_bytes.Goals as goal
use Rattle.visit.proofs.row.apply_bytes.Goals.{in-Some, in_default}

pub loop-k-preserved : goal.loop-k-preserved
loop-k-preserved c = let found = c.access_at in
    let r = node_relation c.args.relation in
    let row = c.args.row.now in
    let now = c.loop-k.row in
    let k = c.loop-k.k in
    let code = get_or now k 0 in
    let xs = accesses_at c.args.what (length row) c.args.lent.now in
    let target = bytes_after c.args.what c.args.lent.now r row in
    let same = codes-length r xs row in
    let left : std.Option declared.AccessKind → ℕ = λ access. next_code (maybe_access access) r code in
    let turn : c.match-access_at.row ≡ set now k (left found.result) =
    elim c.match-access_at.branch [
      | in-Some w ↦ w.row-is ∙ ap (set now k) (w.next.ensures ∙ ap left (sym w.in-Some.is))
      | in_default w ↦ w.row-is ∙ ap (set now k) (sym (ap left w.in_default.is ∙ no_change r code))
    ] in
    let planned : maybe_access found.result ≡ get_or xs k none = found.ensures ∙ sym (planned-at c.args.what (length row) c.args.lent.now k (omega arith)) in
    let next : left found.result ≡ get_or target k 0 =
    ap (λ (x : Option AccessKind). next_code x r code) planned ∙ ap (next_code (get_or xs k none) r) (not_yet row target same k (omega arith) now c.loop-k.invariant) ∙ sym (after-at r xs row k (omega arith)) in
    change-turn row target same k (omega arith) now _ c.loop-k.invariant (turn ∙ ap (set now k) next)

pub returns : goal.returns
returns c = let r = node_relation c.args.relation in
    let row = c.args.row.now in
    c.loop-k.invariant ∙ changed-all row (bytes_after c.args.what c.args.lent.now r row) (codes-length r (accesses_at c.args.what (length row) c.args.lent.now) row) c.loop-k.k (omega arith)
