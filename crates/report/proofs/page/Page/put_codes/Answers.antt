-- At an index the codes from there on are left. A code below 15 is that of its permission.
use mathlib.Core.List.{◌++◌, map}
use mathlib.Core.Path.{◌≡◌, sym, ap, ◌∙◌}
use native.Mathlib.Omega.{arith}
use lib.ListN.{length}
use Rattle.definition.specs.Output.{Text, ascii, digit, codes}
use Rattle.definition.specs.Permission.{permission}
use Rattle.report.proofs.Rows.{codes-none, codes-some, codes-next, codes-end}
use Rattle.report.proofs.Writes.{all_left, left_as, less-left, none_left, room_as, byte_as, puts_both, puts_as}
use Rattle.report.proofs.page.Page.put_codes.Goals as goal

pub put_bytes-requires : goal.put_bytes-requires
put_bytes-requires c = room_as (sym (codes-none c.args.row.now (sym c.is_empty.ensures ∙ c.if-is_empty.true))) c.requires.room

pub returns-then-is_empty : goal.returns-then-is_empty
returns-then-is_empty c = puts_as (codes-none c.args.row.now (sym c.is_empty.ensures ∙ c.if-is_empty.true)) c.put_bytes.ensures

pub loop-code-init : goal.loop-code-init
loop-code-init c =
    let some : codes (map permission c.args.row.now) ≡ map digit c.args.row.now = codes-some c.args.row.now c.requires.all (sym c.is_empty.ensures ∙ c.if-is_empty.false) in
    all_left (record { fits = omega (arith, ap length some) })

pub loop-code-preserved : goal.loop-code-preserved
loop-code-preserved c =
    let l = c.loop-code in
    less-left _ _ (left_as (codes-next c.args.row.now l.code-index (omega arith)) l.invariant) (byte_as c.digit_of.ensures c.put_byte-in-loop-code.ensures)

pub returns : goal.returns
returns c =
    let l = c.loop-code in
    let some : codes (map permission c.args.row.now) ≡ map digit c.args.row.now = codes-some c.args.row.now c.requires.all (sym c.is_empty.ensures ∙ c.if-is_empty.false) in
    puts_as (ap (λ (t : Text). ascii " " ++ t) (sym some))
    (puts_both c.put_byte.ensures (none_left (left_as (codes-end c.args.row.now l.code-index (omega arith)) l.invariant)))
