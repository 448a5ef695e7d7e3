-- The row is written once: what is outside in front of the inside codes, these, and what is outside behind them (Parts).
use Rattle.std.proofs.Common.{◌∙◌, refl, arith}
use Rattle.tables.proofs.Parts.{whole-copy, made-row}
use Rattle.tables.proofs.make_row.Goals as goal

pub returns : goal.returns
returns c =
    let a = c.args in
    made-row a.row.now a.inside.now c.fill.new.self c.copy_row.new.dst _ c.fill-2.new.self a.from a.outside (omega arith)
    (c.fill.ensures.after (λ y e. e))
    (c.copy_row.ensures ∙ whole-copy a.inside.now _ _ (omega arith))
    refl (c.fill-2.ensures.after (λ y e. e))
