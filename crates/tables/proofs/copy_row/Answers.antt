-- One more of src stands in front.
use Rattle.std.proofs.Common.{add-one, ap, ◌∙◌, arith, ◌++◌, take, drop, slice_set}
use Rattle.definition.proofs.Lists.{copy-set}
use Rattle.tables.proofs.copy_row.Goals as goal

pub loop-i-preserved : goal.loop-i-preserved
loop-i-preserved g c =
    let i = c.loop-i.i in
    let src = c.args.src.now in
    let dst = c.args.dst.now in
    let x = c.index-src-i.result in
    rw add-one
    (ap (λ xs. slice_set xs i x) c.loop-i.invariant ∙ ap (λ y. slice_set (take i src ++ drop i dst) i y) c.index-src-i.is ∙ copy-set src dst x i (omega arith) (omega arith))
