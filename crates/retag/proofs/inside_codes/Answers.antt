-- Before the byte's place the codes are made, the rest of the mask is as it was.
use mathlib.Core.Path.{◌∙◌}
use native.Mathlib.Omega.{arith}
use Rattle.retag.proofs.Codes.{next-made, all_made, codes-chosen}
use Rattle.retag.proofs.inside_codes.Goals as goal

pub loop-byte-preserved : goal.loop-byte-preserved
loop-byte-preserved c = let l = c.loop-byte in
    next-made c.inside_code-freeze.result c.inside_code-cell.result c.args.mask.now l.byte-index _ l.mask (omega arith) l.invariant c.chosen_code.ensures

pub returns : goal.returns
returns c = let l = c.loop-byte in
    l.invariant ∙ all_made c.inside_code-freeze.result c.inside_code-cell.result c.args.mask.now l.byte-index (omega arith)
    ∙ codes-chosen c.args.pointer c.args.protected c.inside_code-freeze.ensures c.inside_code-cell.ensures c.args.mask.now
