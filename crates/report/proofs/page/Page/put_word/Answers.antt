-- The space, and the eight characters behind it.
use mathlib.Core.Path.{ap, ◌∙◌}
use native.Mathlib.Omega.{arith}
use lib.ListN.{length}
use Rattle.std.specs.Int.{w64, to_le_bytes}
use Rattle.report.proofs.Lanes.{word_bytes}
use Rattle.report.proofs.Numbers.{hex-length}
use Rattle.report.proofs.Writes.{puts_both, puts_as}
use Rattle.report.proofs.page.Page.put_word.Goals as goal

pub put_bytes-requires : goal.put_bytes-requires
put_bytes-requires c = record { fits = omega (arith, hex-length 8 c.args.w, ap length c.to_le_bytes.ensures) }

pub returns : goal.returns
returns c =
    puts_both c.put_byte.ensures
    (puts_as (c.to_le_bytes.ensures ∙ ap (to_le_bytes w64) c.characters.ensures ∙ word_bytes c.args.w) c.put_bytes.ensures)
