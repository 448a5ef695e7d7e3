-- What stood there is copied over.
use Prim.Native.Nat.{◌+◌, ◌-◌}
use mathlib.Core.Path.{◌≡◌, refl, ap, ◌∙◌}
use borrow.Rule.Slice.PartMut.{put_mid}
use lib.ListN.{length}
use Rattle.definition.specs.Notation.{write_at}
use Rattle.definition.proofs.Writes.{write-length}
use Rattle.report.proofs.Writes.{bytes-written}
use Rattle.report.proofs.page.Page.put_bytes.Goals as goal

pub returns : goal.returns
returns c =
    let p = c.args.self.now in
    let text = c.args.bytes.now in
    let copied : put_mid p.at (p.at + length text - p.at) p.out.now c.copy_from_slice.new.self ≡ write_at p.at text p.out.now =
    rw c.copy_from_slice.ensures.after (bytes-written p.out.now text p.at c.requires.fits) in
    record { contents = copied; place = refl; kept = ap length copied ∙ write-length p.at text p.out.now; same = refl }
