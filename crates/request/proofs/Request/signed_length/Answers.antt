-- The number of 32 bits with the word's bits, widened (Signed).
use native.Mathlib.Omega.{arith}
use Rattle.request.proofs.Signed.{reaches}
use Rattle.request.proofs.Request.signed_length.Goals as goal

pub returns : goal.returns
returns c = reaches c.cast_signed.result c.args.self.fourth c.cast_signed.ensures (omega arith)
