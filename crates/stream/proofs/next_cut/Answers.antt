-- Fewer than four words announce none; else the first four say how many follow (Sizes).
use mathlib.Core.Path.{◌≡◌, ◌∙◌}
use native.Mathlib.Omega.{arith}
use lib.ListN.{drop}
use Rattle.definition.specs.Request.{request, following_length}
use Rattle.definition.specs.Run.{words_of}
use Rattle.stream.proofs.Sizes.{size-short, size-many, size_few, head-follows}
use Rattle.stream.proofs.next_cut.Goals.{then-announced-gt-MOST, else-announced-gt-MOST}
use Rattle.stream.proofs.next_cut.Goals as goal

pub returns-then-bytes-lt16 : goal.returns-then-bytes-lt16
returns-then-bytes-lt16 c = record { size = size-short c.args.bytes.now (omega arith); fields = λ h. absurd (omega arith) }

pub returns : goal.returns
returns c =
    let bytes = c.args.bytes.now in
    let n = c.following_length-announced.result in
    let follows : n ≡ following_length (request (words_of bytes)) =
    c.following_length-announced.ensures.0 (drop 4 (words_of bytes)) ∙ head-follows c.head_of-fields.result bytes c.head_of-fields.ensures in
    record {
      size = elim c.if-announced-gt-MOST.branch [
        | then-announced-gt-MOST w ↦ rw w.taken-is (size-many bytes n follows w.if-announced-gt-MOST.true)
        | else-announced-gt-MOST w ↦ rw w.taken-is (size_few bytes n follows w.if-announced-gt-MOST.false)
      ];
      fields = λ h. c.head_of-fields.ensures;
    }
