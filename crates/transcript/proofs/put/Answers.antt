-- There is room for the word, or there was none and the text is cut off here.
use Rattle.transcript.proofs.Writing.{written-more, written-cut}
use Rattle.transcript.proofs.put.Goals as goal

pub returns-then-w-out : goal.returns-then-w-out
returns-then-w-out c = let a = c.args in
    λ text before h. written-more text before a.out.now a.w h a.word c.if-w-out.true

pub returns-else-w-out : goal.returns-else-w-out
returns-else-w-out c = let a = c.args in
    λ text before h. written-cut text before a.out.now a.w h a.word c.if-w-out.false
