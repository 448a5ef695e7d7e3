-- What is saved and put back is all that the releases can have changed (Spans).
use mathlib.Core.Path.{refl}
use native.Mathlib.Omega.{arith}
use Rattle.refusal.proofs.Numbers.{number_positive}
use Rattle.end_call.proofs.Releases.{none-refused}
use Rattle.end_call.proofs.Spans.{marks-length, codes-length, nodes-ordered, nodes-total, codes-ordered, codes-total, some-refused}
use Rattle.end_call.proofs.release_all.Goals as goal

pub save-requires : goal.save-requires
save-requires c = let h = c.requires.holds_marked.1.0 in
    let t = c.requires.touched.0 in
    (nodes-ordered h t, (omega (arith, nodes-total h t, marks-length h), omega (arith, nodes-total h t)))

pub save-requires-2 : goal.save-requires-2
save-requires-2 c = let h = c.requires.holds_marked.1.0 in
    let t = c.requires.touched.0 in
    (codes-ordered h t, (omega (arith, codes-total h t, codes-length h), c.requires.touched.1))

pub put_back-requires : goal.put_back-requires
put_back-requires c = let h = c.requires.holds_marked.1.0 in
    let t = c.requires.touched.0 in
    (nodes-ordered h t, (omega (arith, nodes-total h t, marks-length h, c.release_until.auto.protectors), omega (arith, nodes-total h t, c.save.auto.dst)))

pub put_back-requires-in-Err : goal.put_back-requires-in-Err
put_back-requires-in-Err c = let h = c.requires.holds_marked.1.0 in
    let t = c.requires.touched.0 in
    (codes-ordered h t, (omega (arith, codes-total h t, codes-length h, c.release_until.auto.codes), omega (arith, c.requires.touched.1, c.save-2.auto.dst)))

pub returns-in-Err : goal.returns-in-Err
returns-in-Err c = λ m h made.
    some-refused h c.requires.touched.0 (c.in-Err.ensures m h made) (λ z. omega (arith, z, number_positive c.in-Err.refusal)) _ _ c.save.ensures
    c.save-2.ensures c.put_back.ensures c.put_back-in-Err.ensures

pub returns : goal.returns
returns c = λ m h made. none-refused (c.in_default.ensures m h made) refl
