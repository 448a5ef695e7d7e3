-- 4 for all entries, or all were made and are released, each by its number (EndCall).
use native.Mathlib.Omega.{arith}
use mathlib.Core.Path.{sym, subst, subst⁻¹}
use mathlib.Core.List.{List}
use Rattle.definition.specs.Memory.{Provenance}
use Rattle.frames.specs.List.{entries_of}
use Rattle.refusal.specs.Number.{refusal_of}
use Rattle.end_call.specs.Release.{AllMade, ReleasedAll}
use Rattle.end_call.proofs.EndCall.{all_made, all_fit, refused-unmade, made-released}
use Rattle.end_call.proofs.Spans.{codes-total}
use Rattle.parts.proofs.Lent.{records-of}
use Rattle.end_call.proofs.end_call_refusal.Goals as goal

pub returns-then-any_never_made : goal.returns-then-any_never_made
returns-then-any_never_made c = λ m h. refused-unmade (sym (c.if-any_never_made.ensures m (records-of h))) h

pub numbers_of-numbers-requires : goal.numbers_of-numbers-requires
numbers_of-numbers-requires c =
    let (m, h) = c.requires.holds_marked in
    let es = entries_of c.args.list in
    (c.requires.count_bound.0, all_fit es h (all_made m es (sym (c.if-any_never_made.ensures m (records-of h)))))

pub touched-requires : goal.touched-requires
touched-requires c =
    let (m, h) = c.requires.holds_marked in
    (m, (records-of h, subst⁻¹ (AllMade m) c.numbers_of-numbers.ensures (all_made m (entries_of c.args.list) (sym (c.if-any_never_made.ensures m (records-of h))))))

pub release_all-requires-clause-holds_marked : goal.release_all-requires-clause-holds_marked
release_all-requires-clause-holds_marked c =
    let (m, h) = c.requires.holds_marked in
    (m, (h, subst⁻¹ (AllMade m) c.numbers_of-numbers.ensures (all_made m (entries_of c.args.list) (sym (c.if-any_never_made.ensures m (records-of h))))))

pub release_all-requires-clause-touched : goal.release_all-requires-clause-touched
release_all-requires-clause-touched c = (c.touched.ensures, omega (arith, codes-total c.requires.holds_marked.1 c.touched.ensures, c.requires.count_bound.1))

pub returns : goal.returns
returns c = λ m h.
    let none = sym (c.if-any_never_made.ensures m (records-of h)) in
    let same = c.numbers_of-numbers.ensures in
    made-released none
    (subst (λ (es : List Provenance). ReleasedAll m es (refusal_of c.release_all.result) c.release_all.new.protectors c.release_all.new.codes) same
    (c.release_all.ensures m h (subst⁻¹ (AllMade m) same (all_made m (entries_of c.args.list) none))))
