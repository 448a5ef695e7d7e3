-- While no entry was found, the answer is that of the entries from the place on.
use Prim.Native.Nat.{◌<◌}
use mathlib.Core.Path.{sym, ap, ◌∙◌}
use native.Mathlib.Omega.{arith}
use lib.ListN.{length, take, drop_of_length-le, length-map, get_or-map}
use Rattle.definition.specs.Notation.{any}
use Rattle.frames.specs.List.{provenance_of, entries_of, no_entry}
use Rattle.tables.proofs.Lookup.{allocs-length}
use Rattle.end_call.proofs.EndCall.{is_unmade, unmade-next, unmade-found}
use Rattle.end_call.proofs.any_never_made.Goals as goal

pub target_of-requires : goal.target_of-requires
target_of-requires c = allocs-length c.requires.records.1

pub returns-then-never_made : goal.returns-then-never_made
returns-then-never_made c = λ m h.
    let es = entries_of c.args.list in
    let first = take c.args.list.count c.args.list.list in
    let l : c.loop-e.e-index < length es = omega (arith, length-map first provenance_of) in
    sym (c.loop-e.invariant m h ∙ unmade-found m es c.loop-e.e-index _ _ l (sym (get_or-map provenance_of first c.loop-e.e-index no_entry)) (sym (c.if-never_made.ensures m _ h c.target_of.ensures)))

pub loop-e-preserved : goal.loop-e-preserved
loop-e-preserved c = λ m h.
    let es = entries_of c.args.list in
    let first = take c.args.list.count c.args.list.list in
    let l : c.loop-e.e-index < length es = omega (arith, length-map first provenance_of) in
    c.loop-e.invariant m h ∙ unmade-next m es c.loop-e.e-index _ _ l (sym (get_or-map provenance_of first c.loop-e.e-index no_entry)) (sym (c.if-never_made.ensures m _ h c.target_of.ensures))

pub returns : goal.returns
unfolding any
returns c = λ m h.
    let first = take c.args.list.count c.args.list.list in
    sym (c.loop-e.invariant m h ∙ ap (any (is_unmade m)) (drop_of_length-le (entries_of c.args.list) {i = c.loop-e.e-index} (omega (arith, length-map first provenance_of))))
