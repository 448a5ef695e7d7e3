-- The lines from allocation a on are left, in every memory that the buffers hold.
use Prim.Native.Nat.{ℕ, ◌<◌}
use mathlib.Core.Path.{◌≡◌, refl, ◌∙◌}
use native.Mathlib.Omega.{arith}
use borrow.Author.Rules.{rules}
use lib.ListN.{length}
use Rattle.definition.specs.Memory.{Memory}
use Rattle.tables.proofs.Lookup.{allocs-length, made-count}
use Rattle.tables.proofs.ReadBack.{holds-records}
use Rattle.tables.specs.Decoding.{made_in}
use Rattle.tables.specs.Held.{buffers, Holds}
use mathlib.Core.List.{List}
use Rattle.report.proofs.Lengths.{memory-length}
use Rattle.report.proofs.Walk.{lines_next, lines_end}
use Rattle.report.proofs.Writes.{put-written, all_left, left_as, less-left, none_left, room_next}
use Rattle.report.proofs.allocations.memory_lines.Goals as goal

-- as many as the memory has
counted : {A P R W C : List ℕ} {n : ℕ} → n ≡ made_in 128 A → (m : Memory) → Holds m (buffers A P R W C) → n ≡ length m
counted e m h = e ∙ made-count (holds-records h)

pub made_count-a-end-requires : goal.made_count-a-end-requires
made_count-a-end-requires c = allocs-length (holds-records c.requires.well_formed.1)

pub loop-a-init : goal.loop-a-init
loop-a-init c = record { same = refl; lines = λ m h. all_left (record { fits = omega (arith, memory-length m h.valid, c.requires.at_in_bounds) }) }

pub allocation_lines-requires : goal.allocation_lines-requires
allocation_lines-requires c =
    let l = c.loop-a in
    let (m, h) = c.requires.well_formed in
    let made : l.a < length m = omega (arith, counted c.made_count-a-end.ensures m h) in
    (m, record { holds = h; made = made; room = room_next _ _ (left_as (lines_next m l.a made) (l.invariant.lines m h)) })

pub loop-a-preserved : goal.loop-a-preserved
loop-a-preserved c =
    let l = c.loop-a in
    let next = λ (m : Memory) (h : Holds m (buffers c.args.allocs.now c.args.parents.now c.args.protectors.now c.args.words.now c.args.codes.now)).
    let made : l.a < length m = omega (arith, counted c.made_count-a-end.ensures m h) in
    less-left _ _ (left_as (lines_next m l.a made) (l.invariant.lines m h)) (c.allocation_lines.ensures m h) in
    let (m, h) = c.requires.well_formed in
    record { same = (next m h).same; lines = next }

pub returns : goal.returns
returns c = λ m h.
    let l = c.loop-a in
    let all : l.a ≡ length m = omega (arith, counted c.made_count-a-end.ensures m h) in
    let e = put-written (none_left (left_as (lines_end m l.a all) (l.invariant.lines m h))) in
    let same = l.invariant.same in
    search rules
