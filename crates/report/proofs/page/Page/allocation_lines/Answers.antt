-- The parts of the buffers between two starts are the allocation's.
use Prim.Native.Nat.{ℕ, ◌+◌, ◌≤◌, ◌<◌}
use mathlib.Core.List.{List}
use mathlib.Core.Path.{ap, sym}
use native.Mathlib.Omega.{arith}
use lib.ListN.{length}
use Rattle.definition.specs.Memory.{Memory}
use Rattle.definition.specs.Output.{allocation_lines}
use Rattle.tables.proofs.Lookup.{record-in, same_count}
use Rattle.tables.proofs.ReadBack.{holds-records}
use Rattle.tables.specs.Held.{buffers, Holds, Records, StartsAt}
use Rattle.report.specs.Memory.{LinesFit}
use Rattle.report.proofs.Held.{words-within, words_small, parents-within, protectors-within, codes-within, found-nodes, found-size, found-allocation}
use Rattle.report.proofs.Writes.{room_as, puts_as}
use Rattle.report.proofs.page.Page.allocation_lines.Goals as goal

-- some memory that the buffers hold has an allocation a: so has every one
module _ {A P R W C : List ℕ} {a : ℕ} {out : List ℕ} {at : ℕ} (fits : (m : Memory) × LinesFit m (buffers A P R W C) a out at) where
  is_made : {m : Memory} → Holds m (buffers A P R W C) → a < length m
  is_made h = omega (arith, fits.1.made, same_count (holds-records h) (holds-records fits.1.holds))

  -- its parts lie within the buffers
  module _ {w n c w' n' c' : ℕ} (starts : (m : Memory) → Records m A → StartsAt m a w n c) (ends : (m : Memory) → Records m A → StartsAt m (a + 1) w' n' c') where
    its_start : StartsAt fits.0 a w n c
    its_start = starts fits.0 (holds-records fits.1.holds)

    its_end : StartsAt fits.0 (a + 1) w' n' c'
    its_end = ends fits.0 (holds-records fits.1.holds)

    words-in : (w ≤ w') × (w' ≤ length W)
    words-in = words-within fits.1.holds a fits.1.made its_start its_end

    words-end : w' ≤ 4096
    words-end = words_small fits.1.holds a fits.1.made its_start its_end

    parents-in : (n ≤ n') × (n' ≤ length P)
    parents-in = parents-within fits.1.holds a fits.1.made its_start its_end

    protectors-in : (n ≤ n') × (n' ≤ length R)
    protectors-in = protectors-within fits.1.holds a fits.1.made its_start its_end

    codes-in : (c ≤ c') × (c' ≤ length C)
    codes-in = codes-within fits.1.holds a fits.1.made its_start its_end

pub allocation_at-x-requires : goal.allocation_at-x-requires
allocation_at-x-requires c = let fit = c.requires.1 in record-in (holds-records fit.holds) _ fit.made

pub starts_at-start-requires : goal.starts_at-start-requires
starts_at-start-requires c = let (m, fit) = c.requires in (m, (holds-records fit.holds, omega (arith, fit.made)))

pub starts_at-end-requires : goal.starts_at-end-requires
starts_at-end-requires c = let (m, fit) = c.requires in (m, (holds-records fit.holds, omega (arith, fit.made)))

pub offset_bounds-words-start : goal.offset_bounds-words-start
offset_bounds-words-start c = omega (arith, words-in c.requires c.starts_at-start.ensures c.starts_at-end.ensures, words-end c.requires c.starts_at-start.ensures c.starts_at-end.ensures)

pub slice_bounds-put_allocation-count : goal.slice_bounds-put_allocation-count
slice_bounds-put_allocation-count c = omega (arith, words-in c.requires c.starts_at-start.ensures c.starts_at-end.ensures)

pub slice_bounds-put_allocation-start : goal.slice_bounds-put_allocation-start
slice_bounds-put_allocation-start c = omega (arith, words-in c.requires c.starts_at-start.ensures c.starts_at-end.ensures)

pub slice_bounds-put_allocation-end : goal.slice_bounds-put_allocation-end
slice_bounds-put_allocation-end c = omega (arith, words-in c.requires c.starts_at-start.ensures c.starts_at-end.ensures)

pub offset_bounds-parents-start : goal.offset_bounds-parents-start
offset_bounds-parents-start c = omega (arith, parents-in c.requires c.starts_at-start.ensures c.starts_at-end.ensures)

pub slice_bounds-put_allocation-count-2 : goal.slice_bounds-put_allocation-count-2
slice_bounds-put_allocation-count-2 c = omega (arith, parents-in c.requires c.starts_at-start.ensures c.starts_at-end.ensures)

pub slice_bounds-put_allocation-start-2 : goal.slice_bounds-put_allocation-start-2
slice_bounds-put_allocation-start-2 c = omega (arith, parents-in c.requires c.starts_at-start.ensures c.starts_at-end.ensures)

pub slice_bounds-put_allocation-end-2 : goal.slice_bounds-put_allocation-end-2
slice_bounds-put_allocation-end-2 c = omega (arith, parents-in c.requires c.starts_at-start.ensures c.starts_at-end.ensures)

pub slice_bounds-put_allocation-count-3 : goal.slice_bounds-put_allocation-count-3
slice_bounds-put_allocation-count-3 c = omega (arith, protectors-in c.requires c.starts_at-start.ensures c.starts_at-end.ensures)

pub slice_bounds-put_allocation-start-3 : goal.slice_bounds-put_allocation-start-3
slice_bounds-put_allocation-start-3 c = omega (arith, protectors-in c.requires c.starts_at-start.ensures c.starts_at-end.ensures)

pub slice_bounds-put_allocation-end-3 : goal.slice_bounds-put_allocation-end-3
slice_bounds-put_allocation-end-3 c = omega (arith, protectors-in c.requires c.starts_at-start.ensures c.starts_at-end.ensures)

pub slice_bounds-put_allocation-count-4 : goal.slice_bounds-put_allocation-count-4
slice_bounds-put_allocation-count-4 c = omega (arith, codes-in c.requires c.starts_at-start.ensures c.starts_at-end.ensures)

pub slice_bounds-put_allocation-start-4 : goal.slice_bounds-put_allocation-start-4
slice_bounds-put_allocation-start-4 c = omega (arith, codes-in c.requires c.starts_at-start.ensures c.starts_at-end.ensures)

pub slice_bounds-put_allocation-end-4 : goal.slice_bounds-put_allocation-end-4
slice_bounds-put_allocation-end-4 c = omega (arith, codes-in c.requires c.starts_at-start.ensures c.starts_at-end.ensures)

pub put_allocation-requires : goal.put_allocation-requires
put_allocation-requires c =
    let (m, fit) = c.requires in
    let h = fit.holds in
    let s = c.starts_at-start.ensures m (holds-records h) in
    let e = c.starts_at-end.ensures m (holds-records h) in
    let read = c.allocation_at-x.ensures in
    record {
      words_len = found-size h _ fit.made s e read;
      nodes = found-nodes h _ fit.made s e;
      room = room_as (ap (allocation_lines c.args.a) (sym (found-allocation h _ fit.made s e read))) fit.room;
    }

pub returns : goal.returns
returns c = λ m h.
    let s = c.starts_at-start.ensures m (holds-records h) in
    let e = c.starts_at-end.ensures m (holds-records h) in
    let found = found-allocation h _ (is_made c.requires h) s e c.allocation_at-x.ensures in
    puts_as (ap (allocation_lines c.args.a) found) c.put_allocation.ensures
