-- The new node goes where the next allocation starts: the focus law of each buffer. Only what is used moves (Inserts), and the later records
-- say so (Moving).
use Rattle.std.proofs.Common.{◌≡◌, ◌∙◌, ap, sym, ℕ, ◌+◌, ◌*◌, List, [], ◌∷◌, ◌++◌, length, get_or, take, drop, replicate, length-set, length-take-le, arith}
use Rattle.std.proofs.Math.ListN.{length-replicate}
use Rattle.definition.specs.Notation.{write_at}
use Rattle.definition.proofs.Writes.{write-length}
use Rattle.tables.specs.Held.{inserted}
use Rattle.tables.proofs.Inserts.{inserted-in-used}
use Rattle.tables.proofs.Grown.{count-in, count_small, count-behind, parents-moved, protectors-moved, codes-moved, new-trees}
use Rattle.tables.proofs.insert_node_at.Goals as goal

write-wide : (from : ℕ) (inside : List ℕ) (width outside : ℕ) → length (write_at from inside (replicate width outside)) ≡ width
write-wide from inside width outside = write-length from inside (replicate width outside) ∙ length-replicate width outside

-- ---- there is room, and the place is in what is used
pub overflow_add-place : goal.overflow_add-place
overflow_add-place c = let (ok, at) = c.requires.node_fits.1.1 in omega (arith, (parents-moved _ ok at.behind at.used).1.1)

pub slice_bounds-insert_row-end : goal.slice_bounds-insert_row-end
slice_bounds-insert_row-end c = let (ok, at) = c.requires.node_fits.1.1 in (parents-moved _ ok at.behind at.used).1.1

pub slice_bounds-insert_row-end-2 : goal.slice_bounds-insert_row-end-2
slice_bounds-insert_row-end-2 c = let (ok, at) = c.requires.node_fits.1.1 in sym (length-take-le _ c.args.parents.now (parents-moved _ ok at.behind at.used).1.1)

pub insert_row-requires : goal.insert_row-requires
insert_row-requires c = let (ok, at) = c.requires.node_fits.1.1 in
    let k = parents-moved _ ok at.behind at.used in
    omega (arith, k.1.0, length-take-le _ c.args.parents.now k.1.1)

pub slice_bounds-insert_row-end-4 : goal.slice_bounds-insert_row-end-4
slice_bounds-insert_row-end-4 c = let (ok, at) = c.requires.node_fits.1.1 in (protectors-moved _ ok at.behind at.used).1.1

pub slice_bounds-insert_row-end-5 : goal.slice_bounds-insert_row-end-5
slice_bounds-insert_row-end-5 c = let (ok, at) = c.requires.node_fits.1.1 in sym (length-take-le _ c.args.protectors.now (protectors-moved _ ok at.behind at.used).1.1)

pub insert_row-requires-2 : goal.insert_row-requires-2
insert_row-requires-2 c = let (ok, at) = c.requires.node_fits.1.1 in
    let k = protectors-moved _ ok at.behind at.used in
    omega (arith, k.1.0, length-take-le _ c.args.protectors.now k.1.1)

pub overflow_add-place-3 : goal.overflow_add-place-3
overflow_add-place-3 c = let (ok, at) = c.requires.node_fits.1.1 in
    omega (arith, (codes-moved _ ok at.behind at.used).1.1, write-wide c.args.from c.args.inside.now c.args.width c.args.outside)

pub slice_bounds-insert_made_row-end : goal.slice_bounds-insert_made_row-end
slice_bounds-insert_made_row-end c = let (ok, at) = c.requires.node_fits.1.1 in
    omega (arith, (codes-moved _ ok at.behind at.used).1.1, write-wide c.args.from c.args.inside.now c.args.width c.args.outside)

pub slice_bounds-insert_made_row-end-2 : goal.slice_bounds-insert_made_row-end-2
slice_bounds-insert_made_row-end-2 c = let (ok, at) = c.requires.node_fits.1.1 in
    sym (length-take-le _ c.args.codes.now (omega (arith, (codes-moved _ ok at.behind at.used).1.1, write-wide c.args.from c.args.inside.now c.args.width c.args.outside)))

pub insert_made_row-requires : goal.insert_made_row-requires
insert_made_row-requires c = let (ok, at) = c.requires.node_fits.1.1 in
    let k = codes-moved _ ok at.behind at.used in
    let wide = write-wide c.args.from c.args.inside.now c.args.width c.args.outside in
    record { width_in_bounds = omega (arith, k.1.0, length-take-le (c.args.place.codes + c.args.width) c.args.codes.now (omega (arith, k.1.1, wide))); inside_bound = c.requires.inside_bound }

pub bounds-allocs-a : goal.bounds-allocs-a
bounds-allocs-a c = count-in _ c.requires.node_fits.1.1.0

pub overflow_add-allocs-2 : goal.overflow_add-allocs-2
overflow_add-allocs-2 c = omega (arith, count_small _ c.requires.node_fits.1.1.0)

pub bounds-allocs-a-2 : goal.bounds-allocs-a-2
bounds-allocs-a-2 c = count-in _ c.requires.node_fits.1.1.0

pub overflow_add-a : goal.overflow_add-a
overflow_add-a c = omega (arith, count-in _ c.requires.node_fits.1.1.0)

pub move_starts-requires : goal.move_starts-requires
move_starts-requires c = let (ok, at) = c.requires.node_fits.1.1 in
    (_, (_, (_, (_, count-behind _ ok (write-wide c.args.from c.args.inside.now c.args.width c.args.outside)))))

-- ---- each buffer
pub shape_of-allocs : goal.shape_of-allocs
shape_of-allocs c = let A : List ℕ = c.args.allocs.now in
    let p : ℕ = c.args.a * 9 + 5 in
    c.move_starts.auto.allocs ∙ length-set A p (get_or A p 0 + 1)

pub returns : goal.returns
returns c = λ m x ok at. let a = c.args in
    let row : List ℕ = write_at a.from a.inside.now (replicate a.width a.outside) in
    let wide : length row ≡ a.width = write-wide a.from a.inside.now a.width a.outside in
    let t = new-trees _ ok at.behind wide (c.move_starts.ensures _ _ _ _ (count-behind _ ok wide)) in
    let k = parents-moved row ok at.behind at.used in
    let l = protectors-moved row ok at.behind at.used in
    let n = codes-moved row ok at.behind at.used in
    record {
      allocs = t.allocs;
      parents =
          ap (λ (P : List ℕ). P ++ drop (a.place.nodes + 1) a.parents.now) c.insert_row.ensures
          ∙ inserted-in-used a.parents.now (a.parent ∷ []) a.place.nodes a.place.node k.0 k.1.0 k.1.1 ∙ t.parents;
      protectors =
          ap (λ (R : List ℕ). R ++ drop (a.place.nodes + 1) a.protectors.now) c.insert_row-2.ensures
          ∙ inserted-in-used a.protectors.now (a.protector ∷ []) a.place.nodes a.place.node l.0 l.1.0 l.1.1 ∙ t.protectors;
      codes =
          ap (λ (C : List ℕ). C ++ drop (a.place.codes + a.width) a.codes.now) c.insert_made_row.ensures
          ∙ ap (λ (w : ℕ). inserted (take (a.place.codes + w) a.codes.now) a.place.code row ++ drop (a.place.codes + w) a.codes.now) (sym wide)
          ∙ inserted-in-used a.codes.now row a.place.codes a.place.code n.0 n.1.0 n.1.1 ∙ t.codes;
    }
