-- The record and the row go to the first zeros of their buffers: the focus law of each.
use Rattle.std.proofs.Common.{◌≡◌, ◌∙◌, ap, ℕ, ◌+◌, ◌-◌, ◌*◌, [], ◌∷◌, length, take, drop, length-take, length-drop, arith}
use Rattle.std.proofs.Math.Seq.{paste}
use Rattle.tables.proofs.Grown.{record-room, append-record, row_room, append-row}
use Rattle.tables.proofs.Lookup.{allocs-length, made-count, at-end}
use Rattle.tables.proofs.append_allocation.Goals as goal

pub made_count-n-requires : goal.made_count-n-requires
made_count-n-requires c = allocs-length c.requires.1.records

pub starts_at-starts-requires : goal.starts_at-starts-requires
starts_at-starts-requires c = (c.requires.0, (c.requires.1.records, omega (arith, made-count c.requires.1.records)))

pub overflow_mul-n : goal.overflow_mul-n
overflow_mul-n c = let h = c.requires.1.records in omega (arith, made-count h, h.valid.bounded.allocations)

pub put_record-requires : goal.put_record-requires
put_record-requires c = omega (arith, made-count c.requires.1.records, record-room c.requires.1)

pub overflow_add-starts : goal.overflow_add-starts
overflow_add-starts c = let ok = c.requires.1 in
    omega (arith, row_room ok (at-end ok.records c.made_count-n.ensures (c.starts_at-starts.ensures _ ok.records)))

pub slice_bounds-fill-end : goal.slice_bounds-fill-end
slice_bounds-fill-end c = let ok = c.requires.1 in
    row_room ok (at-end ok.records c.made_count-n.ensures (c.starts_at-starts.ensures _ ok.records))

pub returns : goal.returns
returns c = λ m k ok e.
    let a = c.args in
    let n = c.made_count-n.ensures ∙ made-count ok.records in
    let starts = c.starts_at-starts.result in
    let s = at-end ok.records c.made_count-n.ensures (c.starts_at-starts.ensures m ok.records) in
    let size : starts.codes + a.size - starts.codes ≡ a.size = omega arith in
    let part : length (take (starts.codes + a.size - starts.codes) (drop starts.codes a.codes.now)) ≡ a.size =
    simp (length-take, length-drop) (omega (arith, row_room ok s)) in
    record {
      number = n;
      allocs =
          c.put_record.ensures
          ∙ ap (λ (t : ℕ). paste a.allocs.now (t * 9) (1 ∷ a.kind ∷ a.exponent ∷ a.address ∷ a.size ∷ 1 ∷ starts.words ∷ starts.nodes ∷ starts.codes ∷ []) 9) n
          ∙ ap (λ (t : ℕ). paste a.allocs.now (length m * 9) (1 ∷ t ∷ a.exponent ∷ a.address ∷ a.size ∷ 1 ∷ starts.words ∷ starts.nodes ∷ starts.codes ∷ []) 9) e
          ∙ append-record ok s k a.exponent a.address;
      codes = rw (c.fill.ensures.after (λ y e. e), part) (append-row ok s k a.exponent a.address size);
    }
