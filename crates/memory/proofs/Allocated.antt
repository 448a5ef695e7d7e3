-- The definition's `allocate`, refusal by refusal, and the five buffers after it.
use Prim.Native.Nat.{ℕ, ◌≤◌}
use mathlib.Core.Path.{◌≡◌, refl, sym, ap, subst, ◌∙◌}
use mathlib.Core.Bool.{Bool, true, false, not}
use mathlib.Core.Option.{some}
use mathlib.Core.List.{List}
use native.Mathlib.Omega.{arith}
use lib.ListN.{length}
use Rattle.definition.specs.Width.{Width}
use Rattle.definition.specs.Memory.{Memory, AllocationKind, kind_number, is_misaligned, overlaps, is_pickable, exceeds_bounds, of_allocation, new_allocation, refused_with, gives_pointer, allocate_refusal, accept_allocate, allocate}
use Rattle.definition.specs.Memory as definition
use Rattle.definition.proofs.ValidMemory.{valid-allocate}
use Rattle.answer.specs.Answer.Gives.{ThePointer}
use Rattle.answer.specs.declared.Answer.{Answer}
use Rattle.answer.specs.declared.Answer.TheVariants.{Refused, Pointer}
use Rattle.answer.proofs.Replies.{refused-reply}
use Rattle.pointer.specs.Pointer.{via}
use Rattle.tables.specs.Encoding.{codes_of, held_records, held, encode}
use Rattle.tables.specs.Held.{buffers, Holds, AllocationFits, Appended}
use Rattle.tables.proofs.Grown.{append-encode}
use Rattle.tables.proofs.ReadBack.{holds-parents, holds-protectors, holds-words, holds-codes, holds-records, encode-of}
use Rattle.memory.specs.Allocate.{CanAllocate, Allocated}

-- ---- what is asked, and that there is room
module _ (m : Memory) (k : AllocationKind) {kind exponent : ℕ} where
  pub can-allocate : {A P R W C : List ℕ} → Holds m (buffers A P R W C) → kind ≡ kind_number k → exponent ≤ 29 → CanAllocate m k A C kind exponent
  can-allocate h e x = record { records = holds-records h; codes = holds-codes h; is_kind = e; is_exponent = x }

  pub room_fits : {A C : List ℕ} {len : ℕ} → CanAllocate m k A C kind exponent → exceeds_bounds m (of_allocation len) ≡ false → AllocationFits m A C len
  room_fits h e = record { records = h.records; codes = h.codes; room = e }

-- ---- the three outcomes
module _ (w : Width) (m : Memory) (k : AllocationKind) (len exponent address : ℕ) where
  abbrev outcome : definition.Answer × Memory
  outcome = allocate w k len exponent address m

  allocate-unpickable : not (is_pickable w m len exponent address) ≡ true → outcome ≡ (refused_with 5, m)
  unfolding allocate allocate_refusal
  allocate-unpickable e = rw e

  module _ (picked : not (is_pickable w m len exponent address) ≡ false) where
    allocate-exceeds : exceeds_bounds m (of_allocation len) ≡ true → outcome ≡ (refused_with 15, m)
    unfolding allocate allocate_refusal
    allocate-exceeds e = rw (picked, e)

    allocate-accepts : exceeds_bounds m (of_allocation len) ≡ false → outcome ≡ accept_allocate k len exponent address m
    unfolding allocate allocate_refusal
    allocate-accepts e = rw (picked, e)

  -- as the buffers have them
  module _ {A C : List ℕ} {kind : ℕ} (h : CanAllocate m k A C kind exponent) where
    refused-allocated : (n : ℕ) → (n ≡ 0 → ⊥) → outcome ≡ (refused_with n, m) → Allocated outcome (Refused n) A C
    refused-allocated n z e =
        subst (λ (o : definition.Answer × Memory). Allocated o (Refused n) A C) (sym e)
        (record { reply = sym (refused-reply ThePointer n z); answer = λ words. refl; allocs = h.records.allocs; codes = h.codes })

    pub unpickable-allocated : not (is_pickable w m len exponent address) ≡ true → Allocated outcome (Refused 5) A C
    unpickable-allocated e = refused-allocated 5 (λ z. omega arith) (allocate-unpickable e)

    module _ (picked : not (is_pickable w m len exponent address) ≡ false) where
      pub exceeds-allocated : exceeds_bounds m (of_allocation len) ≡ true → Allocated outcome (Refused 15) A C
      exceeds-allocated e = refused-allocated 15 (λ z. omega arith) (allocate-exceeds picked e)

      pub accepts-allocated : exceeds_bounds m (of_allocation len) ≡ false → {n : ℕ} {A' C' : List ℕ} → Appended m (new_allocation k len exponent address) n A' C'
          → Allocated outcome (Pointer (via n 0)) A' C'
      unfolding accept_allocate
      accepts-allocated e {n} {A'} {C'} a =
          subst (λ (o : definition.Answer × Memory). Allocated o (Pointer (via n 0)) A' C') (sym (allocate-accepts picked e))
          (record { reply = ap (λ (t : ℕ). Pointer (via t 0)) a.number; answer = λ words. ap (λ (t : ℕ). gives_pointer (some (record { allocation = t; node = 0 }))) a.number; allocs = a.allocs; codes = a.codes })

  -- ---- the five buffers
  module _ {A P R W C : List ℕ} (h : Holds m (buffers A P R W C)) where
    module _ {r : Answer} {A' C' : List ℕ} (a : Allocated outcome r A' C') where
      -- the two buffers, where the outcome is known
      allocs-after : {o : definition.Answer × Memory} → outcome ≡ o → A' ≡ held_records o.1
      allocs-after e = a.allocs ∙ ap (λ (o : definition.Answer × Memory). held_records o.1) e

      codes-after : {o : definition.Answer × Memory} → outcome ≡ o → C' ≡ held 32768 codes_of o.1
      codes-after e = a.codes ∙ ap (λ (o : definition.Answer × Memory). held 32768 codes_of o.1) e

      -- the memory is as it was, or it has one allocation more
      kept-encode : (n : ℕ) → outcome ≡ (refused_with n, m) → buffers A' P R W C' ≡ encode outcome.1
      kept-encode n e = rw e (encode-of m (allocs-after e) (holds-parents h) (holds-protectors h) (holds-words h) (codes-after e))

      grown-encode : outcome ≡ accept_allocate k len exponent address m → exceeds_bounds m (of_allocation len) ≡ false → buffers A' P R W C' ≡ encode outcome.1
      unfolding accept_allocate
      grown-encode e room =
          rw e
          (append-encode m A P R W C A' C' (length m) k len exponent address h room
          (record { number = refl; allocs = allocs-after e; codes = codes-after e }))

      pub allocate-encode : buffers A' P R W C' ≡ encode outcome.1
      allocate-encode = go (not (is_pickable w m len exponent address)) (exceeds_bounds m (of_allocation len)) refl refl
        where
          go : (p q : Bool) → not (is_pickable w m len exponent address) ≡ p → exceeds_bounds m (of_allocation len) ≡ q → buffers A' P R W C' ≡ encode outcome.1
          go true q e f = kept-encode 5 (allocate-unpickable e)
          go false true e f = kept-encode 15 (allocate-exceeds e f)
          go false false e f = grown-encode (allocate-accepts e f) f

      pub allocate_holds : exponent ≤ 29 → Holds outcome.1 (buffers A' P R W C')
      allocate_holds x = record { valid = valid-allocate w k len exponent address x m h.valid; equal = allocate-encode }
