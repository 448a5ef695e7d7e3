-- From what a request promises of the memory that the buffers hold to the entry's promise.
use Prim.Native.Nat.{ℕ}
use mathlib.Core.Path.{◌≡◌, refl, subst}
use mathlib.Core.Bool.{Bool, true, false}
use mathlib.Core.List.{List}
use Rattle.definition.specs.Width.{Width}
use Rattle.definition.specs.Memory.{ThinPointer, perform_access, allocate, deallocate, dereferenceable, leak_check}
use Rattle.pointer.specs.Width.{width_at}
use Rattle.answer.specs.Answer.{reply_to}
use Rattle.answer.specs.Answer.Gives.{Nothing, ThePointer}
use Rattle.answer.specs.declared.Answer.{Answer}
use Rattle.tables.specs.Encoding.{Buffers}
use Rattle.tables.specs.Decoding.{view, allocation_kind}
use Rattle.tables.specs.Held.{buffers}
use Rattle.wellformed.specs.AtWidth.{well_formed_at}
use Rattle.wellformed.proofs.AtWidth.{sound-at}
use Rattle.memory.specs.Allocate.{CanAllocate, Allocated}
use Rattle.memory.specs.Access.{load_of, store_of, Loaded, Stored}
use Rattle.memory.specs.Deallocate.{Deallocated}
use Rattle.memory.proofs.Allocated.{can-allocate, allocate-encode}
use Rattle.memory.proofs.Afterwards.{load-encode, store-encode, deallocate-encode}
use Rattle.library.specs.Fields.{bad_address, bad_allocation, bad_load, bad_store}
use Rattle.library.specs.Entry.{Served, given_by}
use Rattle.library.proofs.Served.{performed, answered}
use Rattle.library.proofs.Fine.{allocation-kind, allocation-exponent}

-- ---- they change nothing
module _ (width : ℕ) (p : ThinPointer) (back ahead : ℕ) (b : Buffers) (formed : well_formed_at width b ≡ true) (fine : bad_address width p.address ≡ false) where
  pub dereferenced : {r : Answer} → r ≡ reply_to Nothing (dereferenceable p back ahead (view b)).0
      → Served width Nothing (bad_address width p.address) (dereferenceable p back ahead) b r b
  unfolding dereferenceable
  dereferenced e = answered width Nothing (bad_address width p.address) (dereferenceable p back ahead) b formed fine e refl

pub leaks-checked : (width : ℕ) (b : Buffers) → well_formed_at width b ≡ true → {r : Answer} → r ≡ reply_to Nothing (leak_check (view b)).0 → Served width Nothing false leak_check b r b
unfolding leak_check
leaks-checked width b formed e = answered width Nothing false leak_check b formed refl e refl

-- ---- an allocation
module _ (width : ℕ) (b : Buffers) (formed : well_formed_at width b ≡ true) (kind exponent address : ℕ) (fine : bad_allocation width kind exponent address ≡ false) where
  pub can-enter : CanAllocate (view b) (allocation_kind kind) b.allocs b.codes kind exponent
  can-enter =
      can-allocate (view b) (allocation_kind kind) (sound-at width b formed) (allocation-kind width kind exponent address fine)
      (allocation-exponent width kind exponent address fine)

  -- at the width that the code has of the number
  pub allocated : (len : ℕ) {w : Width} → w ≡ width_at width → {r : Answer} {A' C' : List ℕ} → Allocated (allocate w (allocation_kind kind) len exponent address (view b)) r A' C'
      → Served width ThePointer (bad_allocation width kind exponent address) (allocate (width_at width) (allocation_kind kind) len exponent address) b r
      (buffers A' b.parents b.protectors b.words C')
  allocated len e {r} {A'} {C'} a =
      let made = subst (λ (w : Width). Allocated (allocate w (allocation_kind kind) len exponent address (view b)) r A' C') e a in
      performed width ThePointer (bad_allocation width kind exponent address) (allocate (width_at width) (allocation_kind kind) len exponent address) b formed fine made.reply
      (allocate-encode (width_at width) (view b) (allocation_kind kind) len exponent address (sound-at width b formed) made)

-- ---- loads, stores, deallocations
module _ (width : ℕ) (b : Buffers) (formed : well_formed_at width b ≡ true) (p : ThinPointer) (exponent : ℕ) where
  abbrev badly : ℕ → Bool
  badly kind = bad_allocation width kind exponent p.address

  pub loaded : bad_load width exponent p.address ≡ false → (len : ℕ) {r : Answer} {C' : List ℕ} → Loaded (load_of p len exponent) (view b) r C'
      → Served width (given_by (load_of p len exponent) b) (bad_load width exponent p.address) (perform_access (load_of p len exponent)) b r
      (buffers b.allocs b.parents b.protectors b.words C')
  loaded fine len a =
      performed width (given_by (load_of p len exponent) b) (bad_load width exponent p.address) (perform_access (load_of p len exponent)) b formed fine a.reply
      (load-encode (sound-at width b formed) p len exponent a)

  pub stored : (bytes : List ℕ) → bad_store width bytes exponent p.address ≡ false → {r : Answer} {W' C' : List ℕ} → Stored (store_of p bytes exponent) (view b) r W' C'
      → Served width Nothing (bad_store width bytes exponent p.address) (perform_access (store_of p bytes exponent)) b r
      (buffers b.allocs b.parents b.protectors W' C')
  stored bytes fine a =
      performed width Nothing (bad_store width bytes exponent p.address) (perform_access (store_of p bytes exponent)) b formed fine a.reply
      (store-encode (sound-at width b formed) p bytes exponent a)

  pub deallocated : (kind len : ℕ) → badly kind ≡ false → {r : Answer} {A' C' : List ℕ} → Deallocated p (allocation_kind kind) len exponent (view b) r A' C'
      → Served width Nothing (badly kind) (deallocate p (allocation_kind kind) len exponent) b r (buffers A' b.parents b.protectors b.words C')
  deallocated kind len fine a =
      performed width Nothing (badly kind) (deallocate p (allocation_kind kind) len exponent) b formed fine a.reply
      (deallocate-encode p (allocation_kind kind) len exponent (view b) (sound-at width b formed) a)
