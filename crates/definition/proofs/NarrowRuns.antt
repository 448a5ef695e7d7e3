-- Every request keeps a memory in the addresses and positions of its width, and an emptying leaves one that is in those of any. Only an allocation and a store
-- bring new ones: `pick` asks for the one, and 2 for the other.
use Prim.Native.Nat.{ℕ, ◌+◌, ◌<◌}
use mathlib.Core.Path.{◌≡◌, refl, sym, subst}
use mathlib.Core.Bool.{Bool, false, not, ◌&&◌, ◌||◌}
use mathlib.Core.Option.{Option, none, some}
use mathlib.Core.List.{List, [], ◌∷◌}
use lib.Dec.{eqb}
use lib.ListN.{length, length-replicate}
use Rattle.definition.specs.Notation.{◌when◌, mutate_at, any}
use Rattle.definition.specs.Refusal.{malformed, fails_pick, size_exceeded, never_made}
use Rattle.definition.specs.Width.{Width, addresses}
use Rattle.definition.specs.Width.Width.{Bits16, Bits32, Bits64}
use Rattle.definition.specs.Layout.{FreezeMask, freeze_mask}
use Rattle.definition.specs.Memory.{Provenance, ThinPointer, has_none, allocation_of, AllocationKind, Allocation, Memory, no_allocation, offset, Answer, refused_with, gives_pointer, names_never_made, MemoryAccess, access_refusal, after_access_in, after_access, accept_access, perform_access, is_pickable, exceeds_bounds, of_allocation, new_allocation, allocate_refusal, accept_allocate, allocate, deallocate_refusal, after_deallocate_in, accept_deallocate, deallocate, dereferenceable, leak_check}
use Rattle.definition.specs.Frame.{State, frame_at, entries, after_release_in, after_release, after_release_all, end_call_refusal, accept_end_call, end_call, new_call}
use Rattle.definition.specs.Retag.{ReborrowSettings, reborrow_refusal, after_reborrow_in, accept_reborrow, reborrow, retag_without_node, retag}
use Rattle.definition.specs.Request.{Kind, Request, request, pointer, allocation_kind, frame_number, adds_no_node, settings_of, load_of, store_of, is_miscounted, is_malformed, is_too_high, is_too_far, stored_bytes, is_too_big}
use Rattle.definition.specs.Request.Kind.{Allocate, Deallocate, Load, Store, Retag, NewCall, EndCall, Dereferenceable, SignedDereferenceable, LeakCheck, Empty, Unused}
use Rattle.definition.specs.Run.{retag_with_mask, perform_retag, perform, is_refused, step, RunState, width_by, width_after, turn}
use Rattle.definition.specs.Valid.{All, NarrowAllocation, Narrow}
use Rattle.definition.proofs.Booleans.{or-neither, or_left, not-not-false, when-none}
use Rattle.definition.proofs.Alls.{if-holds, outcome-holds, all-mutate, all-write, all_append, all_replicate, none_pass}
use Rattle.definition.proofs.Writes.{write-length}
use Rattle.definition.proofs.ValidMemory.{pickable}

-- an uninitialised byte has position 0
pub zero-near : (w : Width) → is_too_far w 0 ≡ false
unfolding is_too_far
zero-near Bits16 = refl
zero-near Bits32 = refl
zero-near Bits64 = refl

module _ (w : Width) where
  abbrev P : Allocation → Type 0
  P = NarrowAllocation w

  -- ---- allocate
  new-narrow : (kind : AllocationKind) (len exponent address : ℕ) → address + len < addresses w → P (new_allocation kind len exponent address)
  unfolding new_allocation
  new-narrow kind len exponent address fits =
      record {
        in_space = subst (λ (n : ℕ). address + n < addresses w) (sym (length-replicate len 0)) fits;
        positions = all_replicate (λ b. is_too_far w b ≡ false) len 0 (zero-near w);
      }

  pub allocate-narrow : (kind : AllocationKind) (len exponent address : ℕ) (m : Memory) → Narrow w m → Narrow w (allocate w kind len exponent address m).1
  unfolding allocate allocate_refusal accept_allocate
  allocate-narrow kind len exponent address m h =
      let unpickable : Bool = not (is_pickable w m len exponent address) in
      let too_much : Bool = exceeds_bounds m (of_allocation len) in
      outcome-holds (Narrow w) (allocate_refusal w m len exponent address) m (accept_allocate kind len exponent address m) h
      (λ e.
      let picked = pickable w m len exponent address (not-not-false (is_pickable w m len exponent address) (when-none 4 unpickable (or_left (fails_pick when unpickable) (size_exceeded when too_much) e))) in
      all_append P m (new_allocation kind len exponent address ∷ []) h (new-narrow kind len exponent address picked.in_space, tt))

  -- ---- one allocation changed, with the address that it had, and as many bytes, each in its place
  change-narrow : (f : Allocation → Allocation) → ((a : Allocation) → P a → P (f a)) → (n : ℕ) (m : Memory) → Narrow w m → Narrow w (mutate_at n f m)
  change-narrow f kept n m h = all-mutate P f no_allocation n m (λ l. kept _) h

  -- a load or store of such bytes
  pub access-narrow : (x : MemoryAccess) → All (λ b. is_too_far w b ≡ false) x.bytes → (m : Memory) → Narrow w m → Narrow w (perform_access x m).1
  unfolding perform_access accept_access after_access
  access-narrow x near m h =
      outcome-holds (Narrow w) (access_refusal x m) m (accept_access x m) h
      (λ e.
      if-holds (Narrow w) (eqb x.len 0) m (mutate_at (allocation_of x.pointer.provenance) (after_access_in x) m) (λ z. h)
      (λ z. change-narrow (after_access_in x) written (allocation_of x.pointer.provenance) m h))
    where
      written : (a : Allocation) → P a → P (after_access_in x a)
      written a p = unfold after_access_in in record {
        in_space = subst (λ (n : ℕ). a.address + n < addresses w) (sym (write-length (offset a x.pointer) x.bytes a.words)) p.in_space;
        positions = all-write (λ b. is_too_far w b ≡ false) (offset a x.pointer) x.bytes a.words near p.positions;
      }

  pub deallocate-narrow : (p : ThinPointer) (kind : AllocationKind) (len exponent : ℕ) (m : Memory) → Narrow w m → Narrow w (deallocate p kind len exponent m).1
  unfolding deallocate accept_deallocate after_deallocate_in
  deallocate-narrow p kind len exponent m h =
      outcome-holds (Narrow w) (deallocate_refusal m p kind len exponent) m (accept_deallocate p m) h
      (λ e. change-narrow (after_deallocate_in p) (λ a k. record { in_space = k.in_space; positions = k.positions }) (allocation_of p.provenance) m h)

  pub releases-narrow : (es : List Provenance) (m : Memory) → Narrow w m → Narrow w (after_release_all m es)
  unfolding after_release_all after_release after_release_in
  releases-narrow [] m h = h
  releases-narrow (e ∷ es) m h =
      releases-narrow es (after_release m e)
      (change-narrow (after_release_in e.node) (λ a k. record { in_space = k.in_space; positions = k.positions }) e.allocation m h)

  -- ---- requests with frames
  abbrev Q : State → Type 0
  Q s = Narrow w s.memory

  end-call-narrow : (f : ℕ) (s : State) → Q s → Q (end_call f s).1
  unfolding end_call accept_end_call
  end-call-narrow f s h =
      let es : List Provenance = entries (frame_at s f) in
      outcome-holds Q (end_call_refusal s.memory es) s (accept_end_call f s) h (λ e. releases-narrow es s.memory h)

  without-node-narrow : (p : ThinPointer) (s : State) → Q s → Q (retag_without_node p s).1
  unfolding retag_without_node
  without-node-narrow p s h = outcome-holds Q (never_made when names_never_made s.memory p.provenance) s (gives_pointer p.provenance, s) h (λ e. h)

  pub reborrow-narrow : (settings : ReborrowSettings) (f : ℕ) (p : ThinPointer) (s : State) → Q s → Q (reborrow settings f p s).1
  unfolding reborrow accept_reborrow after_reborrow_in
  reborrow-narrow settings f p s h =
      outcome-holds Q (reborrow_refusal settings f p s) s (accept_reborrow settings f p s) h
      (λ e. change-narrow (after_reborrow_in settings p) (λ a k. record { in_space = k.in_space; positions = k.positions }) (allocation_of p.provenance) s.memory h)

  with-mask-narrow : (mask : Option FreezeMask) (s : State) (q : Request) → Q s → Q (retag_with_mask mask s q).1
  unfolding retag_with_mask retag
  with-mask-narrow none s q h = h
  with-mask-narrow (some mask) s q h =
      let settings : ReborrowSettings = settings_of q mask in
      let p : ThinPointer = pointer q in
      if-holds (λ (o : Answer × State). Q o.1) (has_none p.provenance && eqb (length settings.inside) 0) (retag_without_node p s) (reborrow settings (frame_number q) p s)
      (λ z. without-node-narrow p s h) (λ z. reborrow-narrow settings (frame_number q) p s h)

  -- ---- a request of any kind
  perform-narrow : (k : Kind) (s : State) (q : Request) → any (is_too_far w) (stored_bytes k q.following) ≡ false → Q s → Q (perform w k s q).1
  unfolding perform
  perform-narrow Allocate s q near h = allocate-narrow (allocation_kind q) q.fourth q.exponent q.address s.memory h
  perform-narrow Deallocate s q near h = deallocate-narrow (pointer q) (allocation_kind q) q.fourth q.exponent s.memory h
  perform-narrow Load s q near h = access-narrow (load_of q) tt s.memory h
  perform-narrow Store s q near h = access-narrow (store_of q) (none_pass (is_too_far w) q.following near) s.memory h
  perform-narrow Retag s q near h =
      unfold perform_retag in
      if-holds (λ (o : Answer × State). Q o.1) (adds_no_node q) (retag_without_node (pointer q) s) (retag_with_mask (freeze_mask q.following) s q)
      (λ b. without-node-narrow (pointer q) s h) (λ b. with-mask-narrow (freeze_mask q.following) s q h)
  perform-narrow NewCall s q near h = unfold new_call in h
  perform-narrow EndCall s q near h = end-call-narrow q.fourth s h
  perform-narrow Dereferenceable s q near h = unfold dereferenceable in h
  perform-narrow SignedDereferenceable s q near h = unfold dereferenceable in h
  perform-narrow LeakCheck s q near h = unfold leak_check in h
  perform-narrow Empty s q near h = tt
  perform-narrow Unused s q near h = h

  -- and at the width that it chooses
  chosen-narrow : (k : Kind) (s : State) (q : Request) → Q (perform w k s q).1 → Narrow (width_by k q w) (perform w k s q).1.memory
  unfolding perform
  chosen-narrow Allocate s q h = h
  chosen-narrow Deallocate s q h = h
  chosen-narrow Load s q h = h
  chosen-narrow Store s q h = h
  chosen-narrow Retag s q h = h
  chosen-narrow NewCall s q h = h
  chosen-narrow EndCall s q h = h
  chosen-narrow Dereferenceable s q h = h
  chosen-narrow SignedDereferenceable s q h = h
  chosen-narrow LeakCheck s q h = h
  chosen-narrow Empty s q h = tt
  chosen-narrow Unused s q h = h

  step-narrow : (s : State) (ws : List ℕ) → Q s → (let o = step w s ws in Narrow (width_after o.0 (request ws) w) o.1.memory)
  unfolding step width_after is_too_big
  step-narrow s ws h =
      let q : Request = request ws in
      let tests : Bool = is_miscounted ws || is_malformed q.kind s q in
      if-holds (λ (o : Answer × State). Narrow (width_after o.0 q w) o.1.memory) (is_refused w s ws) (refused_with malformed, s) (perform w q.kind s q)
      (λ e. h)
      (λ e.
      let o : Answer × State = perform w q.kind s q in
      let near = (or-neither (is_too_high w q.address) (any (is_too_far w) (stored_bytes q.kind q.following)) (or-neither tests (is_too_big w q) e).1).1 in
      let here : Q o.1 = perform-narrow q.kind s q near h in
      if-holds (λ (v : Width). Narrow v o.1.memory) (eqb o.0.refusal 0) (width_by q.kind q w) w (λ z. chosen-narrow q.kind s q here) (λ z. here))

pub narrow-turn : (r : RunState) (ws : List ℕ) → Narrow r.width r.state.memory → Narrow (turn r ws).1.width (turn r ws).1.state.memory
unfolding turn
narrow-turn r ws h = step-narrow r.width r.state ws h
