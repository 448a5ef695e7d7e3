-- What requests do to a state, for laws that go request by request. An accepted one allocates, accesses, deallocates, reborrows, opens a call or ends one, or
-- empties the memory; any other leaves the state as it was. So what each of these changes keeps, every request keeps (`step_keeps`), and every list of them (`run-keeps`).
--     KeptByRequest, KeptByEnd    a law of states that they keep
--     Kept, KeptByRelease         a law of one allocation, which is one of states (`in-allocation`, `ended-allocation`)
--     KeptFrames                  a law of the frames, which is one of states (`in-frames`)
-- A new kind of request gets a field in `KeptByRequest` and a clause in `perform-keeps`; the checker then names every law that has to say what becomes of it.
use Rattle.std.specs.Prelude.{if◌then◌else◌}
use Prim.Native.Nat.{ℕ, suc, ◌<◌}
use mathlib.Core.Path.{◌≡◌, refl, sym, ap, ◌∙◌}
use mathlib.Core.Bool.{Bool, false, not, ◌&&◌, ◌||◌}
use mathlib.Core.Option.{Option, none, some}
use mathlib.Core.List.{List, [], ◌∷◌, ◌++◌}
use lib.Dec.{eqb}
use lib.ListN.{length, get_or, set}
use Rattle.definition.specs.Notation.{◌when◌, ◌or◌, mutate_at, any}
use Rattle.definition.specs.Refusal.{malformed, never_made, misaligned, missing_provenance, dead_allocation, away_from_start, another_kind, another_size, another_alignment, strong_protector}
use Rattle.definition.specs.Width.{Width}
use Rattle.definition.specs.Permission.{Protected, is_yes, SafePointer}
use Rattle.definition.specs.Permission.AccessKind.{Read, Write}
use Rattle.definition.specs.Tree.{visit_refusal, visited}
use Rattle.definition.specs.Layout.{FreezeMask, freeze_mask}
use Rattle.definition.specs.Memory.{Allocation, AllocationKind, size, Memory, no_allocation, allocation_at, target, offset, Provenance, ThinPointer, has_none, allocation_of, node_of, is_live, Answer, refused_with, accepted, gives_pointer, unless_refused, kind_number, names_never_made, was_made, check_ptr, node_count, MemoryAccess, visit_of, is_misaligned, access_refusal_in, access_refusal, after_access_in, after_access, accept_access, perform_access, new_allocation, allocate_refusal, accept_allocate, allocate, node_prevents_deallocation, write_all, deallocate_refusal, after_deallocate_in, accept_deallocate, deallocate, dereferenceable, leak_check}
use Rattle.definition.specs.Frame.{Frame, State, empty, frame_at, is_open, entries, in_memory, release_refusal_in, release_refusal, after_release_in, after_release, release_all_refusal, after_release_all, end_call_refusal, accept_end_call, end_call, new_call}
use Rattle.definition.specs.Frame.Frame.{Closed, Open}
use Rattle.definition.specs.Retag.{ReborrowSettings, reborrow_settings, with_child, init_refusal, after_reborrow_in, reborrow_refusal, accept_reborrow, reborrow, retag_without_node, retag}
use Rattle.definition.specs.Request.{Kind, Request, request, pointer, allocation_kind, frame_number, safe_pointer, protector_of, freeze, adds_no_node, load_of, store_of, is_miscounted, is_malformed, is_too_big, bad_call, is_open_frame}
use Rattle.definition.specs.Request.Kind.{Allocate, Deallocate, Load, Store, Retag, NewCall, EndCall, Dereferenceable, SignedDereferenceable, LeakCheck, Empty, Unused}
use Rattle.definition.specs.Run.{retag_with_mask, perform_retag, perform, step, RunState, turn, answers, final}
use Rattle.definition.specs.SharedArguments.{NeverEmpties}
use Rattle.definition.proofs.Booleans.{or-neither, or_left, or_right}
use Rattle.definition.proofs.Alls.{if-holds, outcome-holds}
use Rattle.definition.proofs.Places.{mutate-holds, append-holds}
use Rattle.definition.proofs.ValidMemory.{Made}
use Rattle.definition.proofs.ValidFrames.{Passed, passed, named-made, has-provenance}

-- a load has no bytes to store, a store as many as its length
pub data IsAccess (x : MemoryAccess) : Type 0 where
  load : x.kind ≡ Read → x.bytes ≡ [] → IsAccess x
  store : x.kind ≡ Write → x.len ≡ length x.bytes → IsAccess x

-- ---- laws of a state
-- the node that a retag's pointer names, the new node's parent
abbrev pub parent_of : ThinPointer → Provenance
parent_of p = record { allocation = allocation_of p.provenance; node = node_of p.provenance }

pub record KeptByRequest (P : State → Type 0) : Type 0 where
  pub allocated : (kind : AllocationKind) (len exponent address : ℕ) (s : State) → P s → P (in_memory s (accept_allocate kind len exponent address s.memory)).1
  pub accessed : (x : MemoryAccess) → IsAccess x → (s : State) → access_refusal x s.memory ≡ 0 → P s → P (in_memory s (accept_access x s.memory)).1
  pub deallocated : (p : ThinPointer) (kind : AllocationKind) (len exponent : ℕ) (s : State) → deallocate_refusal s.memory p kind len exponent ≡ 0
      → P s → P (in_memory s (accept_deallocate p s.memory)).1
  pub reborrowed : (pointer : SafePointer) (protected : Protected) (mask : FreezeMask) (freeze : Bool) (frame : ℕ) (p : ThinPointer) (s : State)
      → (let w : ReborrowSettings = reborrow_settings pointer protected mask freeze in
      Passed w frame p s → Made s.memory (parent_of p) → P s → P (accept_reborrow w frame p s).1)
  pub opened : (f : ℕ) (s : State) → is_open (frame_at s f) ≡ false → P s → P (new_call f s).1

-- the end of frame f's call, where it is accepted; by itself, as there are laws that hold up to it
abbrev pub KeptByEnd : (State → Type 0) → State → ℕ → Type 0
KeptByEnd P s f = end_call_refusal s.memory (entries (frame_at s f)) ≡ 0 → P s → P (accept_end_call f s).1

module _ (P : State → Type 0) (kept : KeptByRequest P) where
  -- a request to the memory alone
  in-memory-keeps : (s : State) (r : ℕ) (outcome : Answer × Memory) → (r ≡ 0 → P s → P (in_memory s outcome).1) → P s → P (in_memory s (unless_refused r s.memory outcome)).1
  in-memory-keeps s r outcome accept h = outcome-holds (λ (m : Memory). P (record { memory = m; frames = s.frames })) r s.memory outcome h (λ e. accept e h)

  access-keeps : (x : MemoryAccess) → IsAccess x → (s : State) → P s → P (in_memory s (perform_access x s.memory)).1
  unfolding perform_access
  access-keeps x i s h = in-memory-keeps s (access_refusal x s.memory) (accept_access x s.memory) (kept.accessed x i s) h

  without-node-keeps : (p : ThinPointer) (s : State) → P s → P (retag_without_node p s).1
  unfolding retag_without_node
  without-node-keeps p s h = outcome-holds P (never_made when names_never_made s.memory p.provenance) s (gives_pointer p.provenance, s) h (λ e. h)

  module _ (pointer : SafePointer) (protected : Protected) (mask : FreezeMask) (freeze : Bool) (frame : ℕ) (p : ThinPointer) (s : State) where
    abbrev w : ReborrowSettings
    w = reborrow_settings pointer protected mask freeze

    reborrow-keeps : has_none p.provenance && eqb (length w.inside) 0 ≡ false → P s → P (reborrow w frame p s).1
    unfolding reborrow
    reborrow-keeps z h =
        outcome-holds P (reborrow_refusal w frame p s) s (accept_reborrow w frame p s) h
        (λ e.
        let r : Passed w frame p s = passed w frame p s e in
        kept.reborrowed pointer protected mask freeze frame p s r
        (named-made s.memory p.provenance r.known (has-provenance (target s.memory p) p (length w.inside) r.in_bounds z)) h)

    retag-keeps : P s → P (retag w frame p s).1
    unfolding retag
    retag-keeps h =
        if-holds (λ (o : Answer × State). P o.1) (has_none p.provenance && eqb (length w.inside) 0) (retag_without_node p s) (reborrow w frame p s)
        (λ z. without-node-keeps p s h) (λ z. reborrow-keeps z h)

  with-mask-keeps : (mask : Option FreezeMask) (s : State) (q : Request) → P s → P (retag_with_mask mask s q).1
  unfolding retag_with_mask
  with-mask-keeps none s q h = h
  with-mask-keeps (some mask) s q h = retag-keeps (safe_pointer q) (protector_of q) mask (freeze q) (frame_number q) (pointer q) s h

  perform-keeps : (width : Width) (kind : Kind) (s : State) (q : Request) → is_malformed kind s q ≡ false → (kind ≡ EndCall → KeptByEnd P s q.fourth)
      → (kind ≡ Empty → P empty) → P s → P (perform width kind s q).1
  unfolding perform is_malformed
  perform-keeps width Allocate s q fine ended emptied h =
      unfold allocate in
      in-memory-keeps s (allocate_refusal width s.memory q.fourth q.exponent q.address) (accept_allocate (allocation_kind q) q.fourth q.exponent q.address s.memory)
      (λ e. kept.allocated (allocation_kind q) q.fourth q.exponent q.address s) h
  perform-keeps width Deallocate s q fine ended emptied h =
      unfold deallocate in
      in-memory-keeps s (deallocate_refusal s.memory (pointer q) (allocation_kind q) q.fourth q.exponent) (accept_deallocate (pointer q) s.memory)
      (kept.deallocated (pointer q) (allocation_kind q) q.fourth q.exponent s) h
  perform-keeps width Load s q fine ended emptied h = access-keeps (load_of q) (load refl refl) s h
  perform-keeps width Store s q fine ended emptied h = access-keeps (store_of q) (store refl refl) s h
  perform-keeps width Retag s q fine ended emptied h =
      unfold perform_retag in
      if-holds (λ (o : Answer × State). P o.1) (adds_no_node q) (retag_without_node (pointer q) s) (retag_with_mask (freeze_mask q.following) s q)
      (λ z. without-node-keeps (pointer q) s h) (λ z. with-mask-keeps (freeze_mask q.following) s q h)
  perform-keeps width NewCall s q fine ended emptied h = kept.opened q.fourth s (or-neither (bad_call q) (is_open_frame s q) fine).1 h
  perform-keeps width EndCall s q fine ended emptied h =
      unfold end_call in
      outcome-holds P (end_call_refusal s.memory (entries (frame_at s q.fourth))) s (accept_end_call q.fourth s) h (λ e. ended refl e h)
  perform-keeps width Dereferenceable s q fine ended emptied h = unfold dereferenceable in h
  perform-keeps width SignedDereferenceable s q fine ended emptied h = unfold dereferenceable in h
  perform-keeps width LeakCheck s q fine ended emptied h = unfold leak_check in h
  perform-keeps width Empty s q fine ended emptied h = emptied refl
  perform-keeps width Unused s q fine ended emptied h = h

  -- the end of a call has to keep it where the request comes to one; where it empties the memory, it has to hold of the empty one
  pub step_keeps : (width : Width) (s : State) (ws : List ℕ)
      → ((request ws).kind ≡ EndCall → step width s ws ≡ end_call (request ws).fourth s → KeptByEnd P s (request ws).fourth)
      → ((request ws).kind ≡ Empty → step width s ws ≡ (accepted, empty) → P empty)
      → P s → P (step width s ws).1
  unfolding step perform
  step_keeps width s ws ended emptied h =
      let q : Request = request ws in
      let refused : Answer × State = (refused_with malformed, s) in
      let performed : Kind → Answer × State = λ kind. perform width kind s q in
      let tests : Bool = is_miscounted ws || is_malformed q.kind s q in
      if-holds (λ (o : Answer × State). P o.1) (tests || is_too_big width q) refused (performed q.kind) (λ e. h)
      (λ e.
      let comes : (kind : Kind) → q.kind ≡ kind → step width s ws ≡ performed kind =
      λ kind is. ap (λ (t : Bool). if t then refused else performed q.kind) e ∙ ap performed is
      in
      perform-keeps width q.kind s q (or-neither (is_miscounted ws) (is_malformed q.kind s q) (or-neither tests (is_too_big width q) e).0).1
      (λ end. ended end (comes EndCall end)) (λ empties. emptied empties (comes Empty empties)) h)

  -- a run that is never emptied
  pub run-keeps : ((s : State) (f : ℕ) → KeptByEnd P s f) → (r : RunState) (wss : List (List ℕ)) → NeverEmpties r wss → P r.state → P (final r wss).state
  unfolding final answers turn
  run-keeps ended r [] never h = h
  run-keeps ended r (ws ∷ wss) never h =
      run-keeps ended (turn r ws).1 wss (λ i. never (suc i))
      (step_keeps r.width r.state ws (λ end performed. ended r.state (request ws).fourth)
      (λ empties performed. absurd (never 0 empties (ap (λ (o : Answer × State). o.0) performed))) h)

-- ---- laws of an allocation
-- by all changes but a release. Where no allocation is, `no_allocation` stands, so that a new one comes in its place
pub record Kept (P : Allocation → Type 0) : Type 0 where
  pub allocated : (kind : AllocationKind) (len exponent address : ℕ) → P no_allocation → P (new_allocation kind len exponent address)
  pub accessed : (x : MemoryAccess) → IsAccess x → (a : Allocation) → visit_refusal (visit_of x a) a.nodes ≡ 0 → P a → P (after_access_in x a)
  pub deallocated : (p : ThinPointer) (a : Allocation) → visit_refusal (write_all p a) a.nodes ≡ 0 → P a → P (after_deallocate_in p a)
  pub reborrowed : (pointer : SafePointer) (protected : Protected) (mask : FreezeMask) (freeze : Bool) (p : ThinPointer) (a : Allocation)
      → (let w : ReborrowSettings = reborrow_settings pointer protected mask freeze in
      node_of p.provenance < node_count a → init_refusal (length a.nodes) (offset a p) w.inside (with_child w p a) ≡ 0 → P a → P (after_reborrow_in w p a))

-- by the release of a node
pub record KeptByRelease (P : Allocation → Type 0) : Type 0 where
  pub released : (n : ℕ) (a : Allocation) → release_refusal_in n a ≡ 0 → P a → P (after_release_in n a)

-- the visits of an accepted access and an accepted deallocation are not refused
access-visit : (x : MemoryAccess) (m : Memory) → eqb x.len 0 ≡ false → access_refusal x m ≡ 0
    → visit_refusal (visit_of x (target m x.pointer)) (target m x.pointer).nodes ≡ 0
unfolding access_refusal access_refusal_in
access-visit x m z e =
    let a : Allocation = target m x.pointer in
    let r4 : ℕ = never_made when names_never_made m x.pointer.provenance in
    let r6 : ℕ = misaligned when is_misaligned x.pointer.address x.exponent in
    let r7 : ℕ = check_ptr a x.pointer 0 x.len in
    let visit : ℕ = visit_refusal (visit_of x a) a.nodes in
    let last : ℕ = if eqb x.len 0 then 0 else visit in
    ap (λ (t : Bool). if t then 0 else visit) (sym z) ∙ or_right r7 last (or_right r6 (r7 or last) (or_right r4 (r6 or (r7 or last)) e))

deallocate-visit : (m : Memory) (p : ThinPointer) (kind : AllocationKind) (len exponent : ℕ) → deallocate_refusal m p kind len exponent ≡ 0
    → visit_refusal (write_all p (target m p)) (target m p).nodes ≡ 0
unfolding deallocate_refusal
deallocate-visit m p kind len exponent e =
    let a : Allocation = target m p in
    let r4 : ℕ = never_made when names_never_made m p.provenance in
    let r7 : ℕ = missing_provenance when has_none p.provenance in
    let r8 : ℕ = dead_allocation when not (is_live a.state) in
    let r10 : ℕ = away_from_start when not (eqb p.address a.address) in
    let r11 : ℕ = another_kind when not (eqb (kind_number kind) (kind_number a.kind)) in
    let r12 : ℕ = another_size when not (eqb len (size a)) in
    let r13 : ℕ = another_alignment when not (eqb exponent a.exponent) in
    let visit : ℕ = visit_refusal (write_all p a) a.nodes in
    let r24 : ℕ = strong_protector when any node_prevents_deallocation (visited (write_all p a) a.nodes) in
    let e13 = visit or r24 in
    let e12 = r13 or e13 in
    let e11 = r12 or e12 in
    let e10 = r11 or e11 in
    let e8 = r10 or e10 in
    let e7 = r8 or e8 in
    let e4 = r7 or e7 in
    or_left visit r24 (or_right r13 e13 (or_right r12 e12 (or_right r11 e11 (or_right r10 e10 (or_right r8 e8 (or_right r7 e7 (or_right r4 e4 e)))))))

module _ (P : Allocation → Type 0) (k : ℕ) where
  -- of allocation k
  abbrev pub InAllocation : State → Type 0
  InAllocation s = P (allocation_at s.memory k)

  pub in-allocation : Kept P → KeptByRequest InAllocation
  unfolding accept_allocate accept_access after_access accept_deallocate accept_reborrow
  in-allocation kept =
      record {
        allocated =
            λ kind len exponent address s h.
            append-holds P no_allocation s.memory (new_allocation kind len exponent address) k (λ i. kept.allocated kind len exponent address) h;
        accessed =
            λ x access s e h.
            let m : Memory = s.memory in
            let n : ℕ = allocation_of x.pointer.provenance in
            if-holds (λ (after : Memory). P (allocation_at after k)) (eqb x.len 0) m (mutate_at n (after_access_in x) m) (λ z. h)
            (λ z. mutate-holds P no_allocation (after_access_in x) m n k (λ i. kept.accessed x access (allocation_at m n) (access-visit x m z e)) h);
        deallocated =
            λ p kind len exponent s e h.
            let m : Memory = s.memory in
            let n : ℕ = allocation_of p.provenance in
            mutate-holds P no_allocation (after_deallocate_in p) m n k (λ i. kept.deallocated p (allocation_at m n) (deallocate-visit m p kind len exponent e)) h;
        reborrowed =
            λ pointer protected mask freeze frame p s passed parent h.
            let m : Memory = s.memory in
            let n : ℕ = allocation_of p.provenance in
            mutate-holds P no_allocation (after_reborrow_in (reborrow_settings pointer protected mask freeze) p) m n k
            (λ i. kept.reborrowed pointer protected mask freeze p (allocation_at m n) parent.node passed.reads) h;
        opened = λ f s o h. unfold new_call in h;
      }

  module _ (kept : KeptByRelease P) where
    pub release-keeps : (m : Memory) (e : Provenance) → release_refusal m e ≡ 0 → P (allocation_at m k) → P (allocation_at (after_release m e) k)
    unfolding release_refusal after_release
    release-keeps m e z h =
        mutate-holds P no_allocation (after_release_in e.node) m e.allocation k (λ i. kept.released e.node (allocation_at m e.allocation) z) h

    release-all-keeps : (es : List Provenance) (m : Memory) → release_all_refusal m es ≡ 0 → P (allocation_at m k) → P (allocation_at (after_release_all m es) k)
    unfolding release_all_refusal after_release_all
    release-all-keeps [] m z h = h
    release-all-keeps (e ∷ es) m z h =
        let first : ℕ = release_refusal m e in
        let later : ℕ = release_all_refusal (after_release m e) es in
        release-all-keeps es (after_release m e) (or_right first later z) (release-keeps m e (or_left first later z) h)

    pub ended-allocation : (s : State) (f : ℕ) → KeptByEnd InAllocation s f
    unfolding accept_end_call end_call_refusal
    ended-allocation s f e h =
        let es : List Provenance = entries (frame_at s f) in
        release-all-keeps es s.memory (or_right (never_made when any (λ t. not (was_made s.memory t)) es) (release_all_refusal s.memory es) e) h

-- ---- laws of the frames
pub record KeptFrames (P : List Frame → Type 0) : Type 0 where
  pub opened : (f : ℕ) (frames : List Frame) → is_open (get_or frames f Closed) ≡ false → P frames → P (set frames f (Open []))
  pub entered : (f : ℕ) (frames : List Frame) (e : Provenance) → P frames → P (set frames f (Open (entries (get_or frames f Closed) ++ (e ∷ []))))

pub in-frames : (P : List Frame → Type 0) → KeptFrames P → KeptByRequest (λ s. P s.frames)
unfolding accept_reborrow new_call
in-frames P kept =
    record {
      allocated = λ kind len exponent address s h. h;
      accessed = λ x access s e h. h;
      deallocated = λ p kind len exponent s e h. h;
      reborrowed =
          λ pointer protected mask freeze frame p s passed parent h.
          let child : Provenance = record { allocation = allocation_of p.provenance; node = length (target s.memory p).nodes } in
          if-holds P (is_yes protected) (set s.frames frame (Open (entries (frame_at s frame) ++ (child ∷ [])))) s.frames
          (λ y. kept.entered frame s.frames child h) (λ y. h);
      opened = λ f s o h. kept.opened f s.frames o h;
    }
