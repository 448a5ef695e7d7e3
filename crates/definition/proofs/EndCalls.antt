-- Ending a call is never refused (M-109; specs/EndCalls). An end call releases the entries of its frame one after another. Each release is accepted: the
-- entry has its protector, as it stands among all entries once (Entries), and the accesses at the protector's end are accepted in its tree (Releases).
-- Both hold of the empty memory, and every request keeps them (`Sound`).
use Rattle.std.specs.Prelude.{if◌then◌else◌}
use Prim.Native.Nat.{ℕ, zero, suc, ◌+◌, ◌≤◌, ◌<◌}
use mathlib.Core.Path.{◌≡◌, refl, sym, ap, ap₂, ◌∙◌}
use mathlib.Core.Bool.{Bool, true, false, not, false≢true}
use mathlib.Core.Logic.{inl, inr}
use mathlib.Core.Option.{none}
use mathlib.Core.List.{List, [], ◌∷◌, ◌++◌}
use native.Mathlib.Decide.{dec_lt}
use native.Mathlib.Omega.{arith}
use borrow.Author.Tests.{lt-ltb}
use lib.ListN.{length, get_or, replicate, set, length-set, get_or-eq_default}
use Rattle.definition.specs.Notation.{◌when◌, ◌or◌, any, sum_of}
use Rattle.definition.specs.Refusal.{malformed, never_made, not_protected}
use Rattle.definition.specs.Width.{Width}
use Rattle.definition.specs.Width.Width.{Bits16, Bits32, Bits64}
use Rattle.definition.specs.Permission.{PermissionUnprot, Protected, end_access}
use Rattle.definition.specs.Permission.Permission.{Unprot}
use Rattle.definition.specs.Tree.{node_at}
use Rattle.definition.specs.Memory.{Allocation, Memory, allocation_at, offset, Provenance, refused_with, accepted, was_made, visit_of, write_all, after_access_in, after_deallocate_in, new_allocation}
use Rattle.definition.specs.Frame.{Frame, State, frame_count, frame_at, is_open, entries, empty, lacks_protector, release_visit_refusal, release_refusal_in, release_refusal, after_release_in, after_release, release_all_refusal, end_call_refusal, accept_end_call, end_call}
use Rattle.definition.specs.Frame.Frame.{Closed, Open}
use Rattle.definition.specs.Retag.{ReborrowSettings, reborrow_settings, with_child, after_reborrow_in}
use Rattle.definition.specs.Request.{request, following_length, is_miscounted, is_malformed, is_too_big}
use Rattle.definition.specs.Request.Kind.{Allocate, EndCall}
use Rattle.definition.specs.Run.{perform, is_refused, step, RunState, start, turn, answers, final}
use Rattle.definition.specs.EndCalls.{end_call_words, EndCallsAccepted, Blameless, EndCallsBlameless}
use Rattle.definition.proofs.Booleans.{or_right}
use Rattle.definition.proofs.Any.{none_any}
use Rattle.definition.proofs.Alls.{all_get_d, all_replicate}
use Rattle.definition.proofs.Rows.{permission_at}
use Rattle.definition.proofs.Releases.{Releasable, visited-releasable, release-accepted, released-releasable, with_child-releasable, init-releasable, no-end-releasable}
use Rattle.definition.proofs.ValidMemory.{is_made}
use Rattle.definition.proofs.Changes.{Kept, KeptByRelease, KeptFrames, InAllocation, in-allocation, ended-allocation, release-keeps, in-frames, step_keeps}
use Rattle.definition.proofs.Protectors.{has-node, has-allocation}
use Rattle.definition.proofs.Entries.{entry_count, entered_count, protectors, HasAt, has_one, entry_here, each-entry, frame-replaced, EnteredOnce, release-first, entered-kept, entered-ended}

-- ---- every allocation's tree: requests keep that the end of any protector in it is accepted
abbrev HasReleasable : Allocation → Type 0
HasReleasable a = Releasable a.nodes

releasable-kept : Kept HasReleasable
unfolding new_allocation after_access_in after_deallocate_in after_reborrow_in
releasable-kept =
    record {
      allocated = λ kind len exponent address h. no-end-releasable _ (record { root = refl; earlier = λ j z l. absurd (omega arith) }) (root len);
      accessed = λ x access a e h. visited-releasable (visit_of x a) tt a.nodes e h;
      deallocated = λ p a e h. visited-releasable (write_all p a) tt a.nodes e h;
      reborrowed =
          λ pointer protected mask freeze p a l e h.
          let w : ReborrowSettings = reborrow_settings pointer protected mask freeze in
          init-releasable (length a.nodes) (offset a p) w.inside (with_child w p a) e (with_child-releasable pointer protected mask freeze p a l h);
    }
  where
    root : (len n b : ℕ) → end_access (permission_at (record { parent = 0; protected = Protected.No; permissions = replicate len (Unprot PermissionUnprot.Unique) } ∷ []) n b) ≡ none
    root len zero b = all_get_d (λ p. end_access p ≡ none) (replicate len (Unprot PermissionUnprot.Unique)) b (Unprot PermissionUnprot.Cell) (all_replicate (λ p. end_access p ≡ none) len (Unprot PermissionUnprot.Unique) refl) refl
    root len (suc n) b = refl

releasable-released : KeptByRelease HasReleasable
unfolding release_refusal_in after_release_in
releasable-released =
    record {
      released =
          λ n a e h.
          released-releasable a.state n a.nodes (or_right (not_protected when lacks_protector (node_at a.nodes n)) (release_visit_refusal a.state n a.nodes) e) h;
    }

-- ---- releases, one after another: nothing is refused
unrefused : (m : Memory) (t : Provenance) → HasReleasable (allocation_at m t.allocation) → HasAt m t → release_refusal m t ≡ 0
unfolding release_refusal release_refusal_in
unrefused m t f h =
    let a : Allocation = allocation_at m t.allocation in
    ap₂ ◌or◌ (ap (λ (b : Bool). not_protected when b) h) (release-accepted a.state t.node a.nodes f)

-- the frames have `rest e` more of each node e
release-all : (rest : Provenance → ℕ) (es : List Provenance) (m : Memory) → ((k : ℕ) → HasReleasable (allocation_at m k)) → ((e : Provenance) → entry_count e es + rest e ≤ protectors m e)
    → release_all_refusal m es ≡ 0
unfolding release_all_refusal
release-all rest [] m f h = refl
release-all rest (t ∷ es) m f h =
    let first : release_refusal m t ≡ 0 = unrefused m t (f t.allocation) (has_one m t (omega (arith, h t, entry_here t es))) in
    ap₂ ◌or◌ first
    (release-all rest es (after_release m t) (λ k. release-keeps HasReleasable k releasable-released m t first (f k)) (λ e. release-first e (rest e) m t es (h e)))

-- ---- what every request keeps of a state, and what makes its end calls accepted
pub record Sound (s : State) : Type 0 where
  -- there are 32 frames, so that an open one has a number that a request can name
  pub count : length s.frames ≡ frame_count
  -- in each allocation's tree the end of any node's protector is accepted
  pub releases : (k : ℕ) → Releasable (allocation_at s.memory k).nodes
  -- what the frames' entries name has its protector, and is entered once
  pub entered : (e : Provenance) → EnteredOnce e s

module _ (s : State) (sound : Sound s) (f : ℕ) where
  abbrev es : List Provenance
  es = entries (frame_at s f)

  abbrev others : Provenance → ℕ
  others e = entered_count e (set s.frames f Closed)

  all-entered : (e : Provenance) → entry_count e es + others e ≤ protectors s.memory e
  unfolding sum_of
  all-entered e = omega (arith, frame-replaced e s.frames f Closed, sound.entered e)

  made : (e : Provenance) → 0 < entry_count e es → not (was_made s.memory e) ≡ false
  made e l =
      let h : HasAt s.memory e = has_one s.memory e (omega (arith, all-entered e)) in
      ap not (is_made s.memory e (record { allocation = has-allocation s.memory e.allocation e.node h; node = has-node e.node (allocation_at s.memory e.allocation) h }))

  pub end-call-unrefused : end_call_refusal s.memory (entries (frame_at s f)) ≡ 0
  unfolding end_call_refusal
  end-call-unrefused =
      ap₂ ◌or◌ (ap (λ (b : Bool). never_made when b) (none_any (λ e. not (was_made s.memory e)) es (each-entry (λ e. not (was_made s.memory e) ≡ false) es made)))
      (release-all others es s.memory sound.releases all-entered)

-- ---- every run
none-entered : (e : Provenance) (k : ℕ) → entered_count e (replicate k Closed) ≡ 0
unfolding sum_of
none-entered e zero = refl
none-entered e (suc k) = omega (arith, none-entered e k)

pub empty-sound : Sound empty
empty-sound =
    record {
      count = refl;
      releases = λ k. no-end-releasable [] (record { root = refl; earlier = λ j z l. absurd (omega arith) }) (λ n b. refl);
      entered = λ e. omega (arith, none-entered e frame_count);
    }

abbrev Counted : List Frame → Type 0
Counted frames = length frames ≡ frame_count

set-counted : (f : ℕ) (x : Frame) (frames : List Frame) → Counted frames → Counted (set frames f x)
set-counted f x frames h = length-set frames f x ∙ h

counted-kept : KeptFrames Counted
counted-kept =
    record {
      opened = λ f frames o. set-counted f (Open []) frames;
      entered = λ f frames e. set-counted f (Open (entries (get_or frames f Closed) ++ (e ∷ []))) frames;
    }

pub step-sound : (w : Width) (s : State) (ws : List ℕ) → Sound s → Sound (step w s ws).1
unfolding accept_end_call
step-sound w s ws h =
    let f : ℕ = (request ws).fourth in
    record {
      count = step_keeps (λ s. Counted s.frames) (in-frames Counted counted-kept) w s ws (λ end performed e. set-counted f Closed s.frames) (λ empties performed. empty-sound.count) h.count;
      releases =
          λ k.
          step_keeps (InAllocation HasReleasable k) (in-allocation HasReleasable k releasable-kept) w s ws
          (λ end performed. ended-allocation HasReleasable k releasable-released s f) (λ empties performed. empty-sound.releases k)
          (h.releases k);
      entered =
          λ e.
          step_keeps (EnteredOnce e) (entered-kept e) w s ws (λ end performed. entered-ended e s f) (λ empties performed. empty-sound.entered e)
          (h.entered e);
    }

pub run_sound : (r : RunState) (wss : List (List ℕ)) → Sound r.state → Sound (final r wss).state
unfolding final turn
run_sound r [] h = h
run_sound r (ws ∷ wss) h = run_sound (turn r ws).1 wss (step-sound r.width r.state ws h)

-- ---- an end call by its words
pub open-frame : (frames : List Frame) (f : ℕ) → is_open (get_or frames f Closed) ≡ true → f < length frames
open-frame frames f o = elim (dec_lt f (length frames)) [ yes l ↦ l | no l ↦ absurd (false≢true (ap is_open (sym (get_or-eq_default frames Closed {n = f} (omega arith))) ∙ o)) ]

-- its address is 0, and it stores nothing
end-call-fits : (w : Width) (f : ℕ) → is_too_big w (request (end_call_words f)) ≡ false
unfolding is_too_big request any
end-call-fits Bits16 f = refl
end-call-fits Bits32 f = refl
end-call-fits Bits64 f = refl

sound-accepted : (r : RunState) → Sound r.state → EndCallsAccepted r
unfolding turn step request is_miscounted following_length is_malformed perform end_call accept_end_call
sound-accepted r h f o =
    let s : State = r.state in
    rw (lt-ltb f 32 (omega (arith, open-frame s.frames f o, h.count)), o, end-call-fits r.width f, end-call-unrefused s h f)

turn-blameless : (r : RunState) → Sound r.state → (ws : List ℕ) → (request ws).kind ≡ EndCall → Blameless (turn r ws).0
unfolding turn step perform end_call accept_end_call
turn-blameless r h ws k = go (is_refused r.width r.state ws)
  where
    performed : (perform r.width (request ws).kind r.state (request ws)).0 ≡ accepted
    performed = rw (k, end-call-unrefused r.state h (request ws).fourth)

    go : (t : Bool) → Blameless (if t then (refused_with malformed, r.state) else perform r.width (request ws).kind r.state (request ws)).0
    go true = inr refl
    go false = inl performed

-- no words are no end call
no_words : (request []).kind ≡ EndCall → ⊥
unfolding request
no_words k =
    let wrong : Allocate ≡ EndCall = k in
    let z : ◌≡◌ {A = ℕ} 0 1 = cc in
    omega arith

sound-blameless : (r : RunState) → Sound r.state → (wss : List (List ℕ)) → EndCallsBlameless r wss
unfolding answers turn
sound-blameless r h [] i k = absurd (no_words k)
sound-blameless r h (ws ∷ wss) zero k = turn-blameless r h ws k
sound-blameless r h (ws ∷ wss) (suc i) k = sound-blameless (turn r ws).1 (step-sound r.width r.state ws h) wss i k

-- ---- M-109
pub end-calls-accepted : (wss : List (List ℕ)) → EndCallsAccepted (final start wss)
end-calls-accepted wss = sound-accepted (final start wss) (run_sound start wss empty-sound)

pub end-calls-blameless : (wss : List (List ℕ)) → EndCallsBlameless start wss
end-calls-blameless wss = sound-blameless start empty-sound wss
