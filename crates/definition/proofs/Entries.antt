-- A node stands among the frames' entries once at most, and only while it has its protector (`EnteredOnce`): a retag enters the node that it makes, and nothing
-- but its own release takes a node's protector. Every request keeps this, in any state (`entered-kept`, `entered-ended`).
-- And an entry of a frame stays until the frame's call is ended (`run-lists`).
use Rattle.std.specs.Prelude.{if◌then◌else◌}
use Prim.Native.Nat.{ℕ, suc, ◌+◌, ◌≤◌, ◌<◌}
use mathlib.Core.Path.{◌≡◌, refl, sym, ap, ap₂, ◌∙◌}
use mathlib.Core.Bool.{Bool, true, false, not, ◌||◌, false≢true}
use mathlib.Core.List.{List, [], ◌∷◌, ◌++◌}
use native.Mathlib.Omega.{arith}
use lib.Dec.{eqb}
use borrow.Author.Tests.{eq-eqb, eqb-true}
use lib.ListN.{length, get_or, set, get_or-eq_default}
use lib.Seq.{get_or-append_seam}
use Rattle.definition.specs.Notation.{mutate_at, any, sum_of}
use Rattle.definition.specs.Width.{Width}
use Rattle.definition.specs.Permission.{Protected, SafePointer, is_protected, is_yes}
use Rattle.definition.specs.Tree.{Node, no_node, node_at}
use Rattle.definition.specs.Layout.{FreezeMask}
use Rattle.definition.specs.Memory.{Allocation, Memory, no_allocation, allocation_at, offset, Provenance, ThinPointer, allocation_of, node_of, Answer, accepted, unless_refused, was_made, accept_allocate, accept_access, accept_deallocate}
use Rattle.definition.specs.Frame.{Frame, State, frame_at, is_open, entries, new_call, lacks_protector, after_release_in, after_release, after_release_all, accept_end_call, end_call}
use Rattle.definition.specs.Frame.Frame.{Closed, Open}
use Rattle.definition.specs.Retag.{ReborrowSettings, reborrow_settings, child_node, with_child, after_reborrow_in, frames_after, accept_reborrow}
use Rattle.definition.specs.Request.{request}
use Rattle.definition.specs.Request.Kind.{Empty}
use Rattle.definition.specs.Run.{step, RunState, turn, answers, final}
use Rattle.definition.specs.Valid.{All, ValidFrame}
use Rattle.definition.specs.SharedArguments.{is_same, IsEntered, AsksToEnd, NeverEnds, NeverEmpties}
use Rattle.definition.proofs.Booleans.{and_left, and_right}
use Rattle.definition.proofs.Any.{none_any, any-more}
use Rattle.definition.proofs.Counts.{sum-append, sum-set}
use Rattle.definition.proofs.Alls.{if-holds, all-imp}
use Rattle.definition.proofs.Places.{mutate-here, mutate-holds, set_holds}
use Rattle.definition.proofs.ValidTrees.{settings-agree, child-valid}
use Rattle.definition.proofs.Changes.{KeptByRequest, KeptByEnd, InAllocation, KeptFrames, in-allocation, in-frames, step_keeps}
use Rattle.definition.proofs.Protectors.{HasProtector, init-lacks, released-lacks, protector-kept}

-- ---- how often a node stands among entries
same-is : (e t : Provenance) → is_same e t ≡ true → e ≡ t
same-is e t h =
    let first : Bool = eqb e.allocation t.allocation in
    let second : Bool = eqb e.node t.node in
    ap₂ {C = Provenance} (λ (i j : ℕ). record { allocation = i; node = j }) (eqb-true e.allocation t.allocation (and_left first second h)) (eqb-true e.node t.node (and_right first second h))

pub same-itself : (t : Provenance) → is_same t t ≡ true
same-itself t = rw (eq-eqb t.allocation t.allocation refl, eq-eqb t.node t.node refl)

different-nodes : (e t : Provenance) → is_same e t ≡ false → t.allocation ≡ e.allocation → t.node ≡ e.node → ⊥
different-nodes e t d i j = false≢true (sym d ∙ rw (eq-eqb e.allocation t.allocation (sym i), eq-eqb e.node t.node (sym j)))

-- in a list, and in all frames
abbrev pub entry_count : Provenance → List Provenance → ℕ
entry_count e es = sum_of (λ t. if is_same e t then 1 else 0) es

abbrev pub entered_count : Provenance → List Frame → ℕ
entered_count e frames = sum_of (λ f. entry_count e (entries f)) frames

pub entry_here : (e : Provenance) (es : List Provenance) → entry_count e (e ∷ es) ≡ suc (entry_count e es)
unfolding sum_of
entry_here e es = rw (same-itself e) (omega arith)

entry_more : (e t : Provenance) (es : List Provenance) → entry_count e es ≤ entry_count e (t ∷ es)
unfolding sum_of
entry_more e t es = omega arith

entry-last : (e t : Provenance) (es : List Provenance) (b : Bool) → is_same e t ≡ b → entry_count e (es ++ (t ∷ [])) ≡ entry_count e es + (if b then 1 else 0)
unfolding sum_of
entry-last e t es b d = sum-append (λ t. if is_same e t then 1 else 0) es (t ∷ []) ∙ rw d (omega arith)

pub each-entry : (Q : Provenance → Type 0) (es : List Provenance) → ((e : Provenance) → 0 < entry_count e es → Q e) → All Q es
each-entry Q [] h = tt
each-entry Q (t ∷ es) h = (h t (omega (arith, entry_here t es)), each-entry Q es (λ e l. h e (omega (arith, entry_more e t es))))

-- one frame replaced
pub frame-replaced : (e : Provenance) (frames : List Frame) (f : ℕ) (x : Frame)
    → entered_count e (set frames f x) + entry_count e (entries (get_or frames f Closed)) ≤ entered_count e frames + entry_count e (entries x)
unfolding sum_of
frame-replaced e frames f x = sum-set (λ f. entry_count e (entries f)) Closed refl frames f x

-- ---- the bound: as often as the node has its protector, once or not at all
abbrev pub HasAt : Memory → Provenance → Type 0
HasAt m e = HasProtector e.node (allocation_at m e.allocation)

abbrev pub protectors : Memory → Provenance → ℕ
protectors m e = if lacks_protector (node_at (allocation_at m e.allocation).nodes e.node) then 0 else 1

abbrev pub EnteredOnce : Provenance → State → Type 0
EnteredOnce e s = entered_count e s.frames ≤ protectors s.memory e

protector-le : (a b : Bool) → (a ≡ false → b ≡ false) → (if a then 0 else 1) ≤ (if b then 0 else 1)
protector-le true b h = omega arith
protector-le false true h = absurd (false≢true (sym (h refl)))
protector-le false false h = omega arith

protectors-le : (m m' : Memory) (e : Provenance) → (HasAt m e → HasAt m' e) → protectors m e ≤ protectors m' e
protectors-le m m' e h =
    protector-le (lacks_protector (node_at (allocation_at m e.allocation).nodes e.node)) (lacks_protector (node_at (allocation_at m' e.allocation).nodes e.node)) h

pub has_one : (m : Memory) (e : Provenance) → 0 < protectors m e → HasAt m e
has_one m e l = go (lacks_protector (node_at (allocation_at m e.allocation).nodes e.node)) l
  where
    go : (a : Bool) → 0 < (if a then 0 else 1) → a ≡ false
    go true l = absurd (omega arith)
    go false l = refl

at_most_one : (m : Memory) (e : Provenance) → protectors m e ≤ 1
at_most_one m e = go (lacks_protector (node_at (allocation_at m e.allocation).nodes e.node))
  where
    go : (a : Bool) → (if a then 0 else 1) ≤ 1
    go true = omega arith
    go false = omega arith

-- ---- a release: what else is entered still has its protector
other-kept : (m : Memory) (e t : Provenance) → is_same e t ≡ false → HasAt m e → HasAt (after_release m t) e
unfolding after_release after_release_in
other-kept m e t d h =
    mutate-holds (HasProtector e.node) no_allocation (after_release_in t.node) m t.allocation e.allocation
    (λ i k. released-lacks (allocation_at m t.allocation).state t.node (allocation_at m t.allocation).nodes e.node (different-nodes e t d i) ∙ k) h

-- of the entries to release the first, where `rest` more of them stand in other frames
pub release-first : (e : Provenance) (rest : ℕ) (m : Memory) (t : Provenance) (es : List Provenance) → entry_count e (t ∷ es) + rest ≤ protectors m e
    → entry_count e es + rest ≤ protectors (after_release m t) e
unfolding sum_of
release-first e rest m t es h = go (is_same e t) refl h
  where
    go : (b : Bool) → is_same e t ≡ b → ((if b then 1 else 0) + entry_count e es) + rest ≤ protectors m e → entry_count e es + rest ≤ protectors (after_release m t) e
    go true d l = omega (arith, at_most_one m e)
    go false d l = omega (arith, protectors-le m (after_release m t) e (other-kept m e t d))

release-all-entered : (e : Provenance) (rest : ℕ) (es : List Provenance) (m : Memory) → entry_count e es + rest ≤ protectors m e → rest ≤ protectors (after_release_all m es) e
unfolding after_release_all
release-all-entered e rest [] m h = omega arith
release-all-entered e rest (t ∷ es) m h = release-all-entered e rest es (after_release m t) (release-first e rest m t es h)

-- ---- a retag: the new node is entered in no frame before, and has its protector after
module _ (pointer : SafePointer) (protected : Protected) (mask : FreezeMask) (freeze : Bool) (frame : ℕ) (p : ThinPointer) (s : State) where
  abbrev w : ReborrowSettings
  w = reborrow_settings pointer protected mask freeze

  abbrev m : Memory
  m = s.memory

  abbrev n : ℕ
  n = allocation_of p.provenance

  abbrev a : Allocation
  a = allocation_at m n

  abbrev m' : Memory
  m' = mutate_at n (after_reborrow_in w p) m

  abbrev child : Provenance
  child = record { allocation = n; node = length a.nodes }

  abbrev longer : List Frame
  longer = set s.frames frame (Open (entries (frame_at s frame) ++ (child ∷ [])))

  none_before : protectors m child ≡ 0
  none_before = ap (λ (x : Node). if lacks_protector x then 0 else 1) (get_or-eq_default a.nodes no_node {n = length a.nodes} (omega arith))

  child-protected : is_yes protected ≡ true → lacks_protector (child_node w p a) ≡ false
  unfolding child_node
  child-protected y =
      let x : Node = child_node w p a in
      let marked : All (λ q. is_protected q ≡ is_yes protected) x.permissions = (child-valid w p a (settings-agree pointer protected mask freeze) true (suc (node_of p.provenance)) (omega arith)).marked refl in
      ap₂ ◌||◌ (ap not y)
      (none_any (λ q. not (is_protected q)) x.permissions (all-imp (λ q. is_protected q ≡ is_yes protected) (λ q. not (is_protected q) ≡ false) (λ q h. ap not (h ∙ y)) x.permissions marked))

  one-after : is_yes protected ≡ true → n < length m → protectors m' child ≡ 1
  unfolding after_reborrow_in with_child
  one-after y l =
      ap (λ (b : Bool). if b then 0 else 1)
      (ap (λ (x : Allocation). lacks_protector (node_at x.nodes (length a.nodes))) (mutate-here (after_reborrow_in w p) no_allocation m n l)
      ∙ init-lacks (length a.nodes) (offset a p) w.inside (with_child w p a) (length a.nodes)
      ∙ ap lacks_protector (get_or-append_seam a.nodes (child_node w p a) [] no_node) ∙ child-protected y)

  module _ (e : Provenance) (made : n < length m) (k : HasAt m e → HasAt m' e) (h : EnteredOnce e s) where
    child-entered : is_yes protected ≡ true → entered_count e longer ≤ protectors m' e
    child-entered y = go (is_same e child) refl
      where
        es : List Provenance
        es = entries (frame_at s frame)

        at_most : entered_count e longer + entry_count e es ≤ entered_count e s.frames + entry_count e (es ++ (child ∷ []))
        at_most = frame-replaced e s.frames frame (Open (es ++ (child ∷ [])))

        go : (b : Bool) → is_same e child ≡ b → entered_count e longer ≤ protectors m' e
        go true d =
            let q : e ≡ child = same-is e child d in
            omega (arith, h, at_most, entry-last e child es true d, ap (protectors m) q ∙ none_before, ap (protectors m') q ∙ one-after y made)
        go false d = omega (arith, h, at_most, entry-last e child es false d, protectors-le m m' e k)

    retag-entered : entered_count e (frames_after w frame child s) ≤ protectors m' e
    retag-entered =
        if-holds (λ frames. entered_count e frames ≤ protectors m' e) (is_yes protected) longer s.frames child-entered (λ y. omega (arith, h, protectors-le m m' e k))

-- ---- every request
module _ (e : Provenance) where
  -- a request to the memory alone
  grown : (s : State) (m' : Memory) → (HasAt s.memory e → HasAt m' e) → EnteredOnce e s → entered_count e s.frames ≤ protectors m' e
  grown s m' k h = omega (arith, h, protectors-le s.memory m' e k)

  has_kept : KeptByRequest (InAllocation (HasProtector e.node) e.allocation)
  has_kept = in-allocation (HasProtector e.node) e.allocation (protector-kept e.node)

  pub entered-kept : KeptByRequest (EnteredOnce e)
  unfolding accept_reborrow new_call sum_of
  entered-kept =
      record {
        allocated =
            λ kind len exponent address s h.
            grown s (accept_allocate kind len exponent address s.memory).1 (has_kept.allocated kind len exponent address s) h;
        accessed = λ x access s z h. grown s (accept_access x s.memory).1 (has_kept.accessed x access s z) h;
        deallocated = λ p kind len exponent s z h. grown s (accept_deallocate p s.memory).1 (has_kept.deallocated p kind len exponent s z) h;
        reborrowed =
            λ pointer protected mask freeze frame p s passed parent h.
            retag-entered pointer protected mask freeze frame p s e parent.allocation
            (has_kept.reborrowed pointer protected mask freeze frame p s passed parent) h;
        opened = λ f s o h. omega (arith, h, frame-replaced e s.frames f (Open []));
      }

  pub entered-ended : (s : State) (f : ℕ) → KeptByEnd (EnteredOnce e) s f
  unfolding accept_end_call sum_of
  entered-ended s f z h =
      release-all-entered e (entered_count e (set s.frames f Closed)) (entries (frame_at s f)) s.memory (omega (arith, h, frame-replaced e s.frames f Closed))

-- what is entered has its protector
counted : (e : Provenance) (es : List Provenance) → any (is_same e) es ≡ true → 0 < entry_count e es
unfolding any sum_of
counted e [] h = absurd (false≢true h)
counted e (t ∷ es) h = go (is_same e t) h (counted e es)
  where
    go : (b : Bool) → (if b then true else any (is_same e) es) ≡ true → (any (is_same e) es ≡ true → 0 < entry_count e es) → 0 < (if b then 1 else 0) + entry_count e es
    go true h k = omega arith
    go false h k = omega (arith, k h)

pub entered-protected : (e : Provenance) (s : State) → EnteredOnce e s → IsEntered e s → HasProtector e.node (allocation_at s.memory e.allocation)
unfolding sum_of
entered-protected e s h i =
    has_one s.memory e (omega (arith, h, frame-replaced e s.frames i.frame Closed, counted e (entries (frame_at s i.frame)) i.entered))

-- ---- an entry of frame f stays there until an end call of f is accepted
module _ (e : Provenance) (f : ℕ) where
  abbrev Lists : Frame → Type 0
  Lists x = any (is_same e) (entries x) ≡ true

  closed-lists-none : (x : Frame) → is_open x ≡ false → Lists x → ⊥
  unfolding any
  closed-lists-none Closed o h = absurd (false≢true h)
  closed-lists-none (Open es) o h = absurd (false≢true (sym o))

  lists-more : (es : List Provenance) (t : Provenance) → Lists (Open es) → Lists (Open (es ++ (t ∷ [])))
  lists-more es t h = any-more (is_same e) es t ∙ go (is_same e t)
    where
      go : (b : Bool) → (if b then true else any (is_same e) es) ≡ true
      go true = refl
      go false = h

  lists-kept : KeptFrames (λ frames. Lists (get_or frames f Closed))
  lists-kept =
      record {
        opened = λ k frames o. set_holds Lists Closed frames k (Open []) f (λ i h. absurd (closed-lists-none (get_or frames k Closed) o h));
        entered =
            λ k frames t.
            let es : List Provenance = entries (get_or frames k Closed) in
            set_holds Lists Closed frames k (Open (es ++ (t ∷ []))) f (λ i h. lists-more es t h);
      }

  step-lists : (w : Width) (s : State) (ws : List ℕ) → (AsksToEnd f ws → (step w s ws).0 ≡ accepted → ⊥) → ((request ws).kind ≡ Empty → (step w s ws).0 ≡ accepted → ⊥)
      → Lists (frame_at s f) → Lists (frame_at (step w s ws).1 f)
  unfolding end_call accept_end_call
  step-lists w s ws never unemptied =
      let g : ℕ = (request ws).fourth in
      step_keeps (λ s. Lists (frame_at s f)) (in-frames (λ frames. Lists (get_or frames f Closed)) lists-kept) w s ws
      (λ end performed unrefused.
      let answer : (step w s ws).0 ≡ accepted =
      ap (λ (o : Answer × State). o.0) performed ∙ ap (λ (r : ℕ). (unless_refused r s (accept_end_call g s)).0) unrefused
      in
      set_holds Lists Closed s.frames g Closed f (λ i h. absurd (never (record { kind = end; frame = i }) answer)))
      (λ empties performed. absurd (unemptied empties (ap (λ (o : Answer × State). o.0) performed)))

  pub run-lists : (r : RunState) (wss : List (List ℕ)) → NeverEmpties r wss → NeverEnds f r wss → any (is_same e) (entries (frame_at r.state f)) ≡ true
      → any (is_same e) (entries (frame_at (final r wss).state f)) ≡ true
  unfolding answers final turn
  run-lists r [] unemptied never h = h
  run-lists r (ws ∷ wss) unemptied never h =
      run-lists (turn r ws).1 wss (λ i. unemptied (suc i)) (λ i. never (suc i)) (step-lists r.width r.state ws (never 0) (unemptied 0) h)

-- ---- a node that is not made yet is in no frame of a well-formed state
module _ (m : Memory) (e : Provenance) (unmade : was_made m e ≡ false) where
  no-entry : (es : List Provenance) → All (λ t. was_made m t ≡ true) es → entry_count e es ≡ 0
  unfolding sum_of
  no-entry [] h = refl
  no-entry (t ∷ es) h = go (is_same e t) refl (no-entry es h.1)
    where
      go : (b : Bool) → is_same e t ≡ b → entry_count e es ≡ 0 → (if b then 1 else 0) + entry_count e es ≡ 0
      go true d z = absurd (false≢true (sym unmade ∙ ap (was_made m) (same-is e t d) ∙ h.0))
      go false d z = omega arith

  pub in-no-frame : (frames : List Frame) → All (ValidFrame m) frames → entered_count e frames ≡ 0
  unfolding sum_of
  in-no-frame [] h = refl
  in-no-frame (f ∷ frames) h = omega (arith, no-entry (entries f) h.0.made, in-no-frame frames h.1)
