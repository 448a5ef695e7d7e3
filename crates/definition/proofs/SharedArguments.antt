-- A shared argument stays put (M-113; specs/SharedArguments). Its retag makes a protected node that is Frozen at a freeze byte inside, and reads the byte through
-- it. So the byte is held as long as the node has its protector (Held), and it has that as long as it is entered in a frame (Entries).
use Rattle.std.specs.Prelude.{if◌then◌else◌}
use Prim.Native.Nat.{ℕ, zero, suc, ◌+◌, ◌<◌}
use mathlib.Core.Path.{◌≡◌, refl, sym, ap, ap₂, subst, ◌∙◌}
use mathlib.Core.Bool.{Bool, true, false, not, ◌&&◌, ◌||◌, and-false, false≢true}
use mathlib.Core.Option.{Option, some}
use mathlib.Core.List.{List, [], ◌∷◌, ◌++◌, map}
use native.Mathlib.Decide.{dec_lt}
use native.Mathlib.Omega.{arith}
use lib.Dec.{eqb, ltb}
use borrow.Author.Tests.{ne_eqb, le-ltb}
use lib.ListN.{length, get_or, set, replicate, length-map, length-replicate, get_or-eq_default, get_or-map}
use lib.Seq.{get_or-append_seam, get_or-set_same}
use Rattle.definition.specs.Notation.{any}
use Rattle.definition.specs.Refusal.{malformed}
use Rattle.definition.specs.Width.{Width}
use Rattle.definition.specs.Permission.{AccessKind, PermissionUnprot, PermissionProt, Permission, Protected, SafePointer, next, next_by, is_yes, init_access}
use Rattle.definition.specs.Permission.AccessKind.{Read}
use Rattle.definition.specs.Permission.NodeRelation.{Local, Foreign}
use Rattle.definition.specs.Permission.LocalRead.{no_local_read}
use Rattle.definition.specs.Permission.Permission.{Unprot, Prot}
use Rattle.definition.specs.Permission.Protected.{No}
use Rattle.definition.specs.Permission.SafePointer.{SharedRef, MutableRef, Box}
use Rattle.definition.specs.Tree.{Node, no_node, parents, relation}
use Rattle.definition.specs.Layout.{FreezeMask, freeze_mask}
use Rattle.definition.specs.Memory.{Allocation, size, Memory, no_allocation, allocation_at, target, offset, Provenance, ThinPointer, has_none, allocation_of, Answer, named_pointer, refused_with, unless_refused, was_made}
use Rattle.definition.specs.Frame.{Frame, State, frame_at, is_open, entries}
use Rattle.definition.specs.Frame.Frame.{Closed, Open}
use Rattle.definition.specs.Retag.{ReborrowSettings, start_perm, child_node, with_child, reborrow_refusal, after_reborrow_in, accept_reborrow, reborrow, retag_without_node, retag}
use Rattle.definition.specs.Request.{Kind, Request, request, pointer, function_entry, unpin, freeze, frame_number, is_pinned, safe_pointer, entry_protector, protector_of, settings_of, is_miscounted, is_malformed, is_too_big, stray_name, nonzero, bit, bad_settings, bad_metadata, bad_retag}
use Rattle.definition.specs.Request.Kind.{Retag}
use Rattle.definition.specs.Run.{retag_with_mask, perform_retag, perform, is_refused, step, RunState, start, turn, final}
use Rattle.definition.specs.Valid.{Valid, ValidState}
use Rattle.definition.specs.SharedArguments.{SharedArgument, StaysPut, is_same, IsEntered, NeverEnds, NeverEmpties, SharedArgumentStays}
use Rattle.definition.proofs.Booleans.{or-neither, not-not-false}
use Rattle.definition.proofs.Any.{any-more}
use Rattle.definition.proofs.Alls.{not-refused}
use Rattle.definition.proofs.Writes.{within-write}
use Rattle.definition.proofs.Places.{valid-at, mutate-here, map_at}
use Rattle.definition.proofs.Trees.{Parents, above-itself, valid-tree}
use Rattle.definition.proofs.Rows.{row_at, permission_at, visited-at}
use Rattle.definition.proofs.Ranges.{accesses_from, list-places}
use Rattle.definition.proofs.Leaves.{appended-tree}
use Rattle.definition.proofs.Retags.{reads_visit, reads-at-once}
use Rattle.definition.proofs.Accesses.{InBounds, in_bounds_lem}
use Rattle.definition.proofs.ValidMemory.{Made}
use Rattle.definition.proofs.ValidFrames.{Passed, passed, named-made, has-provenance}
use Rattle.definition.proofs.ValidTrees.{with_child-length, init-length}
use Rattle.definition.proofs.Changes.{parent_of, InAllocation, in-allocation, ended-allocation, run-keeps}
use Rattle.definition.proofs.Entries.{same-itself, EnteredOnce, entered-kept, entered-ended, entered-protected, run-lists, in-no-frame}
use Rattle.definition.proofs.EndCalls.{Sound, empty-sound, run_sound, open-frame}
use Rattle.definition.proofs.Held.{frozen, Held, HeldWhileProtected, init-tree, held_kept, held-released}

-- ---- the words
abbrev is_shared : SafePointer → Bool
is_shared SharedRef = true
is_shared MutableRef = false
is_shared Box = false

-- of the safe pointers, extra 0 is the shared reference
shared-extra : (extra : ℕ) → get_or (SharedRef ∷ MutableRef ∷ Box ∷ []) extra Box ≡ SharedRef → extra ≡ 0
shared-extra zero e = refl
shared-extra (suc zero) e = absurd (false≢true (ap is_shared e))
shared-extra (suc (suc zero)) e = absurd (false≢true (ap is_shared e))
shared-extra (suc (suc (suc n))) e = absurd (false≢true (ap is_shared e))

not-malformed : (bad : Bool) (s : State) (o : Answer × State) → (if bad then (refused_with malformed, s) else o).0.refusal ≡ 0 → bad ≡ false
not-malformed true s o e = absurd (omega arith)
not-malformed false s o e = refl

-- the node that a retag of pointer p makes
abbrev new_node : Memory → ThinPointer → Provenance
new_node m p = record { allocation = allocation_of p.provenance; node = length (target m p).nodes }

-- ---- the retag
module _ (r : RunState) (ws : List ℕ) (arg : SharedArgument r ws) where
  abbrev s : State
  s = r.state

  abbrev width : Width
  width = r.width

  abbrev q : Request
  q = request ws

  abbrev p : ThinPointer
  p = pointer q

  abbrev m : Memory
  m = s.memory

  abbrev n : ℕ
  n = allocation_of p.provenance

  abbrev a : Allocation
  a = target m p

  abbrev mask : FreezeMask
  mask = arg.mask

  abbrev f : ℕ
  f = frame_number q

  abbrev w : ReborrowSettings
  w = settings_of q mask

  abbrev b : ℕ
  b = offset a p + arg.place

  abbrev child : Provenance
  child = new_node m p

  -- there is a byte inside
  many : length w.inside ≡ length mask
  many = length-map mask (start_perm (safe_pointer q) (protector_of q))

  some_bytes : length w.inside ≡ 0 → ⊥
  some_bytes e = absurd (omega (arith, arg.inside, many))

  not-empty : has_none p.provenance && eqb (length w.inside) 0 ≡ false
  not-empty = ap (λ (t : Bool). has_none p.provenance && t) (ne_eqb (length w.inside) 0 some_bytes) ∙ and-false (has_none p.provenance)

  -- ---- so its words come to a reborrow
  extra : q.extra ≡ 0
  extra = shared-extra q.extra arg.shared

  protector : protector_of q ≡ entry_protector SharedRef
  protector = ap₂ {C = Protected} (λ (x : SafePointer) (t : Bool). if t then entry_protector x else No) arg.shared arg.at_entry

  passes : is_refused width s ws ≡ false
  unfolding turn step
  passes = not-malformed (is_refused width s ws) s (perform width q.kind s q) (ap (λ (x : Answer). x.refusal) arg.accept)

  well-formed : is_miscounted ws || is_malformed q.kind s q ≡ false
  well-formed = (or-neither (is_miscounted ws || is_malformed q.kind s q) (is_too_big width q) passes).0

  is-reborrow : step width s ws ≡ reborrow w f p s
  unfolding step perform perform_retag retag_with_mask retag
  is-reborrow =
      ap (λ (t : Bool). if t then (refused_with malformed, s) else perform width q.kind s q) passes
      ∙ ap (λ (k : Kind). perform width k s q) arg.retag
      ∙ ap (λ (t : Bool). if t then retag_without_node p s else retag_with_mask (freeze_mask q.following) s q) (ap (λ (k : ℕ). not (ltb k 3) || (eqb k 1 && not (unpin q))) extra)
      ∙ ap (λ (o : Option FreezeMask). retag_with_mask o s q) arg.masked
      ∙ ap (λ (t : Bool). if t then retag_without_node p s else reborrow w f p s) not-empty

  unrefused : reborrow_refusal w f p s ≡ 0
  unfolding reborrow turn
  unrefused =
      not-refused (reborrow_refusal w f p s) s (accept_reborrow w f p s)
      (ap (λ (o : Answer × State). o.0.refusal) (sym is-reborrow) ∙ ap (λ (x : Answer). x.refusal) arg.accept)

  is-accepted : step width s ws ≡ accept_reborrow w f p s
  unfolding reborrow
  is-accepted = is-reborrow ∙ ap (λ (r : ℕ). unless_refused r s (accept_reborrow w f p s)) unrefused

  made-is : child ≡ arg.made
  unfolding accept_reborrow turn
  made-is =
      let e : some child ≡ some arg.made = ap (λ (o : Answer × State). named_pointer o.0.names) (sym is-accepted) ∙ ap (λ (x : Answer). named_pointer x.names) arg.accept in
      cc

  tests : Passed w f p s
  tests = passed w f p s unrefused

  parent : Made m (parent_of p)
  parent = named-made m p.provenance tests.known (has-provenance a p (length w.inside) tests.in_bounds not-empty)

  lies : InBounds a p (length w.inside)
  lies = in_bounds_lem a p (length w.inside) some_bytes tests.in_bounds

  within : b < size a
  within = omega (arith, arg.inside, many, lies.start, lies.end)

  -- ---- the node is entered in its frame
  frame-open : is_open (frame_at s f) ≡ true
  unfolding is_malformed bad_retag bad_settings
  frame-open =
      let fine : is_malformed Retag s q ≡ false = ap (λ (k : Kind). is_malformed k s q) (sym arg.retag) ∙ (or-neither (is_miscounted ws) (is_malformed q.kind s q) well-formed).1 in
      let settings : Bool = bad_settings s q in
      let metadata : Bool = not (is_pinned q) && bad_metadata q.following in
      let fields : bad_retag s q ≡ false = (or-neither (stray_name q || nonzero q.exponent || ltb 5 q.extra) (bad_retag s q) fine).1 in
      let both : settings || metadata ≡ false = ap (λ (k : ℕ). if ltb k 3 then settings || metadata else nonzero q.fourth) (sym extra) ∙ fields in
      let unopened : Bool = not (is_open (frame_at s f)) in
      let frame : (if function_entry q then unopened else nonzero f) ≡ false =
      (or-neither (bit 28 q.fourth) (if function_entry q then unopened else nonzero f) (or-neither settings metadata both).0).1
      in
      not-not-false (is_open (frame_at s f)) (ap (λ (t : Bool). if t then unopened else nonzero f) (sym arg.at_entry) ∙ frame)

  child-entered : any (is_same child) (entries (frame_at (step width s ws).1 f)) ≡ true
  unfolding accept_reborrow
  child-entered =
      let es : List Provenance = entries (frame_at s f) in
      let longer : Frame = Open (es ++ (child ∷ [])) in
      ap (λ (o : Answer × State). any (is_same child) (entries (frame_at o.1 f))) is-accepted
      ∙ ap (λ (x : Protected). any (is_same child) (entries (get_or (if is_yes x then set s.frames f longer else s.frames) f Closed))) protector
      ∙ ap (λ (x : Frame). any (is_same child) (entries x)) (get_or-set_same s.frames f longer Closed (open-frame s.frames f frame-open))
      ∙ any-more (is_same child) es child
      ∙ ap (λ (t : Bool). if t then true else any (is_same child) es) (same-itself child)

  -- ---- it starts Frozen at the byte, and reads it
  abbrev family : List Node
  family = with_child w p a

  starts : get_or w.inside arg.place (Unprot PermissionUnprot.Cell) ≡ Prot (PermissionProt.Frozen no_local_read)
  starts =
      map_at (start_perm (safe_pointer q) (protector_of q)) false (Unprot PermissionUnprot.Cell) mask arg.place arg.inside
      ∙ ap₂ {C = Permission} (λ (x : SafePointer) (g : Protected). start_perm x g (get_or mask arg.place false)) arg.shared protector
      ∙ ap (λ (t : Bool). start_perm SharedRef (entry_protector SharedRef) t) arg.freeze

  starts-at : permission_at family (length a.nodes) b ≡ Prot (PermissionProt.Frozen no_local_read)
  unfolding with_child child_node
  starts-at =
      ap (λ (x : Node). row_at x.permissions b) (get_or-append_seam a.nodes (child_node w p a) [] no_node)
      ∙ within-write (offset a p) w.inside (replicate (size a) w.outside) arg.place (Unprot PermissionUnprot.Cell)
      (omega (arith, arg.inside, many)) (omega (arith, within, length-replicate (size a) w.outside))
      ∙ starts

  reads_at : accesses_from (offset a p) (map init_access w.inside) b ≡ some Read
  reads_at =
      (list-places (offset a p) (map init_access w.inside)).at arg.place
      ∙ get_or-map init_access w.inside arg.place (Unprot PermissionUnprot.Cell)
      ∙ ap init_access starts

  child-frozen : permission_at (after_reborrow_in w p a).nodes (length a.nodes) b ≡ frozen
  unfolding after_reborrow_in relation next
  child-frozen =
      let child : ℕ = length a.nodes in
      let reads = reads_visit child (offset a p) w.inside in
      ap (λ (nodes : List Node). permission_at nodes child b) (reads-at-once child (offset a p) w.inside family)
      ∙ visited-at reads family child b
      ∙ ap₂ (λ (x : Option AccessKind) (start : Permission). next_by x (relation (parents family) child child) start) reads_at starts-at
      ∙ ap (λ (above : Bool). next Read (if above then Local else Foreign) (Prot (PermissionProt.Frozen no_local_read))) (above-itself (parents family) child)

  -- ---- so the byte is held
  abbrev word : ℕ
  word = get_or a.words b 0

  held : Held (length a.nodes) b word (after_reborrow_in w p a)
  unfolding after_reborrow_in
  held = record { live = lies.live; within = within; permission = child-frozen; contents = refl }

  module _ (tree : Parents (parents a.nodes)) (once : EnteredOnce child s) where
    -- in the state that the retag leaves
    after-held : HeldWhileProtected (length a.nodes) b word (after_reborrow_in w p a)
    unfolding after_reborrow_in with_child child_node
    after-held =
        record {
          tree = init-tree (length a.nodes) (offset a p) w.inside family (appended-tree a.nodes (child_node w p a) parent.node tree);
          made = omega (arith, init-length (length a.nodes) (offset a p) w.inside family, with_child-length w p a);
          held = λ protected. held;
        }

    after-at : allocation_at (step width s ws).1.memory n ≡ after_reborrow_in w p a
    unfolding accept_reborrow
    after-at = ap (λ (o : Answer × State). allocation_at o.1.memory n) is-accepted ∙ mutate-here (after_reborrow_in w p) no_allocation m n parent.allocation

    after-once : EnteredOnce child (step width s ws).1
    after-once =
        subst (λ (o : Answer × State). EnteredOnce child o.1) (sym is-accepted)
        ((entered-kept child).reborrowed (safe_pointer q) (protector_of q) mask (freeze q) f p s tests parent once)

    -- and in every later one in which the node is entered
    module _ (wss : List (List ℕ)) (unemptied : NeverEmpties (turn r ws).1 wss) where
      abbrev end : State
      end = (final (turn r ws).1 wss).state

      end-held : IsEntered child end → Held (length a.nodes) b word (allocation_at end.memory n)
      unfolding turn
      end-held entered =
          let k : ℕ = length a.nodes in
          let P : Allocation → Type 0 = HeldWhileProtected k b word in
          (run-keeps (InAllocation P n) (in-allocation P n (held_kept k b word)) (ended-allocation P n (held-released k b word)) (turn r ws).1 wss unemptied
          (subst P (sym after-at) after-held)).held
          (entered-protected child end (run-keeps (EnteredOnce child) (entered-kept child) (entered-ended child) (turn r ws).1 wss unemptied after-once) entered)

      stays_put : IsEntered arg.made end → StaysPut arg.made.allocation b s end
      stays_put =
          subst (λ (t : Provenance). IsEntered t end → StaysPut t.allocation b s end) made-is
          (λ entered. let h = end-held entered in record { live = h.live; within = h.within; contents = h.contents })

      still-entered : NeverEnds f (turn r ws).1 wss → IsEntered arg.made end
      unfolding turn
      still-entered never =
          subst (λ (t : Provenance). IsEntered t end) made-is
          (record { frame = f; entered = run-lists child f (turn r ws).1 wss unemptied never child-entered })

-- ---- M-113
-- in a state whose trees are trees, and whose frames do not have the new node yet
argument-stays : (r : RunState) (ws : List ℕ) (wss : List (List ℕ)) → ((k : ℕ) → Parents (parents (allocation_at r.state.memory k).nodes))
    → ((p : ThinPointer) → EnteredOnce (new_node r.state.memory p) r.state) → SharedArgumentStays r ws wss
unfolding final
argument-stays r ws wss trees once =
    let p : ThinPointer = pointer (request ws) in
    let tree = trees (allocation_of p.provenance) in
    record {
      while_entered = λ x unemptied. stays_put r ws x tree (once p) wss unemptied;
      during_call = λ x unemptied never. stays_put r ws x tree (once p) wss unemptied (still-entered r ws x tree (once p) wss unemptied never);
    }

-- that is, in whatever a list of requests leaves of the empty memory
pub shared-argument-stays : (before : List (List ℕ)) (ws : List ℕ) (wss : List (List ℕ)) → SharedArgumentStays (final start before) ws wss
shared-argument-stays before ws wss =
    let r : RunState = final start before in
    let sound : Sound r.state = run_sound start before empty-sound in
    argument-stays r ws wss (λ k. (sound.releases k).tree) (λ p. sound.entered (new_node r.state.memory p))

-- and in every well-formed state
valid-trees : (m : Memory) → Valid m → (k : ℕ) → Parents (parents (allocation_at m k).nodes)
valid-trees m v k =
    elim (dec_lt k (length m)) [
      | yes l ↦ valid-tree (allocation_at m k) (valid-at m k v l)
      | no l ↦
          subst (λ (a : Allocation). Parents (parents a.nodes)) (sym (get_or-eq_default m no_allocation {n = k} (omega arith)))
          (record { root = refl; earlier = λ j z i. absurd (omega arith) })
    ]

not-yet-made : (m : Memory) (p : ThinPointer) → was_made m (new_node m p) ≡ false
not-yet-made m p =
    let nodes : List Node = (target m p).nodes in
    let known : Bool = ltb (allocation_of p.provenance) (length m) in
    ap (λ (t : Bool). known && t) (le-ltb (length nodes) (length nodes) (omega arith)) ∙ and-false known

pub valid-argument-stays : (r : RunState) → ValidState r.state → (ws : List ℕ) (wss : List (List ℕ)) → SharedArgumentStays r ws wss
valid-argument-stays r v ws wss =
    let s : State = r.state in
    argument-stays r ws wss (valid-trees s.memory v.memory)
    (λ p. omega (arith, in-no-frame s.memory (new_node s.memory p) (not-yet-made s.memory p) s.frames v.frames))
