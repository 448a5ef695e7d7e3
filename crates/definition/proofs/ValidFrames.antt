-- What a new call, an end call and a retag leave of a state: its memory is well formed, and its frames have room and name what was made.
-- Of the state before, only its memory must be well formed: the frames may be a program's 32 or a single lent one.
use Rattle.std.specs.Prelude.{if◌then◌else◌}
use Prim.Native.Nat.{ℕ, ◌+◌, ◌<◌}
use mathlib.Core.Path.{◌≡◌, refl, sym, ap, ◌∙◌}
use mathlib.Core.Bool.{Bool, true, false, not, ◌&&◌, ◌||◌, false≢true}
use mathlib.Core.Option.{Option, none, some}
use mathlib.Core.List.{List, [], ◌∷◌, ◌++◌}
use native.Mathlib.Nat.{zero-add, one-mul}
use native.Mathlib.Omega.{arith}
use lib.Dec.{eqb, ltb}
use borrow.Author.Tests.{ltb-false}
use lib.ListN.{length, set, length-append, length-set}
use Rattle.definition.specs.Notation.{◌when◌, ◌or◌, mutate_at}
use Rattle.definition.specs.Refusal.{never_made, missing_provenance, dead_allocation, out_of_bounds, below_start, size_exceeded}
use Rattle.definition.specs.Permission.{is_yes}
use Rattle.definition.specs.Memory.{Provenance, ThinPointer, has_none, allocation_of, node_of, is_live, Allocation, size, Memory, no_allocation, allocation_at, target, offset, Answer, gives_pointer, names_never_made, was_made, is_outside, check_ptr, node_count, exceeds_bounds}
use Rattle.definition.specs.Frame.{Frame, entries, State, frame_at, in_memory, new_call, end_call_refusal, accept_end_call, end_call, after_release_all}
use Rattle.definition.specs.Frame.Frame.{Closed, Open}
use Rattle.definition.specs.Retag.{ReborrowSettings, with_child, init_refusal, after_init, is_below_start, of_node, entry_bound, exceeds_entries, reborrow_refusal, after_reborrow_in, accept_reborrow, reborrow, retag_without_node, retag}
use Rattle.definition.specs.Valid.{All, ValidAllocation, Valid, ValidFrame, ValidState}
use Rattle.definition.proofs.Booleans.{not-not-false, or-neither, or_left, or_right, when-none}
use Rattle.definition.proofs.Lists.{mutate-length}
use Rattle.definition.proofs.Alls.{if-holds, outcome-holds, all-imp, all_set, all_append, all_get_d}
use Rattle.definition.proofs.Places.{mutate-here}
use Rattle.definition.proofs.ValidTrees.{SettingsAgree, with_child-length, with_child-valid, init-valid, init-length}
use Rattle.definition.proofs.ValidMemory.{MemoryKept, same_kept, Made, was-made, is_made, Succeeds, changed-valid, mutated-kept, release-all-kept, room}

-- ---- a state after another
pub record StateKept (before after : State) : Type 0 where
  pub memory : MemoryKept before.memory after.memory
  pub count : length after.frames ≡ length before.frames
  pub frames : All (ValidFrame before.memory) before.frames → All (ValidFrame after.memory) after.frames

pub valid-after : (before after : State) → StateKept before after → ValidState before → ValidState after
valid-after before after k v = record { memory = k.memory.valid; count = k.count ∙ v.count; frames = k.frames v.frames }

pub unchanged : (s : State) → Valid s.memory → StateKept s s
unchanged s v = record { memory = same_kept s.memory v; count = refl; frames = λ h. h }

-- frames name what was made, which still is
frames-kept : (m m' : Memory) → MemoryKept m m' → (fs : List Frame) → All (ValidFrame m) fs → All (ValidFrame m') fs
frames-kept m m' k fs h =
    all-imp (ValidFrame m) (ValidFrame m')
    (λ f v. record { room = v.room; made = all-imp (λ e. was_made m e ≡ true) (λ e. was_made m' e ≡ true) k.made (entries f) v.made }) fs h

pub in-memory-kept : (s : State) (outcome : Answer × Memory) → MemoryKept s.memory outcome.1 → StateKept s (in_memory s outcome).1
in-memory-kept s outcome k = record { memory = k; count = refl; frames = frames-kept s.memory outcome.1 k s.frames }

-- ---- new call and end call
pub closed-valid : (m : Memory) → ValidFrame m Closed
closed-valid m = record { room = omega arith; made = tt }

pub new-call-kept : (f : ℕ) (s : State) → Valid s.memory → StateKept s (new_call f s).1
unfolding new_call
new-call-kept f s v =
    record {
      memory = same_kept s.memory v;
      count = length-set s.frames f (Open []);
      frames = λ h. all_set (ValidFrame s.memory) s.frames f (Open []) h (record { room = omega arith; made = tt });
    }

pub end-call-kept : (f : ℕ) (s : State) → Valid s.memory → StateKept s (end_call f s).1
unfolding end_call accept_end_call
end-call-kept f s v =
    let es : List Provenance = entries (frame_at s f) in
    let m' : Memory = after_release_all s.memory es in
    let k : MemoryKept s.memory m' = release-all-kept es s.memory v in
    outcome-holds (StateKept s) (end_call_refusal s.memory es) s (accept_end_call f s) (unchanged s v)
    (λ e.
    record {
      memory = k;
      count = length-set s.frames f Closed;
      frames = λ h. all_set (ValidFrame m') s.frames f Closed (frames-kept s.memory m' k s.frames h) (closed-valid m');
    })

-- ---- retag
module _ (w : ReborrowSettings) (p : ThinPointer) where
  reborrow-succeeds : (a : Allocation) → Succeeds 1 a (after_reborrow_in w p a)
  unfolding after_reborrow_in
  reborrow-succeeds a =
      record {
        address = refl;
        bytes = refl;
        live = λ e. e;
        nodes = init-length (length a.nodes) (offset a p) w.inside (with_child w p a) ∙ with_child-length w p a;
      }

  reborrow-valid : SettingsAgree w → (a : Allocation) → node_of p.provenance < node_count a → ValidAllocation a → ValidAllocation (after_reborrow_in w p a)
  unfolding after_reborrow_in
  reborrow-valid agree a h v =
      changed-valid 1 a a.state a.words (after_init (length a.nodes) (offset a p) w.inside (with_child w p a)) (reborrow-succeeds a) v.words
      (init-valid (length a.nodes) (offset a p) w.inside (size a) (is_live a.state) (with_child w p a) (with_child-valid w p a agree (is_live a.state) h v.nodes)) v

-- what an accepted retag passed
module _ (w : ReborrowSettings) (frame : ℕ) (p : ThinPointer) (s : State) where
  pub record Passed : Type 0 where
    pub known : names_never_made s.memory p.provenance ≡ false
    pub in_bounds : check_ptr (target s.memory p) p 0 (length w.inside) ≡ 0
    pub node : exceeds_bounds s.memory (of_node (target s.memory p)) ≡ false
    pub entry : exceeds_entries w frame s ≡ false
    pub reads : init_refusal (length (target s.memory p).nodes) (offset (target s.memory p) p) w.inside (with_child w p (target s.memory p)) ≡ 0

  pub passed : reborrow_refusal w frame p s ≡ 0 → Passed
  unfolding reborrow_refusal
  passed e =
      let a : Allocation = target s.memory p in
      let unknown : Bool = names_never_made s.memory p.provenance in
      let too_much : Bool = exceeds_bounds s.memory (of_node a) || exceeds_entries w frame s in
      let r4 : ℕ = never_made when unknown in
      let r9 : ℕ = check_ptr a p 0 (length w.inside) in
      let r14 : ℕ = below_start when is_below_start w p a in
      let r15 : ℕ = size_exceeded when too_much in
      let r17 : ℕ = init_refusal (length a.nodes) (offset a p) w.inside (with_child w p a) in
      let from9 : (r9 or r14 or r15 or r17) ≡ 0 = or_right r4 (r9 or r14 or r15 or r17) e in
      let from15 : (r15 or r17) ≡ 0 = or_right r14 (r15 or r17) (or_right r9 (r14 or r15 or r17) from9) in
      let fits = or-neither (exceeds_bounds s.memory (of_node a)) (exceeds_entries w frame s) (when-none 14 too_much (or_left r15 r17 from15)) in
      record {
        known = when-none 3 unknown (or_left r4 (r9 or r14 or r15 or r17) e);
        in_bounds = or_left r9 (r14 or r15 or r17) from9;
        node = fits.0;
        entry = fits.1;
        reads = or_right r15 r17 from15;
      }

-- an accepted retag has provenance, which was made, unless it is one of zero length without
length-or-provenance : (is_zero is_none : Bool) (rest : ℕ) → (if is_zero then 0 else (missing_provenance when is_none or rest)) ≡ 0 → is_none && is_zero ≡ false → is_none ≡ false
length-or-provenance is_zero false rest e h = refl
length-or-provenance true true rest e h = h
length-or-provenance false true rest e h = absurd (omega arith)

pub has-provenance : (a : Allocation) (p : ThinPointer) (len : ℕ) → check_ptr a p 0 len ≡ 0 → has_none p.provenance && eqb len 0 ≡ false → has_none p.provenance ≡ false
unfolding check_ptr
has-provenance a p len e h =
    length-or-provenance (eqb len 0) (has_none p.provenance) (dead_allocation when not (is_live a.state) or out_of_bounds when is_outside a p 0 len) (rw zero-add at e) h

pub named-made : (m : Memory) (o : Option Provenance) → names_never_made m o ≡ false → has_none o ≡ false → Made m (record { allocation = allocation_of o; node = node_of o })
named-made m none u h = absurd (false≢true (sym h))
named-made m (some t) u h = was-made m t (not-not-false (was_made m t) u)

module _ (w : ReborrowSettings) (agree : SettingsAgree w) (frame : ℕ) (p : ThinPointer) (s : State) (v : Valid s.memory) where
  abbrev n : ℕ
  n = allocation_of p.provenance

  abbrev m : Memory
  m = s.memory

  abbrev m' : Memory
  m' = mutate_at n (after_reborrow_in w p) m

  abbrev child : Provenance
  child = record { allocation = n; node = node_count (allocation_at m n) }

  module _ (parent : Made m (record { allocation = n; node = node_of p.provenance })) (h : Passed w frame p s) where
    reborrow-memory : MemoryKept m m'
    reborrow-memory =
        let r = room m (of_node (target m p)) h.node in
        mutated-kept 1 (after_reborrow_in w p) (reborrow-succeeds w p) n m r.nodes (omega (arith, r.codes, one-mul (size (allocation_at m n))))
        (λ b. reborrow-valid w p agree (allocation_at m n) parent.node) v

    child-made : was_made m' child ≡ true
    child-made =
        is_made m' child
        (record {
          allocation = omega (arith, mutate-length n (after_reborrow_in w p) m, parent.allocation);
          node =
              omega (
                arith,
                ap node_count (mutate-here (after_reborrow_in w p) no_allocation m n parent.allocation),
                (reborrow-succeeds w p (allocation_at m n)).nodes,
              );
        })

    entered : is_yes w.protected ≡ true → All (ValidFrame m) s.frames → ValidFrame m' (Open (entries (frame_at s frame) ++ (child ∷ [])))
    entered e fs =
        let es : List Provenance = entries (frame_at s frame) in
        let old : ValidFrame m' (frame_at s frame) = all_get_d (ValidFrame m') s.frames frame Closed (frames-kept m m' reborrow-memory s.frames fs) (closed-valid m') in
        let fits : ltb entry_bound (length es + 1) ≡ false = ap (λ (b : Bool). b && ltb entry_bound (length es + 1)) (sym e) ∙ h.entry in
        record {
          room = omega (arith, ltb-false entry_bound (length es + 1) fits, length-append es (child ∷ []));
          made = all_append (λ t. was_made m' t ≡ true) es (child ∷ []) old.made (child-made, tt);
        }

    accept-kept : StateKept s (accept_reborrow w frame p s).1
    unfolding accept_reborrow
    accept-kept =
        let longer : List Frame = set s.frames frame (Open (entries (frame_at s frame) ++ (child ∷ []))) in
        let b : Bool = is_yes w.protected in
        record {
          memory = reborrow-memory;
          count =
              if-holds (λ fs. length fs ≡ length s.frames) b longer s.frames
              (λ e. length-set s.frames frame (Open (entries (frame_at s frame) ++ (child ∷ [])))) (λ e. refl);
          frames =
              λ fs.
              let still = frames-kept m m' reborrow-memory s.frames fs in
              if-holds (All (ValidFrame m')) b longer s.frames
              (λ e. all_set (ValidFrame m') s.frames frame (Open (entries (frame_at s frame) ++ (child ∷ []))) still (entered e fs)) (λ e. still);
        }

  reborrow-kept : has_none p.provenance && eqb (length w.inside) 0 ≡ false → StateKept s (reborrow w frame p s).1
  unfolding reborrow
  reborrow-kept z =
      outcome-holds (StateKept s) (reborrow_refusal w frame p s) s (accept_reborrow w frame p s) (unchanged s v)
      (λ e.
      let h : Passed w frame p s = passed w frame p s e in
      accept-kept (named-made m p.provenance h.known (has-provenance (target m p) p (length w.inside) h.in_bounds z)) h)

pub retag-without-node-kept : (p : ThinPointer) (s : State) → Valid s.memory → StateKept s (retag_without_node p s).1
unfolding retag_without_node
retag-without-node-kept p s v =
    outcome-holds (StateKept s) (never_made when names_never_made s.memory p.provenance) s (gives_pointer p.provenance, s) (unchanged s v) (λ e. unchanged s v)

pub retag-kept : (w : ReborrowSettings) → SettingsAgree w → (frame : ℕ) (p : ThinPointer) (s : State) → Valid s.memory → StateKept s (retag w frame p s).1
unfolding retag
retag-kept w agree frame p s v =
    if-holds (λ (o : Answer × State). StateKept s o.1) (has_none p.provenance && eqb (length w.inside) 0) (retag_without_node p s) (reborrow w frame p s)
    (λ e. retag-without-node-kept p s v) (λ e. reborrow-kept w agree frame p s v e)

-- of the memory alone
pub valid-retag : (w : ReborrowSettings) → SettingsAgree w → (frame : ℕ) (p : ThinPointer) (s : State) → Valid s.memory → Valid (retag w frame p s).1.memory
valid-retag w agree frame p s v = (retag-kept w agree frame p s v).memory.valid
