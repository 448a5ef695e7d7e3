-- What a load, a store, an allocation, a deallocation and a release leave of a well-formed memory is well formed, and what was made is still made.
-- All but an allocation change one allocation, which stays where it is: of that alone something is to be shown.
use Prim.Native.Nat.{ℕ, zero, suc, ◌+◌, ◌-◌, ◌*◌, ◌^◌, ◌≤◌, ◌<◌}
use mathlib.Core.Path.{◌≡◌, refl, sym, ap₂, subst, ◌∙◌}
use mathlib.Core.Bool.{Bool, true, false, not, ◌&&◌, ◌||◌, false≢true}
use mathlib.Core.List.{List, [], ◌∷◌, ◌++◌}
use native.Mathlib.Nat.{add-zero, add-mul, zero-mul, one-mul}
use native.Mathlib.Omega.{arith}
use lib.Dec.{eqb, leb, ltb}
use borrow.Author.Tests.{ltb-true, lt-ltb, ltb-false, leb-true, eqb-false, not-true}
use lib.ListN.{length, length-append, length-replicate, get_or-append}
use Rattle.definition.specs.Notation.{◌when◌, mutate_at, write_at, any, sum_of}
use Rattle.definition.specs.Refusal.{fails_pick, size_exceeded}
use Rattle.definition.specs.Width.{Width, addresses}
use Rattle.definition.specs.Width.Width.{Bits16, Bits32, Bits64}
use Rattle.definition.specs.Permission.{is_protected}
use Rattle.definition.specs.Permission.Permission.{Unprot}
use Rattle.definition.specs.Permission.PermissionUnprot.{Unique}
use Rattle.definition.specs.Tree.{Node, Visit, visited}
use Rattle.definition.specs.Memory.{Provenance, ThinPointer, allocation_of, Liveness, is_live, AllocationKind, Allocation, size, changed, Memory, no_allocation, allocation_at, offset, was_made, MemoryAccess, visit_of, is_misaligned, access_refusal, after_access_in, after_access, accept_access, perform_access, ranges_overlap, overlaps, is_pickable, Sizes, bounds, node_count, code_count, exceeds_bounds, of_allocation, new_allocation, allocate_refusal, accept_allocate, allocate, write_all, deallocate_refusal, after_deallocate_in, accept_deallocate, deallocate}
use Rattle.definition.specs.Memory.Liveness.{Dead}
use Rattle.definition.specs.Frame.{released_nodes, after_release_in, after_release, after_release_all}
use Rattle.definition.specs.Request.{bad_byte}
use Rattle.definition.specs.Valid.{All, ValidByte, ValidAllocation, Separate, Valid}
use Rattle.definition.proofs.Booleans.{and_left, and_right, not-not-false, or-neither, or_left, or_right, when-none}
use Rattle.definition.proofs.Lists.{mutate-length}
use Rattle.definition.proofs.Writes.{write-length}
use Rattle.definition.proofs.Counts.{sum-append}
use Rattle.definition.proofs.Alls.{if-holds, outcome-holds, all-imp, all-mutate, all_append, all-write, all_replicate, none_pass, mutated-least, sum-mutated}
use Rattle.definition.proofs.Visits.{visited-length}
use Rattle.definition.proofs.ValidTrees.{ValidNodes, visited-valid, dead-valid, released-valid, released-length}

-- ---- a memory after another: well formed, and all that was made still is
pub record MemoryKept (before after : Memory) : Type 0 where
  pub valid : Valid after
  pub made : (e : Provenance) → was_made before e ≡ true → was_made after e ≡ true

pub same_kept : (m : Memory) → Valid m → MemoryKept m m
same_kept m v = record { valid = v; made = λ e h. h }

then-kept : (l m n : Memory) → MemoryKept l m → MemoryKept m n → MemoryKept l n
then-kept l m n g h = record { valid = h.valid; made = λ e p. h.made e (g.made e p) }

-- what it means that a provenance was made
pub record Made (m : Memory) (t : Provenance) : Type 0 where
  pub allocation : t.allocation < length m
  pub node : t.node < node_count (allocation_at m t.allocation)

pub was-made : (m : Memory) (t : Provenance) → was_made m t ≡ true → Made m t
was-made m t h =
    let known : Bool = ltb t.allocation (length m) in
    let in_tree : Bool = ltb t.node (node_count (allocation_at m t.allocation)) in
    record {
      allocation = ltb-true t.allocation (length m) (and_left known in_tree h);
      node = ltb-true t.node (node_count (allocation_at m t.allocation)) (and_right known in_tree h);
    }

pub is_made : (m : Memory) (t : Provenance) → Made m t → was_made m t ≡ true
is_made m t h = rw (lt-ltb t.allocation (length m) h.allocation, lt-ltb t.node (node_count (allocation_at m t.allocation)) h.node)

-- ---- an allocation after another: it is where it was, live only if it was, with so many nodes more
pub record Succeeds (more : ℕ) (before after : Allocation) : Type 0 where
  pub address : after.address ≡ before.address
  pub bytes : size after ≡ size before
  pub live : is_live after.state ≡ true → is_live before.state ≡ true
  pub nodes : node_count after ≡ node_count before + more

pub changed-valid : (more : ℕ) (a : Allocation) (state : Liveness) (words : List ℕ) (nodes : List Node) → Succeeds more a (changed a state words nodes)
    → All ValidByte words → ValidNodes (size a) (is_live state) nodes → ValidAllocation a → ValidAllocation (changed a state words nodes)
changed-valid more a state words nodes s w n v =
    record {
      exponent = v.exponent;
      positive = v.positive;
      aligned = v.aligned;
      in_space = subst (λ (k : ℕ). a.address + k < 2 ^ 64) (sym s.bytes) v.in_space;
      words = w;
      root = omega arith;
      nodes = subst (λ (k : ℕ). ValidNodes k (is_live state) nodes) (sym s.bytes) n;
    }

-- ---- one allocation of a memory changed
and-false : (p q y z : Bool) → (q ≡ true → p ≡ true) → z ≡ y → p && y ≡ false → q && z ≡ false
and-false p false y z h e k = refl
and-false true true y z h e k = e ∙ k
and-false false true y z h e k = absurd (false≢true (h refl))

module _ (more : ℕ) (f : Allocation → Allocation) (s : (a : Allocation) → Succeeds more a (f a)) where
  overlaps-kept : (address len : ℕ) (a : Allocation) → overlaps address len a ≡ false → overlaps address len (f a) ≡ false
  overlaps-kept address len a h =
      and-false (is_live a.state) (is_live (f a).state) (ranges_overlap a.address (size a) address len) (ranges_overlap (f a).address (size (f a)) address len) (s a).live
      (ap₂ (λ (i j : ℕ). ranges_overlap i j address len) (s a).address (s a).bytes) h

  separate-kept : (n : ℕ) (m : Memory) → Separate m → Separate (mutate_at n f m)
  unfolding mutate_at
  separate-kept n [] h = tt
  separate-kept zero (a ∷ m) h = (
    all-imp (λ b. is_live b.state ≡ true → overlaps b.address (size b) a ≡ false) (λ b. is_live b.state ≡ true → overlaps b.address (size b) (f a) ≡ false)
        (λ b k l. overlaps-kept b.address (size b) a (k l)) m h.0,
    h.1,
  )
  separate-kept (suc n) (a ∷ m) h = (
    all-mutate (λ b. is_live b.state ≡ true → overlaps b.address (size b) a ≡ false) f no_allocation n m
        (λ i k l. let b : Allocation = allocation_at m n in ap₂ (λ (i j : ℕ). overlaps i j a) (s b).address (s b).bytes ∙ k ((s b).live l)) h.0,
    separate-kept n m h.1,
  )

  made_kept : (n : ℕ) (m : Memory) (e : Provenance) → was_made m e ≡ true → was_made (mutate_at n f m) e ≡ true
  made_kept n m e h =
      let old : Made m e = was-made m e h in
      is_made (mutate_at n f m) e
      (record {
        allocation = omega (arith, mutate-length n f m);
        node = omega (arith, mutated-least f no_allocation node_count (λ a. omega (arith, (s a).nodes)) n e.allocation m);
      })

  more-codes : (a : Allocation) → code_count (f a) ≡ code_count a + more * size a
  more-codes a = ap₂ ◌*◌ (s a).nodes (s a).bytes ∙ add-mul (node_count a) more (size a)

  -- there must be room for what is added, and the one allocation must stay well formed
  pub mutated-kept : (n : ℕ) (m : Memory) → sum_of node_count m + more ≤ bounds.nodes → sum_of code_count m + more * size (allocation_at m n) ≤ bounds.codes
      → (n < length m → ValidAllocation (allocation_at m n) → ValidAllocation (f (allocation_at m n))) → Valid m → MemoryKept m (mutate_at n f m)
  mutated-kept n m nodes_room codes_room h v =
      let a : Allocation = allocation_at m n in
      record {
        valid =
            record {
              each = all-mutate ValidAllocation f no_allocation n m h v.each;
              separate = separate-kept n m v.separate;
              bounded =
                  record {
                    allocations = omega (arith, mutate-length n f m, v.bounded.allocations);
                    words = omega (arith, sum-mutated f no_allocation size 0 n m (omega (arith, (s a).bytes)), v.bounded.words);
                    nodes = omega (arith, sum-mutated f no_allocation node_count more n m (omega (arith, (s a).nodes)));
                    codes = omega (arith, sum-mutated f no_allocation code_count (more * size a) n m (omega (arith, more-codes a)));
                  };
            };
        made = made_kept n m;
      }

-- without new nodes there is room
pub same-nodes-kept : (f : Allocation → Allocation) → ((a : Allocation) → Succeeds 0 a (f a)) → ((a : Allocation) → ValidAllocation a → ValidAllocation (f a))
    → (n : ℕ) (m : Memory) → Valid m → MemoryKept m (mutate_at n f m)
same-nodes-kept f s h n m v =
    mutated-kept 0 f s n m (omega (arith, v.bounded.nodes)) (omega (arith, v.bounded.codes, zero-mul (size (allocation_at m n)))) (λ b. h (allocation_at m n)) v

-- ---- load and store
module _ (x : MemoryAccess) where
  access-succeeds : (a : Allocation) → Succeeds 0 a (after_access_in x a)
  unfolding after_access_in
  access-succeeds a =
      record {
        address = refl;
        bytes = write-length (offset a x.pointer) x.bytes a.words;
        live = λ e. e;
        nodes = visited-length (visit_of x a) a.nodes ∙ sym (add-zero (node_count a));
      }

  access-valid : All ValidByte x.bytes → (a : Allocation) → ValidAllocation a → ValidAllocation (after_access_in x a)
  unfolding after_access_in
  access-valid b a v =
      let visit : Visit = visit_of x a in
      changed-valid 0 a a.state (write_at (offset a x.pointer) x.bytes a.words) (visited visit a.nodes) (access-succeeds a)
      (all-write ValidByte (offset a x.pointer) x.bytes a.words b v.words)
      (visited-valid visit (size a) (is_live a.state) a.nodes v.nodes) v

  pub load-store-kept : All ValidByte x.bytes → (m : Memory) → Valid m → MemoryKept m (perform_access x m).1
  unfolding perform_access accept_access after_access
  load-store-kept b m v =
      let n : ℕ = allocation_of x.pointer.provenance in
      outcome-holds (MemoryKept m) (access_refusal x m) m (accept_access x m) (same_kept m v)
      (λ e.
      if-holds (MemoryKept m) (eqb x.len 0) m (mutate_at n (after_access_in x) m) (λ z. same_kept m v)
      (λ z. same-nodes-kept (after_access_in x) access-succeeds (access-valid b) n m v))

  pub valid-load-store : All ValidByte x.bytes → (m : Memory) → Valid m → Valid (perform_access x m).1
  valid-load-store b m v = (load-store-kept b m v).valid

-- ---- deallocate
module _ (p : ThinPointer) where
  deallocate-succeeds : (a : Allocation) → Succeeds 0 a (after_deallocate_in p a)
  unfolding after_deallocate_in
  deallocate-succeeds a =
      record {
        address = refl;
        bytes = refl;
        live = λ e. absurd (false≢true e);
        nodes = visited-length (write_all p a) a.nodes ∙ sym (add-zero (node_count a));
      }

  deallocated-valid : (a : Allocation) → ValidAllocation a → ValidAllocation (after_deallocate_in p a)
  unfolding after_deallocate_in
  deallocated-valid a v =
      let after : List Node = visited (write_all p a) a.nodes in
      changed-valid 0 a Dead a.words after (deallocate-succeeds a) v.words
      (dead-valid (size a) (is_live a.state) after (visited-valid (write_all p a) (size a) (is_live a.state) a.nodes v.nodes)) v

  module _ (kind : AllocationKind) (len exponent : ℕ) (m : Memory) where
    pub deallocate-kept : Valid m → MemoryKept m (deallocate p kind len exponent m).1
    unfolding deallocate accept_deallocate
    deallocate-kept v =
        outcome-holds (MemoryKept m) (deallocate_refusal m p kind len exponent) m (accept_deallocate p m) (same_kept m v)
        (λ e. same-nodes-kept (after_deallocate_in p) deallocate-succeeds deallocated-valid (allocation_of p.provenance) m v)

    pub valid-deallocate : Valid m → Valid (deallocate p kind len exponent m).1
    valid-deallocate v = (deallocate-kept v).valid

-- ---- release
module _ (n : ℕ) where
  release-succeeds : (a : Allocation) → Succeeds 0 a (after_release_in n a)
  unfolding after_release_in
  release-succeeds a =
      record { address = refl; bytes = refl; live = λ e. e; nodes = released-length n a.state a.nodes ∙ sym (add-zero (node_count a)) }

  release-valid : (a : Allocation) → ValidAllocation a → ValidAllocation (after_release_in n a)
  unfolding after_release_in
  release-valid a v =
      changed-valid 0 a a.state a.words (released_nodes a.state n a.nodes) (release-succeeds a) v.words
      (released-valid n a.state (size a) a.nodes v.nodes) v

pub release-kept : (m : Memory) (e : Provenance) → Valid m → MemoryKept m (after_release m e)
unfolding after_release
release-kept m e v = same-nodes-kept (after_release_in e.node) (release-succeeds e.node) (release-valid e.node) e.allocation m v

pub release-all-kept : (es : List Provenance) (m : Memory) → Valid m → MemoryKept m (after_release_all m es)
unfolding after_release_all
release-all-kept [] m v = same_kept m v
release-all-kept (e ∷ es) m v =
    let first = release-kept m e v in
    then-kept m (after_release m e) (after_release_all (after_release m e) es) first (release-all-kept es (after_release m e) first.valid)

pub valid-release-all : (es : List Provenance) (m : Memory) → Valid m → Valid (after_release_all m es)
valid-release-all es m v = (release-all-kept es m v).valid

-- ---- room: what the bounds leave
pub record Room (m : Memory) (more : Sizes) : Type 0 where
  pub allocations : length m + more.allocations ≤ bounds.allocations
  pub words : sum_of size m + more.words ≤ bounds.words
  pub nodes : sum_of node_count m + more.nodes ≤ bounds.nodes
  pub codes : sum_of code_count m + more.codes ≤ bounds.codes

pub room : (m : Memory) (more : Sizes) → exceeds_bounds m more ≡ false → Room m more
unfolding exceeds_bounds
room m more e =
    let allocations : Bool = ltb bounds.allocations (length m + more.allocations) in
    let words : Bool = ltb bounds.words (sum_of size m + more.words) in
    let nodes : Bool = ltb bounds.nodes (sum_of node_count m + more.nodes) in
    let codes : Bool = ltb bounds.codes (sum_of code_count m + more.codes) in
    let three = or-neither (allocations || words || nodes) codes e in
    let two = or-neither (allocations || words) nodes three.0 in
    let one = or-neither allocations words two.0 in
    record {
      allocations = ltb-false bounds.allocations (length m + more.allocations) one.0;
      words = ltb-false bounds.words (sum_of size m + more.words) one.1;
      nodes = ltb-false bounds.nodes (sum_of node_count m + more.nodes) two.1;
      codes = ltb-false bounds.codes (sum_of code_count m + more.codes) three.1;
    }

-- ---- allocate
-- what `pick` accepts, taken apart
pub record Pickable (w : Width) (m : Memory) (len exponent address : ℕ) : Type 0 where
  pub positive : 0 < address
  pub aligned : is_misaligned address exponent ≡ false
  pub in_space : address + len < addresses w
  pub separate : All (λ a. overlaps address len a ≡ false) m

-- every target has an address, and none more than 2^64
pub some-address : (w : Width) → 0 < addresses w
some-address Bits16 = omega arith
some-address Bits32 = omega arith
some-address Bits64 = omega arith

pub most-addresses : (w : Width) → addresses w ≤ 2 ^ 64
most-addresses Bits16 = omega arith
most-addresses Bits32 = omega arith
most-addresses Bits64 = omega arith

pub pickable : (w : Width) (m : Memory) (len exponent address : ℕ) → is_pickable w m len exponent address ≡ true → Pickable w m len exponent address
unfolding is_pickable
pickable w m len exponent address e =
    let positive : Bool = not (eqb address 0) in
    let aligned : Bool = not (is_misaligned address exponent) in
    let in_space : Bool = leb (address + len) (addresses w - 1) in
    let separate : Bool = not (any (overlaps address len) m) in
    let three = and_left (positive && aligned && in_space) separate e in
    let two = and_left (positive && aligned) in_space three in
    let nonzero : address ≡ 0 → ⊥ = eqb-false address 0 (not-true (eqb address 0) (and_left positive aligned two)) in
    let fits : address + len ≤ addresses w - 1 = leb-true (address + len) (addresses w - 1) (and_right (positive && aligned) in_space three) in
    record {
      positive = omega arith;
      aligned = not-true (is_misaligned address exponent) (and_right positive aligned two);
      in_space = omega (arith, fits, some-address w);
      separate = none_pass (overlaps address len) m (not-true (any (overlaps address len) m) (and_right (positive && aligned && in_space) separate e));
    }

separate-append : (m : Memory) (a : Allocation) → All (λ b. overlaps a.address (size a) b ≡ false) m → Separate m → Separate (m ++ (a ∷ []))
separate-append [] a h s = (tt, tt)
separate-append (b ∷ m) a h s = (
  all_append (λ c. is_live c.state ≡ true → overlaps c.address (size c) b ≡ false) m (a ∷ []) s.0 ((λ l. h.0), tt),
  separate-append m a h.1 s.1,
)

made-append : (m : Memory) (a : Allocation) (e : Provenance) → was_made m e ≡ true → was_made (m ++ (a ∷ [])) e ≡ true
made-append m a e h =
    let old : Made m e = was-made m e h in
    is_made (m ++ (a ∷ [])) e
    (record {
      allocation = omega (arith, length-append m (a ∷ []));
      node = rw (get_or-append m (a ∷ []) no_allocation e.allocation old.allocation) old.node;
    })

module _ (w : Width) (kind : AllocationKind) (len exponent address : ℕ) where
  abbrev new : Allocation
  new = new_allocation kind len exponent address

  new-size : size new ≡ len
  unfolding new_allocation
  new-size = length-replicate len 0

  new-node : node_count new ≡ 1
  unfolding new_allocation
  new-node = refl

  new-codes : code_count new ≡ len
  new-codes = ap₂ ◌*◌ new-node new-size ∙ one-mul len

  new-valid : exponent ≤ 29 → (m : Memory) → Pickable w m len exponent address → ValidAllocation new
  unfolding new_allocation bad_byte
  new-valid x m h =
      record {
        exponent = x;
        positive = h.positive;
        aligned = h.aligned;
        in_space = rw length-replicate (omega (arith, h.in_space, most-addresses w));
        words = all_replicate ValidByte len 0 (record { word = omega arith; well_formed = refl });
        root = omega arith;
        nodes = (
          record {
            placed = (refl, refl);
            wide = length-replicate len (Unprot Unique) ∙ sym new-size;
            marked = λ e. all_replicate (λ p. is_protected p ≡ false) len (Unprot Unique) refl;
          },
          tt,
        );
      }

  new-separate : (m : Memory) → All (λ a. overlaps address len a ≡ false) m → All (λ a. overlaps new.address (size new) a ≡ false) m
  unfolding new_allocation
  new-separate m h = subst (λ (n : ℕ). All (λ a. overlaps address n a ≡ false) m) (sym new-size) h

  appended-kept : (m : Memory) → exponent ≤ 29 → Pickable w m len exponent address → Room m (of_allocation len) → Valid m → MemoryKept m (m ++ (new ∷ []))
  unfolding sum_of
  appended-kept m x h r v =
      record {
        valid =
            record {
              each = all_append ValidAllocation m (new ∷ []) v.each (new-valid x m h, tt);
              separate = separate-append m new (new-separate m h.separate) v.separate;
              bounded =
                  record {
                    allocations = omega (arith, r.allocations, length-append m (new ∷ []));
                    words = omega (arith, r.words, sum-append size m (new ∷ []), new-size);
                    nodes = omega (arith, r.nodes, sum-append node_count m (new ∷ []), new-node);
                    codes = omega (arith, r.codes, sum-append code_count m (new ∷ []), new-codes);
                  };
            };
        made = made-append m new;
      }

  pub allocate-kept : exponent ≤ 29 → (m : Memory) → Valid m → MemoryKept m (allocate w kind len exponent address m).1
  unfolding allocate accept_allocate allocate_refusal
  allocate-kept x m v =
      let unpickable : Bool = not (is_pickable w m len exponent address) in
      let too_much : Bool = exceeds_bounds m (of_allocation len) in
      outcome-holds (MemoryKept m) (allocate_refusal w m len exponent address) m (accept_allocate kind len exponent address m) (same_kept m v)
      (λ e.
      appended-kept m x
      (pickable w m len exponent address (not-not-false (is_pickable w m len exponent address) (when-none 4 unpickable (or_left (fails_pick when unpickable) (size_exceeded when too_much) e))))
      (room m (of_allocation len) (when-none 14 too_much (or_right (fails_pick when unpickable) (size_exceeded when too_much) e))) v)

  pub valid-allocate : exponent ≤ 29 → (m : Memory) → Valid m → Valid (allocate w kind len exponent address m).1
  valid-allocate x m v = (allocate-kept x m v).valid
