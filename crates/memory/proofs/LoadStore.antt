-- Loads and stores: the refusals before the visit and those of the visit are the definition's, and so are the words and the codes afterwards.
use Rattle.std.specs.Prelude.{if◌then◌else◌}
use Prim.Native.Nat.{ℕ, zero, suc, ◌+◌, ◌-◌, ◌≤◌, ◌<◌}
use mathlib.Core.Path.{◌≡◌, refl, sym, ap, ◌∙◌}
use mathlib.Core.Bool.{Bool, true, false, not, ◌&&◌, false≢true}
use mathlib.Core.Option.{Option, none, some}
use mathlib.Core.List.{List, []}
use native.Mathlib.Decide.{ℕ_discrete}
use native.Mathlib.Omega.{arith}
use borrow.Author.Tests.{eq-eqb, ne_eqb, leb-true, not-false}
use lib.Dec.{eqb, leb}
use lib.ListN.{length, take, drop}
use lib.Seq.{paste, paste-zero}
use Rattle.definition.specs.Notation.{◌when◌, ◌or◌, mutate_at}
use Rattle.definition.specs.Refusal.{never_made, misaligned, missing_provenance, dead_allocation, out_of_bounds}
use Rattle.definition.specs.Permission.{AccessKind}
use Rattle.definition.specs.Tree.{visit_refusal}
use Rattle.definition.specs.Memory.{Provenance, ThinPointer, Allocation, Memory, MemoryAccess, has_none, is_live, allocation_of, node_of, allocation_at, target, offset, size, refused_with, gives_words, unless_refused, was_made, names_never_made, is_misaligned, is_outside, check_ptr, visit_of, access_refusal_in, access_refusal, after_access_in, after_access, loaded_words, accept_access, perform_access}
use Rattle.definition.specs.Valid.{Valid}
use Rattle.definition.proofs.Booleans.{and_left, and_right, not-not-false, or_assoc, or_left, or_right, when-none}
use Rattle.definition.proofs.ValidMemory.{Made, was-made}
use Rattle.definition.proofs.Accesses.{after_none, after_one}
use Rattle.pointer.specs.Pointer.{via, provenance_of, thin_pointer_of}
use Rattle.pointer.specs.declared.ThinPointer as code
use Rattle.answer.specs.Answer.{answer_of, reply_to}
use Rattle.answer.specs.Answer.Gives.{Nothing}
use Rattle.answer.specs.declared.Answer.{Answer}
use Rattle.answer.specs.declared.Answer.TheVariants.{Refused, Accepted, Words}
use Rattle.answer.proofs.Replies.{refused-reply}
use Rattle.tables.specs.Encoding.{words_of, codes_of, held}
use Rattle.tables.specs.Held.{start_of}
use Rattle.tables.proofs.Parts.{write-paste}
use Rattle.tables.proofs.Focus.{focus-used, focus-paste}
use Rattle.tables.proofs.Sizes.{words-fit}
use Rattle.tables.specs.declared.Allocation as lent_record
use Rattle.tables.proofs.Lookup.{record_at, read-starts}
use Rattle.bounds.specs.Bounds.{target_in}
use Rattle.bounds.proofs.Points.{read-address, points-read}
use Rattle.parts.specs.Trees.{HoldsTrees, after_visit, TreeVisited}
use Rattle.memory.specs.Access.{access_of, load_of, store_of, pointer_refusal, Checked, Found, Reached, visit_at, words_start, Accessed, words_given, Loaded, Stored}
use Rattle.memory.proofs.OneTree.{same_parts, focus-load, visited-part}

-- ---- what the tests leave
module _ (p : ThinPointer) (len exponent : ℕ) (m : Memory) where
  pub checked : pointer_refusal p len exponent m ≡ 0 → Checked m p len
  unfolding pointer_refusal
  checked e =
      let never = never_made when names_never_made m p.provenance in
      let away = misaligned when is_misaligned p.address exponent in
      let outside = check_ptr (target m p) p 0 len in
      record {
        made = when-none 3 (names_never_made m p.provenance) (or_left never (away or outside) e);
        inside = or_right away outside (or_right never (away or outside) e);
      }

-- what `check_ptr` tests, at a length other than zero
inside-refusal : (a : Allocation) (p : ThinPointer) (len : ℕ) → (len ≡ 0 → ⊥) → check_ptr a p 0 len ≡ 0
    → (has_none p.provenance ≡ false) × (is_outside a p 0 len ≡ false)
unfolding check_ptr
inside-refusal a p len z e =
    let missing = missing_provenance when has_none p.provenance in
    let dead = dead_allocation when not (is_live a.state) in
    let outside = out_of_bounds when is_outside a p 0 len in
    let h : (missing or dead or outside) ≡ 0 = rw (ne_eqb (0 + len) 0 (λ q. z (omega arith))) at e in (
      when-none 6 (has_none p.provenance) (or_left missing (dead or outside) h),
      when-none 8 (is_outside a p 0 len) (or_right dead outside (or_right missing (dead or outside) h)),
    )

module _ {m : Memory} {p : ThinPointer} {len : ℕ} (h : Checked m p len) where
  pub none-empty : p.provenance ≡ none → len ≡ 0
  none-empty e =
      elim (ℕ_discrete len 0) [
        | yes z ↦ z
        | no z ↦ absurd (false≢true (sym (inside-refusal (target m p) p len z h.inside).0 ∙ ap has_none e))
      ]

  pub reached : (len ≡ 0 → ⊥) → Reached m (allocation_of p.provenance) (node_of p.provenance) p.address len
  reached z = go p.provenance refl
    where
      go : (t : Option Provenance) → p.provenance ≡ t → Reached m (allocation_of p.provenance) (node_of p.provenance) p.address len
      go none e = absurd (z (none-empty e))
      go (some t) e =
          let a : Allocation = target m p in
          let low : Bool = leb (a.address + 0) p.address in
          let high : Bool = leb (p.address + len) (a.address + size a) in
          let both : low && high ≡ true = not-false (low && high) (inside-refusal a p len z h.inside).1 in
          let k : Made m t = was-made m t (not-not-false (was_made m t) (ap (names_never_made m) (sym e) ∙ h.made)) in
          let l : a.address + 0 ≤ p.address = leb-true (a.address + 0) p.address (and_left low high both) in
          record {
            made = rw e k.allocation;
            in_tree = rw e k.node;
            above = omega arith;
            within = leb-true (p.address + len) (a.address + size a) (and_right low high both);
          }

-- ---- the refusal
module _ (x : MemoryAccess) (m : Memory) where
  abbrev before : ℕ
  before = pointer_refusal x.pointer x.len x.exponent m

  abbrev in_tree : ℕ
  in_tree = visit_refusal (visit_of x (target m x.pointer)) (target m x.pointer).nodes

  refusal-split : access_refusal x m ≡ (before or (if eqb x.len 0 then 0 else in_tree))
  unfolding access_refusal access_refusal_in pointer_refusal
  refusal-split =
      let never = never_made when names_never_made m x.pointer.provenance in
      let away = misaligned when is_misaligned x.pointer.address x.exponent in
      let outside = check_ptr (target m x.pointer) x.pointer 0 x.len in
      let rest = if eqb x.len 0 then 0 else visit_refusal (visit_of x (target m x.pointer)) (target m x.pointer).nodes in
      sym (or_assoc never (away or outside) rest ∙ ap (λ (n : ℕ). never or n) (or_assoc away outside rest))

  performed : (r : ℕ) → access_refusal x m ≡ r → perform_access x m ≡ unless_refused r m (accept_access x m)
  unfolding perform_access
  performed r e = ap (λ (n : ℕ). unless_refused n m (accept_access x m)) e

  -- a refusal changes nothing
  pub refused-memory : (r : ℕ) → (r ≡ 0 → ⊥) → access_refusal x m ≡ r → perform_access x m ≡ (refused_with r, m)
  refused-memory zero z e = absurd (z refl)
  refused-memory (suc r) z e = performed (suc r) e

  -- where nothing is visited nothing changes
  pub unvisited : (r : ℕ) → before ≡ r → (r ≡ 0 → x.len ≡ 0) → (r ≡ access_refusal x m) × ((perform_access x m).1 ≡ m)
  unfolding accept_access
  unvisited zero e z =
      let f : access_refusal x m ≡ 0 = refusal-split ∙ rw (e, eq-eqb x.len 0 (z refl)) in
      (sym f, ap (λ o. o.1) (performed 0 f) ∙ after_none x m (z refl))
  unvisited (suc r) e z =
      let f : access_refusal x m ≡ suc r = refusal-split ∙ rw e in
      (sym f, ap (λ o. o.1) (performed (suc r) f))

  pub accepted : access_refusal x m ≡ 0 → perform_access x m ≡ (gives_words (loaded_words x (target m x.pointer)), after_access x m)
  unfolding accept_access
  accepted e = performed 0 e

  -- an accepted access passed the tests
  accepted-checked : access_refusal x m ≡ 0 → Checked m x.pointer x.len
  accepted-checked e = checked x.pointer x.len x.exponent m (or_left before (if eqb x.len 0 then 0 else in_tree) (sym refusal-split ∙ e))

  pub accessed-checked : {r : ℕ} {C : List ℕ} → Accessed x m r C → r ≡ 0 → Checked m x.pointer x.len
  accessed-checked k z = accepted-checked (sym k.refusal ∙ z)

module _ (x : MemoryAccess) {m : Memory} {A P C : List ℕ} (h : HoldsTrees m A P C) where
  pub unvisited-accessed : (r : ℕ) → r ≡ pointer_refusal x.pointer x.len x.exponent m → (r ≡ 0 → x.len ≡ 0) → Accessed x m r C
  unvisited-accessed r e z =
      let u = unvisited x m r (sym e) z in
      record { refusal = u.0; codes = h.codes ∙ ap (held 32768 codes_of) (sym u.1) }

  visited-accessed : {r : ℕ} {C' : List ℕ} → pointer_refusal x.pointer x.len x.exponent m ≡ 0 → (x.len ≡ 0 → ⊥)
      → TreeVisited m (allocation_of x.pointer.provenance) (visit_refusal (visit_of x (target m x.pointer)) (target m x.pointer).nodes) (visit_of x (target m x.pointer)) r C'
      → Accessed x m r C'
  unfolding after_access_in codes_of
  visited-accessed {r} {C'} e z t =
      let n = allocation_of x.pointer.provenance in
      let k : Reached m n (node_of x.pointer.provenance) x.pointer.address x.len = reached (checked x.pointer x.len x.exponent m e) z in
      record { refusal = t.refusal ∙ sym f; codes = t.codes ∙ go (in_tree x m) f k.made }
    where
      f : access_refusal x m ≡ in_tree x m
      f = refusal-split x m ∙ rw (e, ne_eqb x.len 0 z)

      go : (q : ℕ) → access_refusal x m ≡ q → allocation_of x.pointer.provenance < length m
          → held 32768 codes_of (if eqb q 0 then mutate_at (allocation_of x.pointer.provenance) (after_visit (visit_of x (target m x.pointer))) m else m)
          ≡ held 32768 codes_of (perform_access x m).1
      go zero f made =
          same_parts 32768 codes_of m (allocation_of x.pointer.provenance) made (after_visit (visit_of x (target m x.pointer))) (after_access_in x)
          (visited-part m (allocation_of x.pointer.provenance) h.records.valid made (visit_of x (target m x.pointer))) refl
          ∙ ap (held 32768 codes_of) (sym (ap (λ o. o.1) (accepted x m f) ∙ after_one x m z))
      go (suc q) f made = rw (ne_eqb (suc q) 0 (λ w. omega arith)) (ap (held 32768 codes_of) (sym (ap (λ o. o.1) (refused-memory x m (suc q) (λ w. omega arith) f))))

-- ---- the words
module _ (p : ThinPointer) (len : ℕ) (m : Memory) where
  pub start_none : len ≡ 0 → words_start p len m ≡ 0
  unfolding words_start
  start_none z = rw (eq-eqb len 0 z)

  pub start-some : (len ≡ 0 → ⊥) → words_start p len m ≡ start_of words_of m (allocation_of p.provenance) + offset (target m p) p
  unfolding words_start
  start-some z = rw (ne_eqb len 0 z)

module _ {m : Memory} {p : ThinPointer} {len : ℕ} (v : Valid m) (h : Checked m p len) where
  -- they lie in the data
  pub words-in : words_start p len m + len ≤ 4096
  words-in =
      elim (ℕ_discrete len 0) [
        | yes z ↦ omega (arith, start_none p len m z)
        | no z ↦
            let k = reached h z in
            omega (arith, start-some p len m z, k.above, k.within, focus-used 4096 words_of m (allocation_of p.provenance) k.made, words-fit m v)
      ]

  -- and are a part of it
  pub words-part : take len (drop (words_start p len m) (held 4096 words_of m)) ≡ take len (drop (offset (target m p) p) (target m p).words)
  words-part =
      elim (ℕ_discrete len 0) [
        | yes z ↦ rw z
        | no z ↦
            let k = reached h z in
            ap (λ (s : ℕ). take len (drop s (held 4096 words_of m))) (start-some p len m z)
            ∙ focus-load 4096 words_of m (allocation_of p.provenance) k.made (offset (target m p) p) len (omega (arith, k.above, k.within))
      ]

module _ {m : Memory} {p : ThinPointer} (bytes : List ℕ) (exponent : ℕ) (v : Valid m) (h : Checked m p (length bytes)) where
  pub words-written : paste (held 4096 words_of m) (words_start p (length bytes) m) bytes (length bytes) ≡ held 4096 words_of (after_access (store_of p bytes exponent) m)
  unfolding after_access_in
  words-written =
      elim (ℕ_discrete (length bytes) 0) [
        | yes z ↦ ap (λ (n : ℕ). paste (held 4096 words_of m) (words_start p (length bytes) m) bytes n) z
            ∙ sym (paste-zero (held 4096 words_of m) (words_start p (length bytes) m) bytes)
            ∙ ap (held 4096 words_of) (sym (after_none (store_of p bytes exponent) m z))
        | no z ↦
            let k = reached h z in
            let off = offset (target m p) p in
            let fits : off + length bytes ≤ size (target m p) = omega (arith, k.above, k.within) in
            ap (λ (s : ℕ). paste (held 4096 words_of m) s bytes (length bytes)) (start-some p (length bytes) m z)
            ∙ focus-paste 4096 words_of m (allocation_of p.provenance) k.made (after_access_in (store_of p bytes exponent)) off bytes (length bytes) fits (omega arith) (written fits)
            ∙ ap (held 4096 words_of) (sym (after_one (store_of p bytes exponent) m z))
      ]
    where
      written : offset (target m p) p + length bytes ≤ size (target m p)
          → words_of (after_access_in (store_of p bytes exponent) (target m p)) ≡ paste (target m p).words (offset (target m p) p) bytes (length bytes)
      written fits = write-paste (offset (target m p) p) bytes (target m p).words fits

-- ---- a pointer of the code that passed the tests, via node `node` of allocation n, whose record is a; some bytes are accessed
module _ (p : code.ThinPointer) {n node : ℕ} (e : p.provenance ≡ via n node) {m : Memory} {len : ℕ} (exponent : ℕ) (filled : 0 < len)
    (passed : 0 ≡ pointer_refusal (thin_pointer_of p) len exponent m) {A P C : List ℕ} (h : HoldsTrees m A P C) {a : lent_record.Allocation}
    (target : a ≡ target_in A (provenance_of p.provenance)) where
  not_empty : len ≡ 0 → ⊥
  not_empty z = omega arith

  passes : Checked m (thin_pointer_of p) len
  passes = checked (thin_pointer_of p) len exponent m (sym passed)

  pub reached-through : Reached m n node p.addr len
  reached-through = rw e at (reached passes not_empty)

  own : a ≡ record_at A n
  own = points-read p e (record { records = h.records; made = passes.made }) target

  pub found-through : Found m n a P C
  found-through = record { records = A; trees = h; read = own }

  pub accessed-through : (kind : AccessKind) (bytes : List ℕ) {r : ℕ} {C' : List ℕ}
      → TreeVisited m n (visit_refusal (visit_at kind m n node p.addr len) (allocation_at m n).nodes) (visit_at kind m n node p.addr len) r C'
      → Accessed (access_of kind (thin_pointer_of p) len exponent bytes) m r C'
  accessed-through kind bytes t = visited-accessed (access_of kind (thin_pointer_of p) len exponent bytes) h (sym passed) not_empty (rw e t)

  pub above-start : a.address ≤ p.addr
  above-start = omega (arith, read-address h.records reached-through.made own, reached-through.above)

  pub start-through : a.starts.words + (p.addr - a.address) ≡ words_start (thin_pointer_of p) len m
  start-through =
      rw (e, (read-starts h.records reached-through.made own).words, read-address h.records reached-through.made own)
      (sym (start-some (record { address = p.addr; provenance = some (record { allocation = n; node = node }) }) len m not_empty))

  pub start-fits : a.starts.words + (p.addr - a.address) + len ≤ 4096
  start-fits = omega (arith, start-through, words-in h.records.valid passes)

-- ---- a load's answer
loaded-words : (p : ThinPointer) (len exponent : ℕ) (a : Allocation) → loaded_words (load_of p len exponent) a ≡ take len (drop (offset a p) a.words)
unfolding loaded_words
loaded-words p len exponent a = refl

module _ (p : ThinPointer) (len exponent : ℕ) {m : Memory} (v : Valid m) where
  pub load-refused : (r : ℕ) {C : List ℕ} → (r ≡ 0 → ⊥) → Accessed (load_of p len exponent) m r C → Loaded (load_of p len exponent) m (Refused r) C
  load-refused r z k =
      let l : MemoryAccess = load_of p len exponent in
      let e = refused-memory l m r z (sym k.refusal) in
      record { reply = sym (ap (λ o. reply_to (words_given l m) o.0) e ∙ refused-reply (words_given l m) r z); answers = ap (λ o. o.0) (sym e); codes = k.codes }

  pub load-accepted : (r start : ℕ) {C : List ℕ} → r ≡ 0 → Accessed (load_of p len exponent) m r C → start ≡ words_start p len m → Loaded (load_of p len exponent) m (Words start len) C
  load-accepted r start z k s =
      let l : MemoryAccess = load_of p len exponent in
      let e : access_refusal l m ≡ 0 = sym k.refusal ∙ z in
      let h : Checked m p len = accepted-checked l m e in
      record {
        reply = ap (λ (n : ℕ). Words n len) s ∙ sym (ap (λ o. reply_to (words_given l m) o.0) (accepted l m e));
        answers =
            ap gives_words (ap (λ (n : ℕ). take len (drop n (held 4096 words_of m))) s ∙ words-part v h ∙ sym (loaded-words p len exponent (target m p)))
            ∙ ap (λ o. o.0) (sym (accepted l m e));
        codes = k.codes;
      }

-- what a load's answer stands for in the definition: the words that it names are the loaded ones
module _ (p : ThinPointer) (len exponent : ℕ) {m : Memory} (v : Valid m) where
  abbrev load : MemoryAccess
  load = load_of p len exponent

  abbrev reply_of : Answer
  reply_of = reply_to (words_given load m) (perform_access load m).0

  stands : {answer : Answer} {C : List ℕ} → Loaded load m answer C → answer_of reply_of (held 4096 words_of m) ≡ (perform_access load m).0
  stands k = ap (λ (a : Answer). answer_of a (held 4096 words_of m)) (sym k.reply) ∙ k.answers

  pub load-means : answer_of reply_of (held 4096 words_of m) ≡ (perform_access load m).0
  load-means =
      let k : Accessed load m (access_refusal load m) (held 32768 codes_of (perform_access load m).1) = record { refusal = refl; codes = refl } in
      elim (ℕ_discrete (access_refusal load m) 0) [
        | yes z ↦ stands (load-accepted p len exponent v _ (words_start p len m) z k refl)
        | no z ↦ stands (load-refused p len exponent v _ z k)
      ]

-- ---- a store's answer
no_words : (p : ThinPointer) (bytes : List ℕ) (exponent : ℕ) (a : Allocation) → loaded_words (store_of p bytes exponent) a ≡ []
unfolding loaded_words
no_words p bytes exponent a = refl

module _ (p : ThinPointer) (bytes : List ℕ) (exponent : ℕ) {m : Memory} (v : Valid m) {W : List ℕ} (holds : W ≡ held 4096 words_of m) where
  pub store-refused : (r : ℕ) {C' : List ℕ} → (r ≡ 0 → ⊥) → Accessed (store_of p bytes exponent) m r C' → Stored (store_of p bytes exponent) m (Refused r) W C'
  store-refused r z k =
      let s : MemoryAccess = store_of p bytes exponent in
      let e = refused-memory s m r z (sym k.refusal) in
      record {
        reply = sym (ap (λ o. reply_to Nothing o.0) e ∙ refused-reply Nothing r z);
        answers = λ words. ap (λ o. o.0) (sym e);
        words = holds ∙ ap (held 4096 words_of) (sym (ap (λ o. o.1) e));
        codes = k.codes;
      }

  pub store-accepted : (r : ℕ) {W' C' : List ℕ} → r ≡ 0 → Accessed (store_of p bytes exponent) m r C'
      → W' ≡ paste W (words_start p (length bytes) m) bytes (length bytes) → Stored (store_of p bytes exponent) m Accepted W' C'
  store-accepted r z k w =
      let s : MemoryAccess = store_of p bytes exponent in
      let e : access_refusal s m ≡ 0 = sym k.refusal ∙ z in
      let a = accepted s m e in
      record {
        reply = sym (ap (λ o. reply_to Nothing o.0) a);
        answers = λ words. ap gives_words (sym (no_words p bytes exponent (target m p))) ∙ ap (λ o. o.0) (sym a);
        words =
            w ∙ ap (λ (l : List ℕ). paste l (words_start p (length bytes) m) bytes (length bytes)) holds
            ∙ words-written bytes exponent v (accepted-checked s m e)
            ∙ ap (held 4096 words_of) (sym (ap (λ o. o.1) a));
        codes = k.codes;
      }
