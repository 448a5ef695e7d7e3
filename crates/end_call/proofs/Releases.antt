-- What a release leaves as it is, and the releases of a list one after another.
use Rattle.std.specs.Prelude.{if◌then◌else◌}
use Prim.Native.Nat.{ℕ, zero, suc, ◌+◌, ◌≤◌, ◌<◌}
use mathlib.Core.Path.{◌≡◌, refl, sym, ap, subst, ◌∙◌}
use mathlib.Core.Bool.{Bool, true, false}
use mathlib.Core.List.{List, [], ◌∷◌}
use native.Mathlib.Omega.{arith}
use borrow.Author.Tests.{ne_eqb}
use lib.Dec.{eqb}
use lib.ListN.{length, get_or, drop}
use Rattle.definition.specs.Notation.{◌or◌, mutate_at}
use Rattle.definition.specs.Tree.{Node, parents}
use Rattle.definition.specs.Memory.{Allocation, Liveness, Memory, Provenance, kind_number, size, was_made}
use Rattle.definition.specs.Memory.Liveness.{Live, Dead}
use Rattle.definition.specs.Frame.{unprotect_node, release_visit, released_nodes, release_refusal, after_release_in, after_release, release_all_refusal, after_release_all}
use Rattle.definition.specs.Valid.{Valid}
use Rattle.definition.proofs.Alls.{if-holds, all-imp}
use Rattle.definition.proofs.Booleans.{or_left, or_right, or-none}
use Rattle.definition.proofs.Lists.{mutate-map}
use Rattle.definition.proofs.Visits.{visited-parents}
use Rattle.definition.proofs.ValidTrees.{released-length}
use Rattle.definition.proofs.ValidMemory.{release-kept}
use Rattle.definition.proofs.Parts.{drop-next}
use Rattle.tables.specs.declared.Starts.{Starts}
use Rattle.tables.specs.Encoding.{state_number, record_of, parents_of, words_of, held_records, held}
use Rattle.tables.specs.Held.{Records}
use Rattle.tables.proofs.Focus.{held_kept}
use Rattle.tables.proofs.Records.{held-records-kept}
use Rattle.parts.specs.Trees.{HoldsMarked}
use Rattle.end_call.specs.Release.{HoldsNodes, AllMade, unless_refused, Released, until_refused, ReleasedUntil, ReleasedAll}

-- ---- what no release changes
-- a buffer that is the same after every release
module _ (buffer : Memory → List ℕ) (same : (node n : ℕ) (m : Memory) → buffer (mutate_at n (after_release_in node) m) ≡ buffer m) where
  one_kept : (m : Memory) (e : Provenance) → buffer (after_release m e) ≡ buffer m
  unfolding after_release
  one_kept m e = same e.node e.allocation m

  pub all-kept : (es : List Provenance) (m : Memory) → buffer (after_release_all m es) ≡ buffer m
  unfolding after_release_all
  all-kept [] m = refl
  all-kept (e ∷ es) m = all-kept es (after_release m e) ∙ one_kept m e

  until-kept : (es : List Provenance) (m : Memory) → buffer (until_refused m es) ≡ buffer m
  unfolding until_refused
  until-kept [] m = refl
  until-kept (e ∷ es) m =
      if-holds (λ l. buffer l ≡ buffer m) (eqb (release_refusal m e) 0) (until_refused (after_release m e) es) m
      (λ t. until-kept es (after_release m e) ∙ one_kept m e) (λ t. refl)

same-record : (n : ℕ) (p : Starts) (a : Allocation) → record_of p (after_release_in n a) ≡ record_of p a
unfolding after_release_in
same-record n p a =
    ap (λ (k : ℕ). state_number a.state ∷ kind_number a.kind ∷ a.exponent ∷ a.address ∷ size a ∷ k ∷ p.words ∷ p.nodes ∷ p.codes ∷ [])
    (released-length n a.state a.nodes)

pub same-records : (node n : ℕ) (m : Memory) → held_records (mutate_at n (after_release_in node) m) ≡ held_records m
same-records node = held-records-kept (after_release_in node) (same-record node)

released-parents : (state : Liveness) (n : ℕ) (nodes : List Node) → parents (released_nodes state n nodes) ≡ parents nodes
released-parents Live n nodes =
    visited-parents (release_visit n nodes) (mutate_at n (unprotect_node Live) nodes) ∙ mutate-map (λ (x : Node). x.parent) (unprotect_node Live) (λ x. refl) n nodes
released-parents Dead n nodes = mutate-map (λ (x : Node). x.parent) (unprotect_node Dead) (λ x. refl) n nodes

its-parents : (n : ℕ) (a : Allocation) → parents_of (after_release_in n a) ≡ parents_of a
unfolding after_release_in parents_of
its-parents n a = released-parents a.state n a.nodes

pub same-parents : (node n : ℕ) (m : Memory) → held 1024 parents_of (mutate_at n (after_release_in node) m) ≡ held 1024 parents_of m
same-parents node = held_kept 1024 parents_of (after_release_in node) (its-parents node)

its-words : (n : ℕ) (a : Allocation) → words_of (after_release_in n a) ≡ words_of a
unfolding after_release_in
its-words n a = refl

pub same-words : (node n : ℕ) (m : Memory) → held 4096 words_of (mutate_at n (after_release_in node) m) ≡ held 4096 words_of m
same-words node = held_kept 4096 words_of (after_release_in node) (its-words node)

valid-until : (es : List Provenance) (m : Memory) → Valid m → Valid (until_refused m es)
unfolding until_refused
valid-until [] m v = v
valid-until (e ∷ es) m v =
    if-holds Valid (eqb (release_refusal m e) 0) (until_refused (after_release m e) es) m (λ t. valid-until es (after_release m e) (release-kept m e v).valid) (λ t. v)

pub records-until : {m : Memory} {A P R C : List ℕ} → HoldsMarked m A P R C → (es : List Provenance) → Records (until_refused m es) A
records-until {m} h es = record { valid = valid-until es m h.valid; allocs = h.trees.allocs ∙ sym (until-kept held_records same-records es m) }

-- ---- a list from place i on
pub rest_at : {A : Type 0} (l : List A) (i : ℕ) (x d : A) → i < length l → x ≡ get_or l i d → drop i l ≡ x ∷ drop (i + 1) l
rest_at l i x d h q = drop-next l i d h ∙ ap (λ y. y ∷ drop (i + 1) l) (sym q)

-- ---- entry by entry
-- the releases of `rest` are left, in the memory that the ones before them left
pub record Turn (m : Memory) (es rest : List Provenance) (A P R C : List ℕ) : Type 0 where
  pub memory : Memory
  pub holds : HoldsMarked memory A P R C
  pub made : AllMade memory rest
  pub refusal : release_all_refusal m es ≡ release_all_refusal memory rest
  pub until : until_refused m es ≡ until_refused memory rest

pub turn-first : {m : Memory} {es : List Provenance} {A P R C : List ℕ} → HoldsMarked m A P R C → AllMade m es → Turn m es es A P R C
turn-first {m} h made = record { memory = m; holds = h; made = made; refusal = refl; until = refl }

pub turn_at : {m : Memory} {es : List Provenance} {A P R C : List ℕ} (i : ℕ) (e d : Provenance) → i < length es → e ≡ get_or es i d
    → Turn m es (drop i es) A P R C → Turn m es (e ∷ drop (i + 1) es) A P R C
turn_at {m} {es} {A} {P} {R} {C} i e d l q t = subst (λ (rest : List Provenance). Turn m es rest A P R C) (rest_at es i e d l q) t

module _ {m : Memory} {es rest : List Provenance} {e : Provenance} {A P R C R' C' : List ℕ} {answer : ℕ}
    (t : Turn m es (e ∷ rest) A P R C) (k : Released t.memory e answer R' C') where
  pub turn-next : answer ≡ 0 → Turn m es rest A P R' C'
  unfolding release_all_refusal until_refused
  turn-next z =
      let l : Memory = t.memory in
      let after : Memory = after_release l e in
      let none : release_refusal l e ≡ 0 = sym k.refusal ∙ z in
      let kept = release-kept l e t.holds.valid in
      let now : HoldsNodes after R' C' = subst (λ (n : ℕ). HoldsNodes (unless_refused n l after) R' C') none k.nodes in
      record {
        memory = after;
        holds = record {
          valid = kept.valid;
          trees = record {
            allocs = t.holds.trees.allocs ∙ sym (one_kept held_records same-records l e);
            parents = t.holds.trees.parents ∙ sym (one_kept (held 1024 parents_of) same-parents l e);
            protectors = now.protectors;
            codes = now.codes;
          };
        };
        made = all-imp (λ x. was_made l x ≡ true) (λ x. was_made after x ≡ true) kept.made rest t.made.1;
        refusal = t.refusal ∙ ap (λ (n : ℕ). n or release_all_refusal after rest) none;
        until = t.until ∙ ap (λ (n : ℕ). unless_refused n l (until_refused after rest)) none;
      }

  pub turn-stops : (answer ≡ 0 → ⊥) → ReleasedUntil m es answer R' C'
  unfolding release_all_refusal until_refused
  turn-stops z =
      let l : Memory = t.memory in
      let after : Memory = after_release l e in
      let some : eqb (release_refusal l e) 0 ≡ false = ne_eqb (release_refusal l e) 0 (λ q. z (k.refusal ∙ q)) in
      let stays : HoldsNodes l R' C' = subst (λ (b : Bool). HoldsNodes (if b then after else l) R' C') some k.nodes in
      let u : until_refused m es ≡ l = t.until ∙ ap (λ (b : Bool). if b then until_refused after rest else l) some in
      record {
        refusal = first answer k.refusal z ∙ sym t.refusal;
        nodes = subst (λ (n : Memory). HoldsNodes n R' C') (sym u) stays;
      }
    where
      first : (n : ℕ) → n ≡ release_refusal t.memory e → (n ≡ 0 → ⊥) → n ≡ (release_refusal t.memory e or release_all_refusal (after_release t.memory e) rest)
      first zero q z = absurd (z refl)
      first (suc n) q z = ap (λ (j : ℕ). j or release_all_refusal (after_release t.memory e) rest) q

pub turn-done : {m : Memory} {es rest : List Provenance} {A P R C : List ℕ} → rest ≡ [] → Turn m es rest A P R C → ReleasedUntil m es 0 R C
unfolding release_all_refusal until_refused
turn-done {m} {es} {rest} {A} {P} {R} {C} q t =
    let u : Turn m es [] A P R C = subst (λ (l : List Provenance). Turn m es l A P R C) q t in
    record {
      refusal = sym u.refusal;
      nodes = subst (λ (n : Memory). HoldsNodes n R C) (sym u.until) (record { protectors = u.holds.trees.protectors; codes = u.holds.trees.codes });
    }

-- ---- all or none
until-all : (es : List Provenance) (m : Memory) → release_all_refusal m es ≡ 0 → until_refused m es ≡ after_release_all m es
unfolding release_all_refusal until_refused after_release_all
until-all [] m z = refl
until-all (e ∷ es) m z =
    let after : Memory = after_release m e in
    ap (λ (n : ℕ). unless_refused n m (until_refused after es)) (or_left (release_refusal m e) (release_all_refusal after es) z)
    ∙ until-all es after (or_right (release_refusal m e) (release_all_refusal after es) z)

pub none-refused : {m : Memory} {es : List Provenance} {answer : ℕ} {R C : List ℕ} → ReleasedUntil m es answer R C → answer ≡ 0 → ReleasedAll m es answer R C
none-refused {m} {es} {answer} {R} {C} k z =
    let none : release_all_refusal m es ≡ 0 = sym k.refusal ∙ z in
    let u : until_refused m es ≡ unless_refused (release_all_refusal m es) m (after_release_all m es) =
    until-all es m none ∙ ap (λ (n : ℕ). unless_refused n m (after_release_all m es)) (sym none)
    in
    record { refusal = k.refusal; nodes = subst (λ (n : Memory). HoldsNodes n R C) u k.nodes }

-- ---- one entry at most: the first refusal is met in the memory as it was
one_at_most : (m : Memory) (es : List Provenance) → length es ≤ 1 → until_refused m es ≡ unless_refused (release_all_refusal m es) m (after_release_all m es)
unfolding until_refused release_all_refusal after_release_all
one_at_most m [] l = refl
one_at_most m (e ∷ []) l = ap (λ (r : ℕ). unless_refused r m (after_release m e)) (sym (or-none (release_refusal m e)))
one_at_most m (e ∷ x ∷ es) l = absurd (omega arith)

pub all-by-one : {m : Memory} (es : List Provenance) → length es ≤ 1 → {answer : ℕ} {R C : List ℕ} → ReleasedUntil m es answer R C → ReleasedAll m es answer R C
all-by-one {m} es l {answer} {R} {C} k = record { refusal = k.refusal; nodes = subst (λ (x : Memory). HoldsNodes x R C) (one_at_most m es l) k.nodes }
