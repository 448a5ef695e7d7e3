-- Between which allocations the entries of a list are, and how the marks and codes of these are put back after a refusal: the others stayed
-- as they were.
use Rattle.std.specs.Prelude.{if◌then◌else◌}
use Prim.Native.Nat.{ℕ, min, max, ◌+◌, ◌-◌, ◌*◌, ◌/◌, ◌≤◌, ◌<◌}
use mathlib.Core.Path.{◌≡◌, refl, sym, ap, ap₂, subst, ◌∙◌}
use mathlib.Core.Bool.{Bool, true, false}
use mathlib.Core.List.{List, [], ◌∷◌, ◌++◌, append_assoc}
use native.Mathlib.Numerals.{add-one}
use native.Mathlib.Omega.{arith}
use borrow.Author.Tests.{ne_eqb}
use lib.Dec.{eqb}
use lib.ListN.{length, get_or, take, drop, replicate, length-append, length-drop, take-append-drop}
use lib.Seq.{length-take-le, take_at, drop_at, take-suc, take-add, take-length, drop-drop}
use Rattle.definition.specs.Memory.{Allocation, Memory, Provenance, was_made}
use Rattle.definition.specs.Frame.{release_refusal, after_release_in, after_release, release_all_refusal, after_release_all}
use Rattle.definition.specs.Valid.{All}
use Rattle.definition.proofs.Alls.{if-holds, all-imp, all_append}
use Rattle.definition.proofs.ValidMemory.{was-made}
use Rattle.definition.proofs.Lists.{take-mutate, drop-mutate}
use Rattle.definition.proofs.Places.{all-at}
use Rattle.tables.specs.Encoding.{protectors_of, codes_of, concat_map, pad, held}
use Rattle.tables.specs.Held.{Records, StartsAt, start_of}
use Rattle.tables.specs.declared.Starts.{Starts}
use Rattle.tables.proofs.Focus.{concat-append, length-held}
use Rattle.tables.proofs.Sizes.{protectors-fit, codes-fit}
use Rattle.frames.specs.Buffer.{entries_in}
use Rattle.parts.specs.Trees.{HoldsMarked}
use Rattle.end_call.specs.Release.{HoldsNodes, AllMade, Spans, Touched, until_refused, ReleasedUntil, ReleasedAll}
use Rattle.parts.proofs.Lent.{records-of}
use Rattle.end_call.proofs.Releases.{records-until}

-- ---- the least and the greatest number of a list
-- of the first i; the greatest is one of them all
pub record Ranged (numbers : List ℕ) (i least greatest : ℕ) : Type 0 where
  pub ordered : least ≤ greatest
  pub among : All (λ w. (least ≤ w) × (w ≤ greatest)) (take i numbers)
  pub one : (n : ℕ) → All (λ w. w < n) numbers → greatest < n

pub ranged-first : (numbers : List ℕ) → 0 < length numbers → Ranged numbers 0 (get_or numbers 0 0) (get_or numbers 0 0)
ranged-first numbers h = record {
  ordered = omega arith;
  among = tt;
  one = λ n below. all-at (λ w. w < n) numbers 0 0 below h;
}

pub ranged-more : (numbers : List ℕ) (i least greatest : ℕ) → i < length numbers → Ranged numbers i least greatest
    → Ranged numbers (i + 1) (min least (get_or numbers i 0)) (max greatest (get_or numbers i 0))
ranged-more numbers i least greatest h r =
    let x = get_or numbers i 0 in
    let l : ℕ = min least x in
    let g : ℕ = max greatest x in
    let low : (w : ℕ) → least ≤ w → min least x ≤ w = λ w e. omega arith in
    let high : (w : ℕ) → w ≤ greatest → w ≤ max greatest x = λ w e. omega arith in
    record {
      ordered = omega (arith, r.ordered);
      among =
          rw (add-one, take-suc numbers i 0 h)
          (all_append (λ w. (l ≤ w) × (w ≤ g)) (take i numbers) (x ∷ [])
          (all-imp (λ w. (least ≤ w) × (w ≤ greatest)) (λ w. (l ≤ w) × (w ≤ g)) (λ w b. (low w b.0, high w b.1)) (take i numbers) r.among)
          ((omega arith, omega arith), tt));
      one = λ n below. omega (arith, r.one n below, all-at (λ w. w < n) numbers i 0 below h);
    }

among_in : (l g : ℕ) (numbers : List ℕ) → All (λ w. (l ≤ w) × (w ≤ g)) numbers → All (λ e. (l / 4096 ≤ e.allocation) × (e.allocation < g / 4096 + 1)) (entries_in numbers)
among_in l g [] a = tt
among_in l g (w ∷ numbers) a = let low : l ≤ w = a.0.0 in let high : w ≤ g = a.0.1 in ((omega arith, omega arith), among_in l g numbers a.1)

below_in : (n : ℕ) (numbers : List ℕ) → All (λ e. e.allocation < n) (entries_in numbers) → All (λ w. w < n * 4096) numbers
below_in n [] a = tt
below_in n (w ∷ numbers) a = let low : w / 4096 < n = a.0 in (omega arith, below_in n numbers a.1)

pub spans-none : (numbers : List ℕ) → length numbers ≡ 0 → Spans (entries_in numbers) 0 0
spans-none [] e = record { ordered = omega arith; among = tt; least = λ n a. omega arith }
spans-none (w ∷ numbers) e = absurd (omega arith)

pub spans-ranged : (numbers : List ℕ) (i l g : ℕ) → i ≡ length numbers → Ranged numbers i l g → Spans (entries_in numbers) (l / 4096) (g / 4096 + 1)
spans-ranged numbers i l g e r = record {
  ordered = omega (arith, r.ordered);
  among = among_in l g numbers (subst (λ (x : List ℕ). All (λ w. (l ≤ w) × (w ≤ g)) x) (ap (λ (k : ℕ). take k numbers) e ∙ take-length numbers) r.among);
  least = λ n a. omega (arith, r.one (n * 4096) (below_in n numbers a));
}

-- the allocations of entries that were made
pub spans-made : (m : Memory) (es : List Provenance) (first end : ℕ) → Spans es first end → AllMade m es → end ≤ length m
spans-made m es first end s made = s.least (length m) (all-imp (λ e. was_made m e ≡ true) (λ e. e.allocation < length m) (λ e w. (was-made m e w).allocation) es made)

-- where their marks and codes are
pub touched : {A : List ℕ} {es : List Provenance} {first end : ℕ} {from to : Starts} → Spans es first end
    → ((m : Memory) → Records m A → StartsAt m first from.words from.nodes from.codes)
    → ((m : Memory) → Records m A → StartsAt m end to.words to.nodes to.codes) → Touched A es from to
touched {A} {es} {first} {end} s starts ends = record { first = first; end = end; spans = s; starts = starts; ends = ends }

-- ---- the allocations before and behind them
-- what no release of entries in Q changes
until-same : (view : Memory → Memory) (Q : Provenance → Type 0) → ((m : Memory) (e : Provenance) → Q e → view (after_release m e) ≡ view m)
    → (es : List Provenance) (m : Memory) → All Q es → view (until_refused m es) ≡ view m
unfolding until_refused
until-same view Q same [] m q = refl
until-same view Q same (e ∷ es) m q =
    if-holds (λ l. view l ≡ view m) (eqb (release_refusal m e) 0) (until_refused (after_release m e) es) m
    (λ t. until-same view Q same es (after_release m e) q.1 ∙ same m e q.0) (λ t. refl)

module _ (m : Memory) (es : List Provenance) (first end : ℕ) (s : Spans es first end) where
  before_same : take first (until_refused m es) ≡ take first m
  unfolding after_release
  before_same =
      until-same (take first) (λ e. (first ≤ e.allocation) × (e.allocation < end))
      (λ l e q. take-mutate first e.allocation (after_release_in e.node) l q.0) es m s.among

  behind-same : drop end (until_refused m es) ≡ drop end m
  unfolding after_release
  behind-same =
      until-same (drop end) (λ e. (first ≤ e.allocation) × (e.allocation < end))
      (λ l e q. drop-mutate end e.allocation (after_release_in e.node) l q.1) es m s.among

-- ---- their parts of a buffer
module _ (total : ℕ) (f : Allocation → List ℕ) where
  abbrev rest : Memory → ℕ → List ℕ
  rest m a = concat_map f (drop a m) ++ replicate (total - length (concat_map f m)) 0

  concat-split : (m : Memory) (a : ℕ) → concat_map f m ≡ concat_map f (take a m) ++ concat_map f (drop a m)
  concat-split m a = ap (concat_map f) (sym (take-append-drop a m)) ∙ concat-append f (take a m) (drop a m)

  held-split : (m : Memory) (a : ℕ) → held total f m ≡ concat_map f (take a m) ++ rest m a
  unfolding held pad
  held-split m a =
      let zeros : List ℕ = replicate (total - length (concat_map f m)) 0 in
      ap (λ (t : List ℕ). t ++ zeros) (concat-split m a) ∙ append_assoc (concat_map f (take a m)) (concat_map f (drop a m)) zeros

  length-split : (m : Memory) (a : ℕ) → length (concat_map f m) ≡ start_of f m a + length (concat_map f (drop a m))
  length-split m a = ap length (concat-split m a) ∙ length-append (concat_map f (take a m)) (concat_map f (drop a m))

  start-within : (m : Memory) (a b : ℕ) → a ≤ b → start_of f m a ≤ start_of f m b
  start-within m a b h =
      let e : b ≡ a + (b - a) = omega arith in
      let parts : start_of f m b ≡ start_of f m a + length (concat_map f (take (b - a) (drop a m))) =
      ap (start_of f m) e ∙ ap (λ (l : Memory). length (concat_map f l)) (take-add a (b - a) m)
      ∙ ap length (concat-append f (take a m) (take (b - a) (drop a m))) ∙ length-append (concat_map f (take a m)) (concat_map f (take (b - a) (drop a m)))
      in omega (arith, parts)

  module _ (l m : Memory) (a n : ℕ) (there : n ≡ start_of f l a) (here : n ≡ start_of f m a) where
    before-held : take a l ≡ take a m → take n (held total f l) ≡ take n (held total f m)
    before-held same =
        ap (take n) (held-split l a) ∙ take_at (concat_map f (take a l)) (rest l a) n (sym there) ∙ ap (concat_map f) same
        ∙ sym (ap (take n) (held-split m a) ∙ take_at (concat_map f (take a m)) (rest m a) n (sym here))

    behind-held : drop a l ≡ drop a m → drop n (held total f l) ≡ drop n (held total f m)
    behind-held same =
        let long : length (concat_map f l) ≡ length (concat_map f m) =
        length-split l a ∙ ap₂ (λ (j : ℕ) (x : Memory). j + length (concat_map f x)) (sym there ∙ here) same ∙ sym (length-split m a)
        in
        ap (drop n) (held-split l a) ∙ drop_at (concat_map f (take a l)) (rest l a) n (sym there)
        ∙ ap₂ (λ (x : Memory) (k : ℕ). concat_map f x ++ replicate (total - k) 0) same long
        ∙ sym (ap (drop n) (held-split m a) ∙ drop_at (concat_map f (take a m)) (rest m a) n (sym here))

-- ---- a part is saved before some other numbers, and put back
restored : (start end : ℕ) (before now others : List ℕ) → start ≤ end → end ≤ length before → take start now ≡ take start before → drop end now ≡ drop end before
    → {saved new : List ℕ} → saved ≡ take (end - start) (drop start before) ++ others → new ≡ take start now ++ (take (end - start) saved ++ drop end now) → new ≡ before
restored start end before now others h fits front back {saved} {new} is put =
    let k : ℕ = end - start in
    let part : List ℕ = take k (drop start before) in
    let whole : start + k ≡ end = omega arith in
    let wide : length part ≡ k = length-take-le k (drop start before) (simp length-drop (omega arith)) in
    put
    ∙ ap₂ (λ (p q : List ℕ). p ++ (take k saved ++ q)) front back
    ∙ ap (λ (x : List ℕ). take start before ++ (take k x ++ drop end before)) is
    ∙ ap (λ (x : List ℕ). take start before ++ (x ++ drop end before)) (take_at part others k wide)
    ∙ ap (λ (x : List ℕ). take start before ++ (part ++ x)) (ap (λ (j : ℕ). drop j before) (sym whole) ∙ sym (drop-drop k start before))
    ∙ ap (λ (x : List ℕ). take start before ++ x) (take-append-drop k (drop start before))
    ∙ take-append-drop start before

module _ {m : Memory} {A P R C : List ℕ} (h : HoldsMarked m A P R C) where
  pub marks-length : length R ≡ 1024
  marks-length = ap length h.trees.protectors ∙ length-held 1024 protectors_of m (protectors-fit m h.valid)

  pub codes-length : length C ≡ 32768
  codes-length = ap length h.trees.codes ∙ length-held 32768 codes_of m (codes-fit m h.valid)

  module _ {es : List Provenance} {from to : Starts} (t : Touched A es from to) where
    here : StartsAt m t.first from.words from.nodes from.codes
    here = t.starts m (records-of h)

    there : StartsAt m t.end to.words to.nodes to.codes
    there = t.ends m (records-of h)

    pub nodes-ordered : from.nodes ≤ to.nodes
    nodes-ordered = omega (arith, here.protectors, there.protectors, start-within 1024 protectors_of m t.first t.end t.spans.ordered)

    pub nodes-total : to.nodes ≤ 1024
    nodes-total = omega (arith, there.protectors, length-split 1024 protectors_of m t.end, protectors-fit m h.valid)

    pub codes-ordered : from.codes ≤ to.codes
    codes-ordered = omega (arith, here.codes, there.codes, start-within 32768 codes_of m t.first t.end t.spans.ordered)

    pub codes-total : to.codes ≤ 32768
    codes-total = omega (arith, there.codes, length-split 32768 codes_of m t.end, codes-fit m h.valid)

    -- M and D hold what was saved, before others
    pub some-refused : {answer : ℕ} {R' C' : List ℕ} → ReleasedUntil m es answer R' C' → (answer ≡ 0 → ⊥) → (others behind : List ℕ) {M D R'' C'' : List ℕ}
        → M ≡ take (to.nodes - from.nodes) (drop from.nodes R) ++ others → D ≡ take (to.codes - from.codes) (drop from.codes C) ++ behind
        → R'' ≡ take from.nodes R' ++ (take (to.nodes - from.nodes) M ++ drop to.nodes R')
        → C'' ≡ take from.codes C' ++ (take (to.codes - from.codes) D ++ drop to.codes C')
        → ReleasedAll m es answer R'' C''
    some-refused {answer} {R'} {C'} k z others behind {M} {D} {R''} {C''} saved_marks saved_codes marks_back codes_back =
        let l : Memory = until_refused m es in
        let some : eqb (release_all_refusal m es) 0 ≡ false = ne_eqb (release_all_refusal m es) 0 (λ q. z (k.refusal ∙ q)) in
        let s : StartsAt l t.first from.words from.nodes from.codes = t.starts l (records-until h es) in
        let e : StartsAt l t.end to.words to.nodes to.codes = t.ends l (records-until h es) in
        let front : take t.first l ≡ take t.first m = before_same m es t.first t.end t.spans in
        let back : drop t.end l ≡ drop t.end m = behind-same m es t.first t.end t.spans in
        let marks = h.trees.protectors in
        let codes = h.trees.codes in
        let stays : HoldsNodes m R'' C'' = record {
          protectors =
              restored from.nodes to.nodes R R' others nodes-ordered (omega (arith, nodes-total, marks-length))
              (ap (take from.nodes) k.nodes.protectors ∙ before-held 1024 protectors_of l m t.first from.nodes s.protectors here.protectors front ∙ ap (take from.nodes) (sym marks))
              (ap (drop to.nodes) k.nodes.protectors ∙ behind-held 1024 protectors_of l m t.end to.nodes e.protectors there.protectors back ∙ ap (drop to.nodes) (sym marks))
              saved_marks marks_back
              ∙ marks;
          codes =
              restored from.codes to.codes C C' behind codes-ordered (omega (arith, codes-total, codes-length))
              (ap (take from.codes) k.nodes.codes ∙ before-held 32768 codes_of l m t.first from.codes s.codes here.codes front ∙ ap (take from.codes) (sym codes))
              (ap (drop to.codes) k.nodes.codes ∙ behind-held 32768 codes_of l m t.end to.codes e.codes there.codes back ∙ ap (drop to.codes) (sym codes))
              saved_codes codes_back
              ∙ codes;
        } in
        record {
          refusal = k.refusal;
          nodes = subst (λ (b : Bool). HoldsNodes (if b then after_release_all m es else m) R'' C'') (sym some) stays;
        }
