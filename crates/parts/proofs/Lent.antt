-- One allocation's parts of the tables, as they are lent: they hold its tree, and what comes back makes the tables of the memory with the tree changed.
use Rattle.std.specs.Prelude.{if◌then◌else◌}
use Prim.Native.Nat.{ℕ, ◌+◌, ◌-◌, ◌*◌, ◌≤◌, ◌<◌}
use mathlib.Core.Path.{◌≡◌, refl, sym, ap, ap₂, ◌∙◌}
use mathlib.Core.Bool.{Bool, true, false}
use mathlib.Core.List.{List}
use native.Mathlib.Omega.{arith}
use borrow.Rule.Slice.PartMut.{put_mid}
use lib.Dec.{eqb}
use lib.ListN.{length, take, drop}
use Rattle.definition.specs.Notation.{mutate_at}
use Rattle.definition.specs.Tree.{Visit, visited}
use Rattle.definition.specs.Memory.{Allocation, Memory, allocation_at, node_count, code_count}
use Rattle.definition.specs.Valid.{ValidAllocation}
use Rattle.definition.proofs.Places.{valid-at}
use Rattle.tables.specs.Encoding.{Buffers, held_records, parents_of, protectors_of, words_of, codes_of, held}
use Rattle.tables.specs.Held as tables
use Rattle.tables.specs.Held.{buffers, Records, StartsAt}
use Rattle.tables.proofs.Focus.{length-held, focus-same}
use Rattle.tables.proofs.Sizes.{length-parents, length-protectors, parents-fit, words-fit, codes_at}
use Rattle.tables.specs.declared.Allocation as lent_record
use Rattle.tables.proofs.Lookup.{record_at, read-starts, nodes-at, size-at}
use Rattle.tables.proofs.ReadBack.{holds-allocs, holds-parents, holds-protectors, holds-codes, encode-of}
use Rattle.tables.proofs.Lent as lent
use Rattle.tree.specs.Table.{rows_of, marks, Holds, HoldsMarks, HoldsAll}
use Rattle.tree.specs.Requests.{Made}
use Rattle.parts.specs.declared.Parts.{Parts}
use Rattle.parts.specs.Trees.{HoldsTrees, HoldsMarked, parts_in, PartsOf, TreeAt, after_visit, TreeVisited}
use Rattle.parts.proofs.Trees.{codes-rows, protectors-marks, holds-tree, holds-marks, holds-all, visited-codes}

-- ---- from more buffers to fewer
pub holds-marked : {m : Memory} {b : Buffers} → tables.Holds m b → HoldsMarked m b.allocs b.parents b.protectors b.codes
holds-marked h = record {
  valid = h.valid;
  trees = record { allocs = holds-allocs h; parents = holds-parents h; protectors = holds-protectors h; codes = holds-codes h };
}

pub records-of : {m : Memory} {A P R C : List ℕ} → HoldsMarked m A P R C → Records m A
records-of h = record { valid = h.valid; allocs = h.trees.allocs }

pub trees-of : {m : Memory} {A P R C : List ℕ} → HoldsMarked m A P R C → HoldsTrees m A P C
trees-of h = record { records = records-of h; parents = h.trees.parents; codes = h.trees.codes }

pub holds-trees : {m : Memory} {b : Buffers} → tables.Holds m b → HoldsTrees m b.allocs b.parents b.codes
holds-trees h = trees-of (holds-marked h)

pub tree-at : {m : Memory} {n : ℕ} {A P C : List ℕ} {r : Parts} → HoldsTrees m A P C → PartsOf m n r → TreeAt m n P C r
tree-at h t = record { valid = h.records.valid; parents = h.parents; codes = h.codes; part = t }

-- ---- from what is read of the records
pub parts-read : {m : Memory} {A : List ℕ} → Records m A → {n : ℕ} → n < length m → {a : lent_record.Allocation} → a ≡ record_at A n → PartsOf m n (parts_in a)
parts-read h {n} made {a} read =
    let s = read-starts h made read in
    let count = ap (λ (x : lent_record.Allocation). x.nodes) read ∙ nodes-at h n made in
    let long = ap (λ (x : lent_record.Allocation). x.size) read ∙ size-at h n made in
    record {
      made = made;
      starts = record { words = refl; parents = s.parents; protectors = s.protectors; codes = s.codes };
      behind = ap (λ (k : ℕ). a.starts.nodes + k) count;
      end = ap₂ (λ (k z : ℕ). a.starts.codes + k * z) count long;
      width = long;
    }

module _ {m : Memory} {n : ℕ} {P C : List ℕ} {r : Parts} (h : TreeAt m n P C r) where
  abbrev x : Allocation
  x = allocation_at m n

  made : n < length m
  made = h.part.made

  starts : StartsAt m n (tables.start_of words_of m n) r.nodes.start r.codes.start
  starts = h.part.starts

  valid : ValidAllocation x
  valid = valid-at m n h.valid made

  -- the other buffers may be those of m
  whole : {R : List ℕ} → R ≡ held 1024 protectors_of m → tables.Holds m (buffers (held_records m) P R (held 4096 words_of m) C)
  whole marked = record { valid = h.valid; equal = encode-of m refl h.parents marked refl h.codes }

  node-span : r.nodes.end - r.nodes.start ≡ node_count x
  node-span = omega (arith, h.part.behind)

  code-span : r.codes.end - r.codes.start ≡ code_count x
  code-span = omega (arith, h.part.end)

  -- ---- they lie in the tables
  pub nodes-ordered : r.nodes.start ≤ r.nodes.end
  nodes-ordered = omega (arith, h.part.behind)

  pub codes-ordered : r.codes.start ≤ r.codes.end
  codes-ordered = omega (arith, h.part.end)

  pub parents-in : r.nodes.end ≤ length P
  parents-in = omega (arith, h.part.behind, lent.parents-room (whole refl) made starts)

  pub codes-in : r.codes.end ≤ length C
  codes-in = omega (arith, h.part.end, lent.codes-room (whole refl) made starts)

  pub nodes-small : r.nodes.end ≤ 1024
  nodes-small = omega (arith, parents-in, ap length h.parents, length-held 1024 parents_of m (parents-fit m h.valid))

  pub width_small : r.width ≤ 4096
  width_small = omega (arith, h.part.width, lent.words-room (whole refl) made starts, length-held 4096 words_of m (words-fit m h.valid))

  few : node_count x ≤ 1024
  few = omega (arith, nodes-small, h.part.behind)

  -- ---- they hold its tree
  parents-part : take (r.nodes.end - r.nodes.start) (drop r.nodes.start P) ≡ parents_of x
  parents-part = ap (λ (k : ℕ). take k (drop r.nodes.start P)) node-span ∙ lent.parents-part (whole refl) made starts

  codes-part : take (r.codes.end - r.codes.start) (drop r.codes.start C) ≡ codes_of x
  codes-part = ap (λ (k : ℕ). take k (drop r.codes.start C)) code-span ∙ lent.codes-part (whole refl) made starts

  pub tree-held : Holds x.nodes r.width (take (r.nodes.end - r.nodes.start) (drop r.nodes.start P)) (take (r.codes.end - r.codes.start) (drop r.codes.start C))
  tree-held = rw (parents-part, codes-part, h.part.width) (holds-tree x valid few)

  pub node_in : {node : ℕ} → node < node_count x → node < length (take (r.nodes.end - r.nodes.start) (drop r.nodes.start P))
  node_in l = omega (arith, ap length parents-part, length-parents x)

  -- ---- and come back, with the tree as it was or as g leaves it
  given-codes : (g : Allocation → Allocation) (last : List ℕ) → length last ≡ code_count x → codes_of (g x) ≡ last
      → put_mid r.codes.start (r.codes.end - r.codes.start) C last ≡ held 32768 codes_of (mutate_at n g m)
  given-codes g last l e = ap (λ (k : ℕ). put_mid r.codes.start k C last) code-span ∙ lent.given-codes (whole refl) made starts g last l e

  pub codes-after : (g : Allocation → Allocation) → length (rows_of (g x).nodes) ≡ code_count x → (t : Bool) (last : List ℕ) → last ≡ rows_of (if t then (g x).nodes else x.nodes)
      → put_mid r.codes.start (r.codes.end - r.codes.start) C last ≡ held 32768 codes_of (if t then mutate_at n g m else m)
  codes-after g l true last e = given-codes g last (ap length e ∙ l) (codes-rows (g x) ∙ sym e)
  codes-after g l false last e =
      let e' : codes_of x ≡ last = codes-rows x ∙ sym e in
      given-codes (λ y. y) last (ap length (sym e') ∙ codes_at m h.valid n made) e' ∙ focus-same 32768 codes_of m n made (λ y. y) refl

  pub visit-after : (v : Visit) (t : Bool) (last : List ℕ) → last ≡ rows_of (if t then visited v x.nodes else x.nodes)
      → put_mid r.codes.start (r.codes.end - r.codes.start) C last ≡ held 32768 codes_of (if t then mutate_at n (after_visit v) m else m)
  visit-after v = codes-after (after_visit v) (visited-codes x valid v)

  pub tree-visited : {refused : ℕ} {v : Visit} {answer : ℕ} {last : List ℕ} → Made refused v x.nodes answer last
      → TreeVisited m n refused v answer (put_mid r.codes.start (r.codes.end - r.codes.start) C last)
  tree-visited {refused} {v} {last = last} k = record { refusal = k.refusal; codes = visit-after v (eqb refused 0) last k.table }

  -- ---- the same of its protectors
  module _ {R : List ℕ} (marked : R ≡ held 1024 protectors_of m) where
    pub protectors-in : r.nodes.end ≤ length R
    protectors-in = omega (arith, h.part.behind, lent.protectors-room (whole marked) made starts)

    protectors-part : take (r.nodes.end - r.nodes.start) (drop r.nodes.start R) ≡ protectors_of x
    protectors-part = ap (λ (k : ℕ). take k (drop r.nodes.start R)) node-span ∙ lent.protectors-part (whole marked) made starts

    pub all_held : HoldsAll x.nodes r.width (take (r.nodes.end - r.nodes.start) (drop r.nodes.start P)) (take (r.nodes.end - r.nodes.start) (drop r.nodes.start R)) (take (r.codes.end - r.codes.start) (drop r.codes.start C))
    all_held = rw (parents-part, protectors-part, codes-part, h.part.width) (holds-all x valid few)

    pub marks-held : HoldsMarks x.nodes r.width (take (r.nodes.end - r.nodes.start) (drop r.nodes.start R)) (take (r.codes.end - r.codes.start) (drop r.codes.start C))
    marks-held = rw (protectors-part, codes-part, h.part.width) (holds-marks x valid)

    pub node-in-marks : {node : ℕ} → node < node_count x → node < length (take (r.nodes.end - r.nodes.start) (drop r.nodes.start R))
    node-in-marks l = omega (arith, ap length protectors-part, length-protectors x)

    given-marks : (g : Allocation → Allocation) (last : List ℕ) → node_count (g x) ≡ node_count x → protectors_of (g x) ≡ last
        → put_mid r.nodes.start (r.nodes.end - r.nodes.start) R last ≡ held 1024 protectors_of (mutate_at n g m)
    given-marks g last l e =
        ap (λ (k : ℕ). put_mid r.nodes.start k R last) node-span ∙ lent.given-protectors (whole marked) made starts g last (ap length (sym e) ∙ length-protectors (g x) ∙ l) e

    pub marks-after : (g : Allocation → Allocation) → node_count (g x) ≡ node_count x → (t : Bool) (last : List ℕ) → last ≡ marks (if t then (g x).nodes else x.nodes)
        → put_mid r.nodes.start (r.nodes.end - r.nodes.start) R last ≡ held 1024 protectors_of (if t then mutate_at n g m else m)
    marks-after g l true last e = given-marks g last l (protectors-marks (g x) ∙ sym e)
    marks-after g l false last e = given-marks (λ y. y) last refl (protectors-marks x ∙ sym e) ∙ focus-same 1024 protectors_of m n made (λ y. y) refl
