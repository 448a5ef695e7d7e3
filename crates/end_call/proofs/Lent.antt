-- What comes back of an allocation's parts after a release makes the tables of the memory after it.
use Prim.Native.Nat.{ℕ, ◌-◌, ◌<◌}
use mathlib.Core.Path.{◌≡◌, refl, sym, subst}
use mathlib.Core.Bool.{Bool, true, false, false≢true}
use mathlib.Core.List.{List}
use borrow.Rule.Slice.PartMut.{put_mid, put_same}
use lib.Dec.{eqb}
use lib.ListN.{length, take, drop}
use Rattle.definition.specs.Memory.{Allocation, Liveness, Memory, Provenance, allocation_at, is_live, was_made}
use Rattle.definition.specs.Memory.Liveness.{Live, Dead}
use Rattle.definition.specs.Frame.{release_refusal_in, release_refusal, after_release_in, after_release}
use Rattle.definition.proofs.Places.{valid-at}
use Rattle.definition.proofs.ValidMemory.{was-made}
use Rattle.definition.proofs.ValidTrees.{released-length}
use Rattle.tables.specs.declared.Allocation as code
use Rattle.tables.proofs.Lookup.{record_at}
use Rattle.bounds.proofs.Points.{read_live, read-dead}
use Rattle.tree.specs.Requests as tree
use Rattle.parts.specs.declared.Parts.{Parts}
use Rattle.parts.specs.Trees.{HoldsMarked, parts_in, PartsOf, TreeAt}
use Rattle.parts.proofs.Trees.{released-codes}
use Rattle.parts.proofs.Lent.{records-of, trees-of, tree-at, parts-read, codes-after, marks-after}
use Rattle.end_call.specs.Release.{Released}

is_live_lem : (s : Liveness) → is_live s ≡ true → s ≡ Live
is_live_lem Live e = refl
is_live_lem Dead e = absurd (false≢true e)

is-dead : (s : Liveness) → is_live s ≡ false → s ≡ Dead
is-dead Live e = absurd (false≢true (sym e))
is-dead Dead e = refl

module _ {m : Memory} {A P R C : List ℕ} (h : HoldsMarked m A P R C) where
  -- the state that was read
  module _ {n : ℕ} (made : n < length m) {a : code.Allocation} (q : a ≡ record_at A n) where
    pub found-live : a.state ≡ 1 → (allocation_at m n).state ≡ Live
    found-live t = is_live_lem (allocation_at m n).state (read_live (records-of h) made q t)

    pub found-dead : (a.state ≡ 1 → ⊥) → (allocation_at m n).state ≡ Dead
    found-dead t = is-dead (allocation_at m n).state (read-dead (records-of h) made q t)

  -- an entry that was made: its allocation's parts lie where the record says
  pub entry-tree : (e : Provenance) → was_made m e ≡ true → {a : code.Allocation} → a ≡ record_at A e.allocation → {r : Parts} → r ≡ parts_in a → TreeAt m e.allocation P C r
  entry-tree e w read is =
      tree-at (trees-of h) (subst (λ (r : Parts). PartsOf m e.allocation r) (sym is) (parts-read (records-of h) (was-made m e w).allocation read))

  module _ (e : Provenance) {r : Parts} (t : PartsOf m e.allocation r) where
    abbrev x : Allocation
    x = allocation_at m e.allocation

    -- marks and codes are given back
    pub released : {state : Liveness} → x.state ≡ state → {answer : ℕ} (last_marks last_codes : List ℕ) → tree.Released state e.node x.nodes answer last_marks last_codes
        → Released m e answer (put_mid r.nodes.start (r.nodes.end - r.nodes.start) R last_marks) (put_mid r.codes.start (r.codes.end - r.codes.start) C last_codes)
    unfolding tree.release_refusal release_refusal release_refusal_in after_release after_release_in
    released is {answer} last_marks last_codes k =
        let k' : tree.Released x.state e.node x.nodes answer last_marks last_codes =
        subst (λ (l : Liveness). tree.Released l e.node x.nodes answer last_marks last_codes) (sym is) k
        in
        let lent : TreeAt m e.allocation P C r = tree-at (trees-of h) t in
        let accepted : Bool = eqb (release_refusal m e) 0 in
        record {
          refusal = k'.refusal;
          nodes = record {
            protectors = marks-after lent h.trees.protectors (after_release_in e.node) (released-length e.node x.state x.nodes) accepted last_marks k'.marked;
            codes = codes-after lent (after_release_in e.node) (released-codes x (valid-at m e.allocation h.valid t.made) e.node) accepted last_codes k'.table;
          };
        }

    -- of a dead allocation the marks stay
    pub released-dead : x.state ≡ Dead → {answer : ℕ} (last_codes : List ℕ)
        → tree.Released Dead e.node x.nodes answer (take (r.nodes.end - r.nodes.start) (drop r.nodes.start R)) last_codes
        → Released m e answer R (put_mid r.codes.start (r.codes.end - r.codes.start) C last_codes)
    released-dead dead {answer} last_codes k =
        subst (λ (l : List ℕ). Released m e answer l (put_mid r.codes.start (r.codes.end - r.codes.start) C last_codes)) (put_same r.nodes.start (r.nodes.end - r.nodes.start) R)
        (released dead (take (r.nodes.end - r.nodes.start) (drop r.nodes.start R)) last_codes k)
