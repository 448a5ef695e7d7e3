-- How many nodes an allocation has, and where one more goes.
use Prim.Native.Nat.{ℕ, ◌≤◌, ◌<◌}
use mathlib.Core.Path.{◌≡◌, refl, ap, ◌∙◌}
use mathlib.Core.List.{List}
use native.Mathlib.Omega.{arith}
use lib.ListN.{length}
use Rattle.definition.specs.Notation.{sum_of}
use Rattle.definition.specs.Memory.{Allocation, Memory, allocation_at, size, node_count}
use Rattle.definition.specs.Valid.{Valid}
use Rattle.tables.specs.Encoding.{parents_of, protectors_of, codes_of}
use Rattle.tables.specs.declared.Allocation as record-read
use Rattle.tables.specs.Held.{Records, Used, PlaceFor}
use Rattle.tables.proofs.Focus.{focus-used}
use Rattle.tables.proofs.Sizes.{length-parents, length-protectors, parents-fit, codes_at}
use Rattle.tables.proofs.Lookup.{nodes-at, start-more, record_at}
use Rattle.parts.specs.declared.Parts.{Parts}
use Rattle.parts.specs.Trees.{PartsOf}

-- ---- its nodes
pub count_small : (m : Memory) → Valid m → (n : ℕ) → n < length m → node_count (allocation_at m n) ≤ 1024
count_small m v n made = omega (arith, length-parents (allocation_at m n), focus-used 1024 parents_of m n made, parents-fit m v)

pub read-nodes : {m : Memory} {A : List ℕ} → Records m A → {n : ℕ} → n < length m → {r : record-read.Allocation} → r ≡ record_at A n → r.nodes ≡ node_count (allocation_at m n)
read-nodes h {n} made q = ap (λ (x : record-read.Allocation). x.nodes) q ∙ nodes-at h n made

-- ---- a node more
module _ {m : Memory} {n : ℕ} {r : Parts} (t : PartsOf m n r) where
  abbrev a : Allocation
  a = allocation_at m n

  -- it goes behind the tree's others
  pub place-for : Valid m → {nodes codes : ℕ} → Used m (sum_of size m) nodes codes → PlaceFor m n nodes codes r.nodes.end r.codes.end
  place-for v u =
      record {
        used = u;
        behind =
            record {
              words = refl;
              parents = omega (arith, t.behind, t.starts.parents, start-more parents_of m n t.made, length-parents a);
              protectors = omega (arith, t.behind, t.starts.protectors, start-more protectors_of m n t.made, length-protectors a);
              codes = omega (arith, t.end, t.starts.codes, start-more codes_of m n t.made, codes_at m v n t.made);
            };
      }
