-- A visit as the code makes it, over the tables. That it is the definition's is shown in the proofs of `tree` (Meaning).
use Rattle.std.specs.Prelude.{ℕ, zero, suc, ◌+◌, ◌*◌, ◌≤◌, ◌<◌, ◌≡◌, Bool, true, false, ◌&&◌, List, [], ◌∷◌, ◌++◌, map, length, get_or, take, drop, replicate, Some, None, Result, Ok, Err}
use Rattle.std.proofs.Math.Option.{Option, none, some}
use Rattle.definition.specs.Notation.{◌or◌, first_refusal}
use Rattle.definition.specs.Permission.{AccessKind, NodeRelation}
use Rattle.definition.specs.Permission.AccessKind.{Read, Write}
use Rattle.definition.specs.Tree.{relation}
use Rattle.definition.proofs.Trees.{Parents}
use Rattle.definition.proofs.Order.{walk}
use Rattle.refusal.specs.Number.{number}
use Rattle.refusal.specs.declared.Refusal.{Refusal}
use Rattle.permission.specs.Codes.{Outcome, access_kind, transition_code, refusal_code, next_code, init_access_code}
use Rattle.visit.specs.declared.Accesses.{Accesses}
use Rattle.visit.specs.declared.Accesses.TheVariants as accesses
use Rattle.visit.specs.declared.Accesses.TheVariants.{Each, AtInit}
use Rattle.visit.specs.declared.Effect.{Effect}
use Rattle.visit.specs.declared.Effect.TheVariants.{Stays, Changes}
use Rattle.visit.specs.declared.Reach.{Reach}

-- a visit that can be made: its node is in the tree, its bytes are in a row, and the table has a row for each node, of which there are at most 1,024
pub record Ready (v : Reach) (ps codes : List ℕ) : Type 0 where
  pub tree : Parents ps
  pub node : v.node < length ps
  pub inside : v.from + v.len ≤ v.width
  pub rows : length codes ≡ length ps * v.width
  pub few : length ps ≤ 1024

-- ---- the accesses at the bytes, from the first visited one on
-- the one that a number tells
unfoldable pub told_access : ℕ → Option AccessKind
told_access zero = none
told_access (suc zero) = some Read
told_access (suc (suc k)) = some Write

-- at the k-th of them
abbrev pub access_at : Accesses → List ℕ → ℕ → Option AccessKind
access_at (Each a) lent k = some (access_kind a)
access_at accesses.Told lent k = told_access (get_or lent k 0)
access_at AtInit lent k = init_access_code (get_or lent k 0)

-- at n of them
abbrev pub accesses_at : Accesses → ℕ → List ℕ → List (Option AccessKind)
accesses_at (Each a) n lent = replicate n (some (access_kind a))
accesses_at accesses.Told n lent = map told_access (take n lent)
accesses_at AtInit n lent = map init_access_code (take n lent)

abbrev pub planned : Reach → List ℕ → List (Option AccessKind)
planned v lent = accesses_at v.what v.len lent

-- the same visit with its accesses said in another way
pub record SameVisit (v : Reach) (lent : List ℕ) (r : Reach) : Type 0 where
  pub same : r ≡ record { node = v.node; spared = v.spared; width = v.width; from = v.from; len = v.len; what = r.what }
  pub accesses : accesses_at r.what v.len lent ≡ planned v lent

-- ---- what a check tells: of what is refused, and of the codes before and after
abbrev pub Answer : Type 0
Answer = Result Effect Refusal

abbrev pub Told : ℕ → List ℕ → List ℕ → Answer → Type 0
Told refused before after (Ok Stays) = (refused ≡ 0) × (before ≡ after)
Told refused before after (Ok Changes) = refused ≡ 0
Told refused before after (Err refusal) = number refusal ≡ refused

-- of an effect and a later one
abbrev pub together : Effect → Effect → Effect
together Stays later = later
together Changes later = Changes

-- ---- one code
abbrev pub outcome_at : Option AccessKind → NodeRelation → ℕ → Outcome
outcome_at none r c = Ok None
outcome_at (some a) r c = transition_code a r c

abbrev pub is_stays : Outcome → Bool
is_stays (Ok None) = true
is_stays (Ok (Some d)) = false
is_stays (Err n) = false

-- ---- a row
-- the first refusal of codes under accesses
unfoldable pub codes_refusal : NodeRelation → List (Option AccessKind) → List ℕ → ℕ
codes_refusal r xs [] = 0
codes_refusal r [] (c ∷ cs) = 0
codes_refusal r (x ∷ xs) (c ∷ cs) = refusal_code x r c or codes_refusal r xs cs

-- the codes that accesses leave
unfoldable pub codes_after : NodeRelation → List (Option AccessKind) → List ℕ → List ℕ
codes_after r xs [] = []
codes_after r [] (c ∷ cs) = c ∷ cs
codes_after r (x ∷ xs) (c ∷ cs) = next_code x r c ∷ codes_after r xs cs

-- whether every code stays
unfoldable pub codes_stay : NodeRelation → List (Option AccessKind) → List ℕ → Bool
codes_stay r xs [] = true
codes_stay r [] (c ∷ cs) = true
codes_stay r (x ∷ xs) (c ∷ cs) = is_stays (outcome_at x r c) && codes_stay r xs cs

-- the same of the visited bytes of a row, by themselves
abbrev pub bytes_refusal : Accesses → List ℕ → NodeRelation → List ℕ → ℕ
bytes_refusal what lent r cs = codes_refusal r (accesses_at what (length cs) lent) cs

abbrev pub bytes_after : Accesses → List ℕ → NodeRelation → List ℕ → List ℕ
bytes_after what lent r cs = codes_after r (accesses_at what (length cs) lent) cs

abbrev pub bytes_stay : Accesses → List ℕ → NodeRelation → List ℕ → Bool
bytes_stay what lent r cs = codes_stay r (accesses_at what (length cs) lent) cs

-- what a short row is asked: nothing where bytes have accesses of their own
abbrev pub short_stays : Accesses → NodeRelation → List ℕ → Bool
short_stays (Each a) r cs = bytes_stay (Each a) [] r cs
short_stays accesses.Told r cs = false
short_stays AtInit r cs = false

abbrev pub ToldBytes : Accesses → List ℕ → NodeRelation → List ℕ → Answer → Type 0
ToldBytes what lent r cs = Told (bytes_refusal what lent r cs) cs (bytes_after what lent r cs)

abbrev pub row_refusal : Reach → List ℕ → NodeRelation → List ℕ → ℕ
row_refusal v lent r row = codes_refusal r (planned v lent) (drop v.from row)

abbrev pub row_after : Reach → List ℕ → NodeRelation → List ℕ → List ℕ
row_after v lent r row = take v.from row ++ codes_after r (planned v lent) (drop v.from row)

-- what the check of a row tells
abbrev pub ToldRow : Reach → List ℕ → NodeRelation → List ℕ → Answer → Type 0
ToldRow v lent r row = Told (row_refusal v lent r row) row (row_after v lent r row)

-- ---- a node
-- row n of a table, and the table with another row there
abbrev pub row_at : ℕ → ℕ → List ℕ → List ℕ
row_at width n codes = take width (drop (n * width) codes)

abbrev pub with_row_at : ℕ → ℕ → List ℕ → List ℕ → List ℕ
with_row_at width n row codes = take (n * width) codes ++ (row ++ drop width (drop (n * width) codes))

unfoldable pub node_refusal : Reach → List ℕ → List ℕ → List ℕ → ℕ → ℕ
node_refusal v ps lent codes n = row_refusal v lent (relation ps n v.node) (row_at v.width n codes)

unfoldable pub node_after : Reach → List ℕ → List ℕ → ℕ → List ℕ → List ℕ
node_after v ps lent n codes =
    with_row_at v.width n (row_after v lent (relation ps n v.node) (row_at v.width n codes)) codes

-- ---- the tree
-- the descendants of a node, without s and its own; and the node with them
abbrev pub below : ℕ → ℕ → List ℕ → List ℕ
below s n ps = walk s n (n + 1) (drop (n + 1) ps)

abbrev pub subtree : ℕ → ℕ → List ℕ → List ℕ
subtree s n ps = n ∷ below s n ps

-- where a visit goes from a node on: to it, to its descendants, and to the siblings made after it with theirs; the root has none
unfoldable pub nodes_from : ℕ → List ℕ → ℕ → List ℕ
nodes_from s ps zero = subtree s 0 ps
nodes_from s ps (suc m) = walk s (get_or ps (suc m) 0) (suc m) (drop (suc m) ps)

-- the first refusal at the nodes of a list
abbrev pub walk_refusal : Reach → List ℕ → List ℕ → List ℕ → List ℕ → ℕ
walk_refusal v ps lent codes ns = first_refusal (node_refusal v ps lent codes) ns

-- the table after the nodes of a list
unfoldable pub walk_after : Reach → List ℕ → List ℕ → List ℕ → List ℕ → List ℕ
walk_after v ps lent [] codes = codes
walk_after v ps lent (n ∷ ns) codes = walk_after v ps lent ns (node_after v ps lent n codes)

-- what the check of the nodes of a list tells
abbrev pub ToldOf : Reach → List ℕ → List ℕ → List ℕ → List ℕ → Answer → Type 0
ToldOf v ps lent codes ns = Told (walk_refusal v ps lent codes ns) codes (walk_after v ps lent ns codes)
