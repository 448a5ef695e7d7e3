-- A retag's reads as code makes them, before the child is there: through its parent.
--     reads_before     they are refused as reads of the same bytes through the parent are on the tree as it stands, byte by byte
--     reads-at-once    they leave what one visit leaves that makes them all
--     child-row        the child's own row afterwards
--     reads-refusal-after, reads-visit-after    permissions that were read ask for the same reads
--     retag-refusal, retag-nodes    both, of the child that a retag makes
use Rattle.std.specs.Prelude.{if◌then◌else◌}
use Prim.Native.Nat.{ℕ, zero, suc, ◌+◌, ◌-◌, ◌<◌}
use mathlib.Core.Path.{◌≡◌, refl, sym, ap, ap₂, subst, fun_ext, ◌∙◌}
use mathlib.Core.Bool.{Bool, true, false}
use mathlib.Core.Option.{Option, none, some}
use mathlib.Core.List.{List, [], ◌∷◌, ◌++◌, map}
use native.Mathlib.Nat.{add-suc}
use native.Mathlib.Decide.{ℕ_discrete, dec_lt}
use native.Mathlib.Omega.{arith}
use lib.Dec.{T, eqb}
use borrow.Author.Tests.{eq-eqb, ne_eqb, le-leb, lt-leb, lt-ltb, le-ltb}
use lib.ListN.{length, get_or, take, drop, replicate, length-map, get_or-map}
use lib.Seq.{drop-cons}
use Rattle.definition.specs.Notation.{◌or◌, map_from, write_at, in_range}
use Rattle.definition.specs.Permission.{AccessKind, NodeRelation, PermissionUnprot, PermissionProt, Permission, Protected, SafePointer, refusal, next, refusal_by, next_by, mk_perm, init_access}
use Rattle.definition.specs.Permission.AccessKind.{Read, Write}
use Rattle.definition.specs.Permission.NodeRelation.{Local}
use Rattle.definition.specs.Permission.LocalRead.{no_local_read}
use Rattle.definition.specs.Permission.ForeignRead.{no_foreign_read}
use Rattle.definition.specs.Permission.Permission.{Unprot, Prot}
use Rattle.definition.specs.Permission.Protected.{No, Weak, Strong}
use Rattle.definition.specs.Permission.SafePointer.{SharedRef, MutableRef, Box}
use Rattle.definition.specs.Tree.{Node, node_at, parents, relation, visiting_order, Visit, row_refusal, row_after, node_refusal, visit_refusal, node_after, visited}
use Rattle.definition.specs.Layout.{FreezeMask}
use Rattle.definition.specs.Memory.{Allocation, changed, size, ThinPointer, node_of, offset}
use Rattle.definition.specs.Retag.{ReborrowSettings, start_perm, reborrow_settings, child_node, with_child, init_visit, init_refusal, after_init, after_reborrow_in}
use Rattle.definition.specs.Valid.{All}
use Rattle.definition.proofs.Lists.{first-none, each-then, each-id}
use Rattle.definition.proofs.Permissions.{Calm, by-test, same-permissions}
use Rattle.definition.proofs.Alls.{all_map, all_replicate, all-write}
use Rattle.definition.proofs.Trees.{Parents}
use Rattle.definition.proofs.Visits.{visit-refused, visited-commute, visited-parents}
use Rattle.definition.proofs.Ranges.{accesses_after, none-refusal, access_in, accesses_from, list-places, list-after}
use Rattle.definition.proofs.Leaves.{through, with_row, refusal-leaf, visited-leaf}

-- ---- an access of byte b alone, and none
abbrev pub byte_visit : AccessKind → ℕ → ℕ → Visit
byte_visit a node b = through node (access_in a b 1)

abbrev pub byte_refusal : Option AccessKind → ℕ → ℕ → List Node → ℕ
byte_refusal none node b nodes = 0
byte_refusal (some a) node b nodes = visit_refusal (byte_visit a node b) nodes

-- the first refusal of the inside bytes' reads through a node, all on the same tree
unfoldable pub reads_refusal : ℕ → ℕ → List Permission → List Node → ℕ
reads_refusal node b [] nodes = 0
reads_refusal node b (p ∷ inside) nodes = byte_refusal (init_access p) node b nodes or reads_refusal node (suc b) inside nodes

-- for a loop over the inside bytes: byte i, then those behind it
pub reads-step : (node from : ℕ) (inside : List Permission) (nodes : List Node) (d : Permission) (i : ℕ) → i < length inside
    → reads_refusal node (from + i) (drop i inside) nodes ≡ (byte_refusal (init_access (get_or inside i d)) node (from + i) nodes or reads_refusal node (from + suc i) (drop (suc i) inside) nodes)
unfolding reads_refusal
reads-step node from inside nodes d i l =
    ap (λ (ps : List Permission). reads_refusal node (from + i) ps nodes) (drop-cons inside i d l)
    ∙ ap (λ (b : ℕ). byte_refusal (init_access (get_or inside i d)) node (from + i) nodes or reads_refusal node b (drop (suc i) inside) nodes) (sym (add-suc from i))

one_byte : (b k : ℕ) → eqb k b ≡ in_range b 1 k
one_byte b k =
    elim (ℕ_discrete k b) [
      | yes e ↦ eq-eqb k b e ∙ sym (rw (le-leb b k (omega arith), lt-ltb k (b + 1) (omega arith)))
      | no e ↦
          ne_eqb k b e
          ∙ elim (dec_lt k b) [
            | yes l ↦ sym (rw (lt-leb b k l))
            | no l ↦ sym (rw (le-leb b k (omega arith), le-ltb k (b + 1) (omega arith)))
          ]
    ]

-- a visit without an access is not refused
no_access : (v : Visit) (nodes : List Node) → ((k : ℕ) → v.access_at k ≡ none) → visit_refusal v nodes ≡ 0
unfolding visit_refusal node_refusal
no_access v nodes h =
    first-none (node_refusal v nodes)
    (λ n. none-refusal (relation (parents nodes) n v.accessed) v.access_at (node_at nodes n).permissions h)
    (visiting_order (parents nodes) v.spared)

init-byte : (node b : ℕ) (p : Permission) (nodes : List Node) → visit_refusal (init_visit node b p) nodes ≡ byte_refusal (init_access p) node b nodes
init-byte node b p nodes = by (init_access p)
  where
    never : (t : Bool) → ◌≡◌ {A = Option AccessKind} (if t then none else none) none
    never true = refl
    never false = refl

    by : (x : Option AccessKind) → visit_refusal (through node (λ k. if eqb k b then x else none)) nodes ≡ byte_refusal x node b nodes
    by none = no_access (through node (λ k. if eqb k b then none else none)) nodes (λ k. never (eqb k b))
    by (some a) =
        ap (λ (f : ℕ → Option AccessKind). visit_refusal (through node f) nodes) (fun_ext (λ k. ap (λ (t : Bool). if t then some a else none) (one_byte b k)))

-- ---- the reads one after another are refused as each is on the tree as it stood
-- an access that is no write; two such are independent
abbrev writes_not : Option AccessKind → Bool
writes_not none = true
writes_not (some Read) = true
writes_not (some Write) = false

init-reads : (p : Permission) → T (writes_not (init_access p))
init-reads p = by-test (λ q. writes_not (init_access q)) tt p

calm-reads : (x y : Option AccessKind) → T (writes_not x) → T (writes_not y) → Calm x y
calm-reads none y a b = tt
calm-reads (some Read) none a b = tt
calm-reads (some Read) (some Read) a b = tt
calm-reads (some Read) (some Write) a b = b
calm-reads (some Write) y a b = absurd a

only-where : (t : Bool) (x : Option AccessKind) → T (writes_not x) → T (writes_not (if t then x else none))
only-where true x h = h
only-where false x h = tt

module _ (node : ℕ) where
  calm-inits : (b : ℕ) (p : Permission) (c : ℕ) (q : Permission) (k : ℕ) → Calm ((init_visit node b p).access_at k) ((init_visit node c q).access_at k)
  calm-inits b p c q k =
      calm-reads ((init_visit node b p).access_at k) ((init_visit node c q).access_at k) (only-where (eqb k b) (init_access p) (init-reads p)) (only-where (eqb k c) (init_access q) (init-reads q))

  after_one : (b : ℕ) (p : Permission) (c : ℕ) (inside : List Permission) (nodes : List Node) → init_refusal node c inside (visited (init_visit node b p) nodes) ≡ init_refusal node c inside nodes
  unfolding init_refusal
  after_one b p c [] nodes = refl
  after_one b p c (q ∷ inside) nodes =
      ap₂ ◌or◌ (visit-refused (init_visit node b p) (init_visit node c q) (calm-inits b p c q) nodes)
      (ap (init_refusal node (suc c) inside) (visited-commute (init_visit node b p) (init_visit node c q) (calm-inits b p c q) nodes)
      ∙ after_one b p (suc c) inside (visited (init_visit node c q) nodes))

  pub reads-apart : (b : ℕ) (inside : List Permission) (nodes : List Node) → init_refusal node b inside nodes ≡ reads_refusal node b inside nodes
  unfolding init_refusal reads_refusal
  reads-apart b [] nodes = refl
  reads-apart b (p ∷ inside) nodes =
      ap₂ ◌or◌ (init-byte node b p nodes) (after_one b p (suc b) inside nodes ∙ reads-apart (suc b) inside nodes)

-- ---- all the reads at once
-- the inside bytes' reads as one visit: at byte `from` + k the access that permission k asks for
abbrev pub reads_visit : ℕ → ℕ → List Permission → Visit
reads_visit node from inside = through node (accesses_from from (map init_access inside))

pub reads-visit-at : (from : ℕ) (inside : List Permission) (k : ℕ)
    → accesses_from from (map init_access inside) k ≡ (if in_range from (length inside) k then init_access (get_or inside (k - from) (Unprot PermissionUnprot.Cell)) else none)
reads-visit-at from inside k =
    ap₂ (λ (n : ℕ) (x : Option AccessKind). if in_range from n k then x else none) (length-map inside init_access) (get_or-map init_access inside (k - from) (Unprot PermissionUnprot.Cell))

-- a visit without an access changes nothing, and two through one node are one that has the effect of both at each byte
module _ (node : ℕ) where
  visited-none : (f : ℕ → Option AccessKind) → ((k : ℕ) → f k ≡ none) → (nodes : List Node) → visited (through node f) nodes ≡ nodes
  unfolding visited node_after
  visited-none f h nodes =
      each-id (node_after (through node f) (parents nodes))
      (λ n x.
      ap (with_row x)
      (each-id (λ k p. next_by (f k) (relation (parents nodes) n node) p) (λ k p. ap (λ (y : Option AccessKind). next_by y (relation (parents nodes) n node) p) (h k)) 0 x.permissions))
      0 nodes

  visited-then : (f g h : ℕ → Option AccessKind) → ((k : ℕ) (r : NodeRelation) (p : Permission) → next_by (g k) r (next_by (f k) r p) ≡ next_by (h k) r p)
      → (nodes : List Node) → visited (through node g) (visited (through node f) nodes) ≡ visited (through node h) nodes
  unfolding visited node_after
  visited-then f g h e nodes =
      ap (λ (ps : List ℕ). map_from 0 (node_after (through node g) ps) (visited (through node f) nodes)) (visited-parents (through node f) nodes)
      ∙ each-then (node_after (through node f) (parents nodes)) (node_after (through node g) (parents nodes)) (node_after (through node h) (parents nodes))
      (λ n x.
      ap (with_row x)
      (each-then (λ k p. next_by (f k) (relation (parents nodes) n node) p) (λ k p. next_by (g k) (relation (parents nodes) n node) p) (λ k p. next_by (h k) (relation (parents nodes) n node) p)
      (λ k p. e k (relation (parents nodes) n node) p) 0 x.permissions))
      0 nodes

-- the first access of a list, then the rest of them
accesses-here : (from : ℕ) (xs : List (Option AccessKind)) (k i : ℕ) → from + i ≡ k → accesses_from from xs k ≡ get_or xs i none
accesses-here from xs k i e = subst (λ (b : ℕ). accesses_from from xs b ≡ get_or xs i none) e ((list-places from xs).at i)

first-then-rest : (b : ℕ) (x : Option AccessKind) (xs : List (Option AccessKind)) (k : ℕ) (r : NodeRelation) (p : Permission)
    → next_by (accesses_from (suc b) xs k) r (next_by (if eqb k b then x else none) r p) ≡ next_by (accesses_from b (x ∷ xs) k) r p
first-then-rest b x xs k r p =
    elim (ℕ_discrete k b) [
      | yes e ↦ by x none x ((list-places (suc b) xs).before k (omega arith)) (at (eq-eqb k b e)) (accesses-here b (x ∷ xs) k 0 (omega arith)) refl
      | no e ↦
          elim (dec_lt k b) [
            | yes l ↦ by none none none ((list-places (suc b) xs).before k (omega arith)) (at (ne_eqb k b e)) ((list-places b (x ∷ xs)).before k l) refl
            | no l ↦
                let y : Option AccessKind = get_or xs (k - suc b) none in
                by none y y (accesses-here (suc b) xs k (k - suc b) (omega arith)) (at (ne_eqb k b e)) (accesses-here b (x ∷ xs) k (suc (k - suc b)) (omega arith)) refl
          ]
    ]
  where
    at : {t : Bool} → eqb k b ≡ t → (if eqb k b then x else none) ≡ (if t then x else none)
    at e = ap (λ (t : Bool). if t then x else none) e

    by : (first rest both : Option AccessKind) → accesses_from (suc b) xs k ≡ rest → (if eqb k b then x else none) ≡ first → accesses_from b (x ∷ xs) k ≡ both
        → next_by rest r (next_by first r p) ≡ next_by both r p
        → next_by (accesses_from (suc b) xs k) r (next_by (if eqb k b then x else none) r p) ≡ next_by (accesses_from b (x ∷ xs) k) r p
    by first rest both u v w e =
        ap₂ (λ (y z : Option AccessKind). next_by y r (next_by z r p)) u v ∙ e ∙ sym (ap (λ (y : Option AccessKind). next_by y r p) w)

pub reads-at-once : (node from : ℕ) (inside : List Permission) (nodes : List Node) → after_init node from inside nodes ≡ visited (reads_visit node from inside) nodes
unfolding after_init
reads-at-once node from [] nodes = sym (visited-none node (accesses_from from []) (λ k. nowhere k) nodes)
  where
    nowhere : (k : ℕ) → accesses_from from [] k ≡ none
    nowhere k = elim (dec_lt k from) [ yes l ↦ (list-places from []).before k l | no l ↦ accesses-here from [] k (k - from) (omega arith) ]
reads-at-once node from (p ∷ inside) nodes =
    reads-at-once node (suc from) inside (visited (init_visit node from p) nodes)
    ∙ visited-then node (init_visit node from p).access_at (accesses_from (suc from) (map init_access inside)) (accesses_from from (init_access p ∷ map init_access inside))
    (first-then-rest from (init_access p) (map init_access inside)) nodes

-- ---- the child's own reads
-- no local read of its row is refused
abbrev pub Readable : List Permission → Type 0
Readable row = All (λ p. refusal Read Local p ≡ 0) row

readable-quiet : (f : ℕ → Option AccessKind) → ((k : ℕ) → T (writes_not (f k))) → (b : ℕ) (row : List Permission) → Readable row → row_refusal f Local b row ≡ 0
unfolding row_refusal
readable-quiet f h b [] a = refl
readable-quiet f h b (p ∷ row) a = ap₂ ◌or◌ (by (f b) (h b)) (readable-quiet f h (suc b) row a.1)
  where
    by : (x : Option AccessKind) → T (writes_not x) → refusal_by x Local p ≡ 0
    by none t = refl
    by (some Read) t = a.0
    by (some Write) t = absurd t

-- ---- the reads through the child are refused as those through its parent are, before it is there
module _ (nodes : List Node) (tree : Parents (parents nodes)) (child : Node) (l : child.parent < length nodes) (readable : Readable child.permissions) where
  reads-leaf : (b : ℕ) (inside : List Permission) → reads_refusal (length nodes) b inside (nodes ++ (child ∷ [])) ≡ reads_refusal child.parent b inside nodes
  unfolding reads_refusal
  reads-leaf b [] = refl
  reads-leaf b (p ∷ inside) = ap₂ ◌or◌ (by (init_access p) (init-reads p)) (reads-leaf (suc b) inside)
    where
      by : (x : Option AccessKind) → T (writes_not x) → byte_refusal x (length nodes) b (nodes ++ (child ∷ [])) ≡ byte_refusal x child.parent b nodes
      by none t = refl
      by (some Read) t =
          refusal-leaf nodes tree child l (access_in Read b 1)
          (readable-quiet (access_in Read b 1) (λ k. only-where (in_range b 1 k) (some Read) tt) 0 child.permissions readable)
      by (some Write) t = absurd t

  pub reads_before : (from : ℕ) (inside : List Permission) → init_refusal (length nodes) from inside (nodes ++ (child ∷ [])) ≡ reads_refusal child.parent from inside nodes
  reads_before from inside = reads-apart (length nodes) from inside (nodes ++ (child ∷ [])) ∙ reads-leaf from inside

-- ---- the child of a retag
-- a start permission's local read is not refused
mk-readable : (protected : Protected) (u : PermissionUnprot) (p : PermissionProt) → refusal Read Local (Unprot u) ≡ 0 → refusal Read Local (Prot p) ≡ 0
    → refusal Read Local (mk_perm protected u p) ≡ 0
mk-readable No u p a b = a
mk-readable Weak u p a b = b
mk-readable Strong u p a b = b

start-readable : (pointer : SafePointer) (protected : Protected) (freeze : Bool) → refusal Read Local (start_perm pointer protected freeze) ≡ 0
unfolding refusal
start-readable SharedRef protected true = mk-readable protected PermissionUnprot.Frozen (PermissionProt.Frozen no_local_read) refl refl
start-readable SharedRef protected false = mk-readable protected PermissionUnprot.Cell PermissionProt.Cell refl refl
start-readable MutableRef protected true = mk-readable protected PermissionUnprot.Reserved (PermissionProt.Reserved no_local_read no_foreign_read) refl refl
start-readable MutableRef protected false = mk-readable protected PermissionUnprot.ReservedIm (PermissionProt.Reserved no_local_read no_foreign_read) refl refl
start-readable Box protected true = mk-readable protected PermissionUnprot.Reserved (PermissionProt.Reserved no_local_read no_foreign_read) refl refl
start-readable Box protected false = mk-readable protected PermissionUnprot.ReservedIm (PermissionProt.Reserved no_local_read no_foreign_read) refl refl

-- so a retag's child reads its own row unrefused
pub child-readable : (pointer : SafePointer) (protected : Protected) (mask : FreezeMask) (freeze : Bool) (p : ThinPointer) (a : Allocation)
    → Readable (child_node (reborrow_settings pointer protected mask freeze) p a).permissions
unfolding child_node
child-readable pointer protected mask freeze p a =
    all-write (λ q. refusal Read Local q ≡ 0) (offset a p) (map (start_perm pointer protected) mask) (replicate (size a) (start_perm pointer protected freeze))
    (all_map (λ q. refusal Read Local q ≡ 0) (start_perm pointer protected) (start-readable pointer protected) mask)
    (all_replicate (λ q. refusal Read Local q ≡ 0) (size a) (start_perm pointer protected freeze) (start-readable pointer protected freeze))

-- Cell is not read, but a local read would leave it as well
own_read : (p : Permission) → next_by (init_access p) Local p ≡ next Read Local p
own_read p = same-permissions (λ q. next_by (init_access q) Local q) (next Read Local) (unfold next in tt) p

-- its row after its reads: the inside bytes read, those outside as they were
read-row : (from : ℕ) (inside row : List Permission)
    → take from (write_at from inside row) ++ accesses_after Local (map init_access inside) (drop from (write_at from inside row)) ≡ write_at from (map (next Read Local) inside) row
unfolding write_at accesses_after
read-row zero inside [] = refl
read-row zero [] (x ∷ row) = refl
read-row zero (p ∷ inside) (x ∷ row) = ap₂ ◌∷◌ (own_read p) (read-row zero inside row)
read-row (suc from) inside [] = refl
read-row (suc from) inside (x ∷ row) = ap (λ (l : List Permission). x ∷ l) (read-row from inside row)

pub child-row : (from : ℕ) (inside row : List Permission) → row_after (accesses_from from (map init_access inside)) Local (write_at from inside row) ≡ write_at from (map (next Read Local) inside) row
child-row from inside row =
    list-after Local from (map init_access inside) (write_at from inside row) ∙ read-row from inside row

-- the settings whose inside permissions have been read
abbrev pub settings_after_init : ReborrowSettings → ReborrowSettings
settings_after_init w = record { inside = map (next Read Local) w.inside; outside = w.outside; protected = w.protected }

-- what was read asks for the same accesses
read-access : (p : Permission) → init_access (next Read Local p) ≡ init_access p
unfolding next
read-access (Unprot PermissionUnprot.Cell) = refl
read-access (Unprot PermissionUnprot.Reserved) = refl
read-access (Unprot PermissionUnprot.ReservedIm) = refl
read-access (Unprot PermissionUnprot.Unique) = refl
read-access (Unprot PermissionUnprot.Frozen) = refl
read-access (Unprot PermissionUnprot.Disabled) = refl
read-access (Prot PermissionProt.Cell) = refl
read-access (Prot (PermissionProt.Reserved l f)) = refl
read-access (Prot PermissionProt.Unique) = refl
read-access (Prot (PermissionProt.Frozen l)) = refl
read-access (Prot PermissionProt.Disabled) = refl

pub reads-refusal-after : (node b : ℕ) (inside : List Permission) (nodes : List Node) → reads_refusal node b (map (next Read Local) inside) nodes ≡ reads_refusal node b inside nodes
unfolding reads_refusal
reads-refusal-after node b [] nodes = refl
reads-refusal-after node b (p ∷ inside) nodes =
    ap₂ ◌or◌ (ap (λ (x : Option AccessKind). byte_refusal x node b nodes) (read-access p)) (reads-refusal-after node (suc b) inside nodes)

pub reads-visit-after : (node from : ℕ) (inside : List Permission) → reads_visit node from (map (next Read Local) inside) ≡ reads_visit node from inside
reads-visit-after node from inside = ap (λ (xs : List (Option AccessKind)). through node (accesses_from from xs)) (each inside)
  where
    each : (ps : List Permission) → map init_access (map (next Read Local) ps) ≡ map init_access ps
    each [] = refl
    each (p ∷ ps) = ap₂ ◌∷◌ (read-access p) (each ps)

module _ (w : ReborrowSettings) (p : ThinPointer) (a : Allocation) (tree : Parents (parents a.nodes)) (l : node_of p.provenance < length a.nodes) where
  pub retag-refusal : Readable (child_node w p a).permissions
      → init_refusal (length a.nodes) (offset a p) w.inside (with_child w p a) ≡ reads_refusal (node_of p.provenance) (offset a p) w.inside a.nodes
  unfolding with_child child_node
  retag-refusal readable = reads_before a.nodes tree (child_node w p a) l readable (offset a p) w.inside

  pub retag-nodes : after_init (length a.nodes) (offset a p) w.inside (with_child w p a)
      ≡ visited (reads_visit (node_of p.provenance) (offset a p) w.inside) a.nodes ++ (child_node (settings_after_init w) p a ∷ [])
  unfolding with_child child_node
  retag-nodes =
      reads-at-once (length a.nodes) (offset a p) w.inside (with_child w p a)
      ∙ visited-leaf a.nodes tree (child_node w p a) l (accesses_from (offset a p) (map init_access w.inside))
      ∙ ap {B = List Node} (λ (row : List Permission). visited (reads_visit (node_of p.provenance) (offset a p) w.inside) a.nodes ++ (with_row (child_node w p a) row ∷ []))
      (child-row (offset a p) w.inside (replicate (size a) w.outside))

  pub reborrowed-in : after_reborrow_in w p a
      ≡ changed a a.state a.words (visited (reads_visit (node_of p.provenance) (offset a p) w.inside) a.nodes ++ (child_node (settings_after_init w) p a ∷ []))
  unfolding after_reborrow_in
  reborrowed-in = ap {B = Allocation} (λ nodes. changed a a.state a.words nodes) retag-nodes
