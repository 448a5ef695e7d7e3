-- What a request's visits do, said of each list of nodes that the tables hold.
use Rattle.std.specs.Prelude.{ℕ, ◌≡◌, List, eqb, if◌then◌else◌}
use Rattle.std.proofs.Math.Option.{Option, none, some}
use Rattle.definition.specs.Notation.{◌when◌, ◌or◌, any}
use Rattle.definition.specs.Refusal.{not_protected, strong_protector}
use Rattle.definition.specs.Permission.{AccessKind, Permission}
use Rattle.definition.specs.Permission.AccessKind.{Read, Write}
use Rattle.definition.specs.Tree.{Node, node_at, Visit, access_visit, visit_refusal, visited}
use Rattle.definition.specs.Memory.{Liveness, node_prevents_deallocation}
use Rattle.definition.specs.Memory.Liveness.{Live}
use Rattle.definition.specs.Frame.{lacks_protector, release_visit_refusal, released_nodes}
use Rattle.definition.proofs.Retags.{reads_refusal, reads_visit}
use Rattle.permission.specs.Codes.{end_access_code}
use Rattle.visit.specs.Walk.{Answer, Told}
use Rattle.tree.specs.Table.{rows_of, marks}

-- nothing changes where there is a refusal
abbrev pub unless_refused : ℕ → List Node → List Node → List Node
unless_refused refused before after = if eqb refused 0 then after else before

-- the answer is what the visit is refused for, and the table is as the visit leaves it
pub record Made (refused : ℕ) (v : Visit) (nodes : List Node) (answer : ℕ) (codes : List ℕ) : Type 0 where
  pub refusal : answer ≡ refused
  pub table : codes ≡ rows_of (unless_refused refused nodes (visited v nodes))

-- ---- load, store
-- what a check of the visit tells
abbrev pub Checked : Visit → List Node → Answer → Type 0
Checked v nodes = Told (visit_refusal v nodes) (rows_of nodes) (rows_of (visited v nodes))

abbrev pub Visited : Visit → List Node → ℕ → List ℕ → Type 0
Visited v nodes = Made (visit_refusal v nodes) v nodes

-- ---- retag: the reads of the inside bytes, refused byte by byte
abbrev pub ReadsMade : ℕ → ℕ → List Permission → List Node → ℕ → List ℕ → Type 0
ReadsMade node from inside nodes = Made (reads_refusal node from inside nodes) (reads_visit node from inside) nodes

-- ---- deallocate: the write to all bytes, and 24 on what it leaves
unfoldable pub deallocate_refusal : ℕ → ℕ → List Node → ℕ
deallocate_refusal node width nodes =
    let write = access_visit Write node 0 width in
    visit_refusal write nodes or strong_protector when any node_prevents_deallocation (visited write nodes)

abbrev pub Deallocated : ℕ → ℕ → List Node → ℕ → List ℕ → Type 0
Deallocated node width nodes = Made (deallocate_refusal node width nodes) (access_visit Write node 0 width) nodes

-- ---- the release of one node: 16, and then what the accesses of its protector's end meet
unfoldable pub release_refusal : Liveness → ℕ → List Node → ℕ
release_refusal state n nodes = not_protected when lacks_protector (node_at nodes n) or release_visit_refusal state n nodes

-- the access of a protector's end, as the number that tells it to the visit
abbrev pub access_number : Option AccessKind → ℕ
access_number none = 0
access_number (some Read) = 1
access_number (some Write) = 2

abbrev pub end_number : ℕ → ℕ
end_number c = access_number (end_access_code c)

-- what the accesses of its protector's end meet, and what is left
pub record Ended (n : ℕ) (nodes : List Node) (answer : ℕ) (codes : List ℕ) : Type 0 where
  pub refusal : answer ≡ release_visit_refusal Live n nodes
  pub table : codes ≡ rows_of (unless_refused (release_visit_refusal Live n nodes) nodes (released_nodes Live n nodes))

abbrev pub after_release : Liveness → ℕ → List Node → List Node
after_release state n nodes = unless_refused (release_refusal state n nodes) nodes (released_nodes state n nodes)

pub record Released (state : Liveness) (n : ℕ) (nodes : List Node) (answer : ℕ) (protectors codes : List ℕ) : Type 0 where
  pub refusal : answer ≡ release_refusal state n nodes
  pub marked : protectors ≡ marks (after_release state n nodes)
  pub table : codes ≡ rows_of (after_release state n nodes)
