-- What the release of a frame's entries asks and what it leaves, said of each memory that the buffers hold.
use Rattle.std.specs.Prelude.{ℕ, ◌≤◌, ◌<◌, ◌≡◌, true, List, [], ◌∷◌, eqb, if◌then◌else◌}
use Rattle.definition.specs.Memory.{Memory, Provenance, refused_with, was_made}
use Rattle.definition.specs.Frame.{release_refusal, after_release, release_all_refusal, after_release_all, end_call_refusal}
use Rattle.definition.specs.Valid.{All}
use Rattle.answer.specs.Answer.{reply_to}
use Rattle.answer.specs.Answer.Gives.{Nothing}
use Rattle.answer.specs.declared.Answer.{Answer}
use Rattle.tables.specs.Encoding.{protectors_of, codes_of, held}
use Rattle.tables.specs.Held.{Records, StartsAt}
use Rattle.tables.specs.declared.Starts.{Starts}

-- the marks and the codes are those of m
pub record HoldsNodes (m : Memory) (R C : List ℕ) : Type 0 where
  pub protectors : R ≡ held 1024 protectors_of m
  pub codes : C ≡ held 32768 codes_of m

-- no entry is refused with 4
abbrev pub AllMade : Memory → List Provenance → Type 0
AllMade m es = All (λ e. was_made m e ≡ true) es

-- the entries are in allocations from `first` on and before `end`, which is no greater than it has to be
pub record Spans (es : List Provenance) (first end : ℕ) : Type 0 where
  pub ordered : first ≤ end
  pub among : All (λ e. (first ≤ e.allocation) × (e.allocation < end)) es
  pub least : (n : ℕ) → All (λ e. e.allocation < n) es → end ≤ n

-- `from` and `to` say where the marks and codes of such allocations start and where they end, in each memory with these records
pub record Touched (A : List ℕ) (es : List Provenance) (from to : Starts) : Type 0 where
  pub first : ℕ
  pub end : ℕ
  pub spans : Spans es first end
  pub starts : (m : Memory) → Records m A → StartsAt m first from.words from.nodes from.codes
  pub ends : (m : Memory) → Records m A → StartsAt m end to.words to.nodes to.codes

-- nothing changes where there is a refusal
abbrev pub unless_refused : ℕ → Memory → Memory → Memory
unless_refused refused before after = if eqb refused 0 then after else before

-- ---- one entry
pub record Released (m : Memory) (e : Provenance) (answer : ℕ) (R C : List ℕ) : Type 0 where
  pub refusal : answer ≡ release_refusal m e
  pub nodes : HoldsNodes (unless_refused (release_refusal m e) m (after_release m e)) R C

-- ---- entry by entry
-- the memory in which the first refusal is met, or which all releases leave
unfoldable pub until_refused : Memory → List Provenance → Memory
until_refused m [] = m
until_refused m (e ∷ es) = unless_refused (release_refusal m e) m (until_refused (after_release m e) es)

pub record ReleasedUntil (m : Memory) (es : List Provenance) (answer : ℕ) (R C : List ℕ) : Type 0 where
  pub refusal : answer ≡ release_all_refusal m es
  pub nodes : HoldsNodes (until_refused m es) R C

-- all of them, or none
pub record ReleasedAll (m : Memory) (es : List Provenance) (answer : ℕ) (R C : List ℕ) : Type 0 where
  pub refusal : answer ≡ release_all_refusal m es
  pub nodes : HoldsNodes (unless_refused (release_all_refusal m es) m (after_release_all m es)) R C

-- ---- an end call: 4 for all entries first
abbrev pub after_end_call : Memory → List Provenance → Memory
after_end_call m es = unless_refused (end_call_refusal m es) m (after_release_all m es)

pub record Checked (m : Memory) (es : List Provenance) (answer : ℕ) (R C : List ℕ) : Type 0 where
  pub refusal : answer ≡ end_call_refusal m es
  pub nodes : HoldsNodes (after_end_call m es) R C

pub record Ended (m : Memory) (es : List Provenance) (answer : Answer) (R C : List ℕ) : Type 0 where
  pub reply : answer ≡ reply_to Nothing (refused_with (end_call_refusal m es))
  pub nodes : HoldsNodes (after_end_call m es) R C
