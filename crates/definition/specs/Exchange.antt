-- Demand 3: order that cannot matter doesn't. Document 01: "Lists whose order may change".
use Rattle.std.specs.Prelude.{ℕ, zero, suc, ◌+◌, ◌≤◌, ◌<◌, ◌≡◌, ◌⊎◌, Bool, true, ◌&&◌, List, [], ◌∷◌, eqb, get_or}
use Rattle.definition.specs.Refusal.{malformed}
use Rattle.definition.specs.Memory.{Answer, refused_with}
use Rattle.definition.specs.Request.{Kind, request}
use Rattle.definition.specs.Request.Kind.{Load, Store}
use Rattle.definition.specs.Run.{RunState, answers, final}

-- ---- neighbours that may be exchanged
abbrev pub kind_of : List ℕ → Kind
kind_of ws = (request ws).kind

abbrev pub IsLoadOrStore : List ℕ → Type 0
IsLoadOrStore ws = (kind_of ws ≡ Load) ⊎ (kind_of ws ≡ Store)

-- "A load or store, accepted or not, touches the addresses from its own up to, not including, its own plus its length, counted without wrapping;
-- at length zero, none." A malformed one too (decision 45)
pub record TouchesAddress (ws : List ℕ) (address : ℕ) : Type 0 where
  pub from : (request ws).address ≤ address
  pub to : address < (request ws).address + (request ws).fourth

-- both are loads, or no address is touched by both (decision 46)
pub data Independent (x y : List ℕ) : Type 0 where
  both_loads : kind_of x ≡ Load → kind_of y ≡ Load → Independent x y
  no_common_address : ((address : ℕ) → TouchesAddress x address → TouchesAddress y address → ⊥) → Independent x y

pub record MayExchange (x y : List ℕ) : Type 0 where
  pub first : IsLoadOrStore x
  pub second : IsLoadOrStore y
  pub independent : Independent x y

-- ---- exchanges
-- element n and its right neighbour exchanged, if there are both
unfoldable pub exchange : {A : Type 0} → ℕ → List A → List A
exchange n [] = []
exchange zero (x ∷ []) = x ∷ []
exchange zero (x ∷ y ∷ l) = y ∷ x ∷ l
exchange (suc n) (x ∷ l) = x ∷ exchange n l

-- one after another, at these places
unfoldable pub exchange_all : {A : Type 0} → List ℕ → List A → List A
exchange_all [] l = l
exchange_all (n ∷ places) l = exchange_all places (exchange n l)

-- each of them is of neighbours that may be exchanged: "Neighbours are those of the list as it then stands"
abbrev pub Exchanged : List ℕ → List (List ℕ) → Type 0
Exchanged [] l = Unit {0}
Exchanged (n ∷ places) l = MayExchange (get_or l n []) (get_or l (suc n) []) × Exchanged places (exchange n l)

-- ---- an accepted load
pub record AcceptedLoad (r : RunState) (l : List (List ℕ)) (n : ℕ) : Type 0 where
  pub load : kind_of (get_or l n []) ≡ Load
  pub accepted : (get_or (answers r l) n (refused_with malformed)).refusal ≡ 0

-- element n made again directly after
unfoldable pub twice : {A : Type 0} → ℕ → List A → List A
twice n [] = []
twice zero (x ∷ l) = x ∷ x ∷ l
twice (suc n) (x ∷ l) = x ∷ twice n l

-- "accepted means 0"
unfoldable pub all_accepted : List Answer → Bool
all_accepted [] = true
all_accepted (a ∷ l) = eqb a.refusal 0 && all_accepted l

-- ---- the claim about a list of requests, from a run's state on
pub record OrderIsFree (r : RunState) (l : List (List ℕ)) : Type 0 where
  -- each request gets the same answer in its new place
  pub same_answers : (places : List ℕ) → Exchanged places l → answers r (exchange_all places l) ≡ exchange_all places (answers r l)
  -- memory, frames and width are the same in the end
  pub same_end : (places : List ℕ) → Exchanged places l → final r (exchange_all places l) ≡ final r l
  -- all of the first list is accepted exactly when all of the second is
  pub same_acceptance : (places : List ℕ) → Exchanged places l → all_accepted (answers r (exchange_all places l)) ≡ all_accepted (answers r l)
  -- an accepted load made again is accepted, gives the same words, and changes nothing more
  pub again_answers : (n : ℕ) → AcceptedLoad r l n → answers r (twice n l) ≡ twice n (answers r l)
  pub again_end : (n : ℕ) → AcceptedLoad r l n → final r (twice n l) ≡ final r l
