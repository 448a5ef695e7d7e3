-- The claim of demand 3 at a list, so that it is seen not to be empty: a load and a store that touch no common address are exchanged, then two loads
-- of one byte, which are neighbours by then only.
use Prim.Native.Nat.{ℕ, ◌≤◌, ◌<◌}
use mathlib.Core.Path.{◌≡◌, refl}
use mathlib.Core.Logic.{inl, inr}
use mathlib.Core.List.{List, [], ◌∷◌}
use native.Mathlib.Omega.{arith}
use Rattle.definition.specs.Request.{request}
use Rattle.definition.specs.Run.{start, answers}
use Rattle.definition.specs.Exchange.{exchange, exchange_all, Exchanged}
use Rattle.definition.specs.Exchange.Independent.{both_loads, no_common_address}
use Rattle.definition.proofs.Exchanges.{order-is-free}

abbrev allocation : List ℕ
allocation = 0x00000001 ∷ 0 ∷ 16 ∷ 2 ∷ []

abbrev load_of16 : List ℕ
load_of16 = 0x20000100 ∷ 0 ∷ 16 ∷ 1 ∷ []

abbrev store_to17 : List ℕ
store_to17 = 0x30000100 ∷ 0 ∷ 17 ∷ 1 ∷ 0x80000007 ∷ []

-- through a node that was never made: it is refused
abbrev refused_load_of16 : List ℕ
refused_load_of16 = 0x20000300 ∷ 0 ∷ 16 ∷ 1 ∷ []

abbrev list : List (List ℕ)
list = allocation ∷ load_of16 ∷ store_to17 ∷ refused_load_of16 ∷ []

abbrev places : List ℕ
places = 1 ∷ 2 ∷ []

apart : (address : ℕ) → address < 17 → 17 ≤ address → ⊥
apart address a b = omega arith

exchanged : Exchanged places list
unfolding request exchange
exchanged = (
  record { first = inl refl; second = inr refl; independent = no_common_address (λ address t u. apart address t.to u.from) },
  (record { first = inl refl; second = inl refl; independent = both_loads refl refl }, tt),
)

other-order : exchange_all places list ≡ allocation ∷ store_to17 ∷ refused_load_of16 ∷ load_of16 ∷ []
unfolding exchange_all exchange
other-order = refl

same_answers : answers start (exchange_all places list) ≡ exchange_all places (answers start list)
same_answers = (order-is-free start list).same_answers places exchanged
