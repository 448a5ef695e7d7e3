-- How numbers hold a tree's nodes: a number for each protector, and a row of codes for each node, one for each byte. `tables` and `tree` say by
-- these what buffers hold.
use Rattle.std.specs.Prelude.{ℕ, List, [], ◌∷◌, ◌++◌, map}
use Rattle.definition.specs.Permission.{Protected, code}
use Rattle.definition.specs.Permission.Protected.{No, Weak, Strong}
use Rattle.definition.specs.Tree.{Node}

abbrev pub protector_number : Protected → ℕ
protector_number No = 0
protector_number Weak = 1
protector_number Strong = 2

-- of each node
abbrev pub marks : List Node → List ℕ
marks nodes = map (λ (x : Node). protector_number x.protected) nodes

abbrev pub row_of : Node → List ℕ
row_of x = map code x.permissions

-- f of each, one behind the other
unfoldable pub concat_map : {X : Type 0} → (X → List ℕ) → List X → List ℕ
concat_map f [] = []
concat_map f (x ∷ xs) = f x ++ concat_map f xs

-- the nodes' rows, one behind the other
abbrev pub rows_of : List Node → List ℕ
rows_of nodes = concat_map row_of nodes
