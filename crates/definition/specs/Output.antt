-- The program's output, as a list of bytes. Document 01: "It prints, whole: ..", "Fields: ..".
use Rattle.std.specs.Prelude.{ℕ, zero, suc, ◌+◌, ◌/◌, ◌%◌, ◌^◌, ◌≡◌, true, false, List, [], ◌∷◌, ◌++◌, map, ltb, if◌then◌else◌}
use Prim.Native.Char as char
use Prim.Native.String.{String, [], ◌∷◌}
use Rattle.std.proofs.Math.Option.{none, some}
use Rattle.definition.specs.Permission.{Permission, Protected, code}
use Rattle.definition.specs.Permission.Protected.{No, Weak, Strong}
use Rattle.definition.specs.Tree.{Node}
use Rattle.definition.specs.Memory.{Provenance, Liveness, AllocationKind, Allocation, Memory, Named, Answer, size}
use Rattle.definition.specs.Memory.Liveness.{Live, Dead}
use Rattle.definition.specs.Memory.AllocationKind.{Stack, Heap, Global, Function, VTable}
use Rattle.definition.specs.Memory.Named.{Pointer, Leak}
use Rattle.definition.specs.Run.{program}

abbrev pub Text : Type 0
Text = List ℕ

-- a quoted text's bytes: it is ASCII
abbrev pub ascii : String → Text
ascii [] = []
ascii (c ∷ cs) = char.code c ∷ ascii cs

abbrev pub dash : Text
dash = ascii "-"

-- ---- numbers: "Codes and words are hexadecimal, words in eight digits, the rest decimal."
-- 0 to 9, then a to f
unfoldable pub digit : ℕ → ℕ
digit n = if ltb n 10 then 0x30 + n else 0x57 + n

-- with no more digits than `most` and one
unfoldable pub decimal_within : ℕ → ℕ → Text
decimal_within zero n = digit n ∷ []
decimal_within (suc most) n =
    elim (ltb n 10) [
      | true ↦ digit n ∷ []
      | false ↦ decimal_within most (n / 10) ++ (digit (n % 10) ∷ [])
    ]

unfoldable pub decimal : ℕ → Text
decimal n = decimal_within n n

-- with so many digits
unfoldable pub hexadecimal : ℕ → ℕ → Text
hexadecimal zero n = []
hexadecimal (suc digits) n = digit (n / 16 ^ digits % 16) ∷ hexadecimal digits n

abbrev pub word : ℕ → Text
word w = hexadecimal 8 w

-- ---- lines
-- the fields of a line, each behind a space, and its end
unfoldable pub ended : List Text → Text
ended [] = ascii "\n"
ended (f ∷ fs) = ascii " " ++ (f ++ ended fs)

-- what a line begins with, and its fields
abbrev pub line : Text → List Text → Text
line front fs = front ++ ended fs

-- "`-` for none"
abbrev pub or_dash : List Text → List Text
or_dash [] = dash ∷ []
or_dash (f ∷ fs) = f ∷ fs

abbrev pub words : List ℕ → List Text
words ws = or_dash (map word ws)

-- ---- an answer
-- "allocation.node"
unfoldable pub pointed : Provenance → Text
pointed t = decimal t.allocation ++ (ascii "." ++ decimal t.node)

-- "allocation.node, loaded words, the allocation that 25 names, or `-`. A pointer without provenance prints `-`."
unfoldable pub given : Named → List ℕ → List Text
given (Pointer (some t)) ws = pointed t ∷ []
given (Pointer none) ws = words ws
given (Leak n) ws = decimal n ∷ []

-- "request index, refusal or 0, then .."
unfoldable pub answer_line : ℕ → Answer → Text
answer_line index a = line (decimal index) (decimal a.refusal ∷ given a.names a.words)

-- ---- an allocation
unfoldable pub liveness_name : Liveness → Text
liveness_name Live = ascii "live"
liveness_name Dead = ascii "dead"

-- "kind in lower case"
unfoldable pub kind_name : AllocationKind → Text
kind_name Stack = ascii "stack"
kind_name Heap = ascii "heap"
kind_name Global = ascii "global"
kind_name Function = ascii "function"
kind_name VTable = ascii "vtable"

-- "`a`: allocation, live or dead, kind in lower case, address, size, exponent."
unfoldable pub allocation_line : ℕ → Allocation → Text
allocation_line n a =
    line (ascii "a")
    (decimal n ∷ liveness_name a.state ∷ kind_name a.kind ∷ decimal a.address ∷ decimal (size a) ∷ decimal a.exponent ∷ [])

-- "`d`: allocation, its words (`-` for none)."
unfoldable pub data_line : ℕ → Allocation → Text
data_line n a = line (ascii "d") (decimal n ∷ words a.words)

-- ---- a node
-- "protector (no, weak, strong)"
unfoldable pub protector_name : Protected → Text
protector_name No = ascii "no"
protector_name Weak = ascii "weak"
protector_name Strong = ascii "strong"

-- "parent (`-` for the root)": node k's
unfoldable pub parent_name : ℕ → ℕ → Text
parent_name zero parent = dash
parent_name (suc k) parent = decimal parent

-- "one code per byte (`-` for none)"
unfoldable pub codes : List Permission → Text
codes [] = dash
codes (p ∷ ps) = map (λ q. digit (code q)) (p ∷ ps)

-- "`n`: allocation, node, parent (`-` for the root), protector (no, weak, strong), one code per byte (`-` for none)."
unfoldable pub node_line : ℕ → ℕ → Node → Text
node_line n k x =
    line (ascii "n")
    (decimal n ∷ decimal k ∷ parent_name k x.parent ∷ protector_name x.protected ∷ codes x.permissions ∷ [])

-- ---- the whole
-- the lines of the nodes from number k on
unfoldable pub node_lines : ℕ → ℕ → List Node → Text
node_lines n k [] = []
node_lines n k (x ∷ xs) = node_line n k x ++ node_lines n (suc k) xs

-- "Per allocation: `a`, `d`, then nodes in order of making."
unfoldable pub allocation_lines : ℕ → Allocation → Text
allocation_lines n a = allocation_line n a ++ (data_line n a ++ node_lines n 0 a.nodes)

-- of the allocations from number n on
unfoldable pub memory_lines : ℕ → Memory → Text
memory_lines n [] = []
memory_lines n (a ∷ m) = allocation_lines n a ++ memory_lines (suc n) m

-- of the answers from index i on
unfoldable pub answer_lines : ℕ → List Answer → Text
answer_lines i [] = []
answer_lines i (a ∷ rest) = answer_line i a ++ answer_lines (suc i) rest

-- what the program prints of the run that it reads
unfoldable pub output : List ℕ → Text
output bytes = let left = program bytes in answer_lines 0 left.0 ++ memory_lines 0 left.1.state.memory

-- the text is that
abbrev pub IsOutput : List ℕ → Text → Type 0
IsOutput bytes text = text ≡ output bytes
