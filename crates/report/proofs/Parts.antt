-- An allocation's lines, part by part.
use Prim.Native.Nat.{ℕ, ◌+◌}
use mathlib.Core.List.{List, [], ◌∷◌, ◌++◌}
use mathlib.Core.Path.{◌≡◌, ap, ◌∙◌}
use lib.ListN.{length, length-append}
use Rattle.definition.specs.Output.{ascii, decimal, line, liveness_name, kind_name, allocation_line, data_line, node_lines, allocation_lines}
use Rattle.tables.specs.Decoding.{liveness, allocation_kind, nodes_in}
use Rattle.tables.specs.declared.Allocation.{Allocation}
use Rattle.report.specs.Memory.{allocation_of, record_line, words_line}

module _ (a : ℕ) (x : Allocation) (W P R C : List ℕ) where
  pub allocation-parts : length W ≡ x.size
      → allocation_lines a (allocation_of x W P R C) ≡ record_line a x ++ (words_line a W ++ node_lines a 0 (nodes_in (length P) (length W) P R C))
  unfolding allocation_lines allocation_line data_line
  allocation-parts e =
      ap (λ (n : ℕ).
      line (ascii "a")
      (decimal a ∷ liveness_name (liveness x.state) ∷ kind_name (allocation_kind x.kind) ∷ decimal x.address ∷ decimal n ∷ decimal x.exponent ∷ [])
      ++ (words_line a W ++ node_lines a 0 (nodes_in (length P) (length W) P R C))) e

  pub parts : length W ≡ x.size
      → length (allocation_lines a (allocation_of x W P R C))
      ≡ length (record_line a x) + (length (words_line a W) + length (node_lines a 0 (nodes_in (length P) (length W) P R C)))
  parts e =
      let nodes = node_lines a 0 (nodes_in (length P) (length W) P R C) in
      ap length (allocation-parts e) ∙ length-append (record_line a x) (words_line a W ++ nodes)
      ∙ ap (λ (n : ℕ). length (record_line a x) + n) (length-append (words_line a W) nodes)
