-- The invariant: the answer of the cells that are left, from the end of the last one on, is the answer of all.
use mathlib.Core.List.{map}
use mathlib.Core.Path.{◌≡◌}
use lib.ListN.{drop}
use Rattle.definition.specs.Layout.{unsafe_cell, cells_fit}
use Rattle.layout.proofs.cells_fit.Given as goal

abbrev pub invariant-loop-word : goal.invariant-loop-word
invariant-loop-word l = cells_fit l.end l.size (map unsafe_cell (drop l.word-index l.cells)) ≡ cells_fit 0 l.size (map unsafe_cell l.cells)
