-- The invariant: the mask is that of the cells passed. At first it is all ones; each cell is cleared.
use mathlib.Core.List.{map}
use mathlib.Core.Path.{◌≡◌}
use lib.ListN.{length, take}
use Rattle.layout.specs.Filled.{mask_bytes}
use Rattle.definition.specs.Layout.{unsafe_cell, is_freeze}
use Rattle.definition.specs.Notation.{table}
use Rattle.layout.proofs.cells_to_freeze_mask.Given as goal

abbrev pub invariant-loop-word : goal.invariant-loop-word
invariant-loop-word l = l.mask ≡ mask_bytes (table (length l.initial.mask) (is_freeze (map unsafe_cell (take l.word-index l.cells))))
