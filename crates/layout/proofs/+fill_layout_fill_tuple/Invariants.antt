-- The number of tuples that may follow falls.
use Rattle.std.proofs.Common.{◌+◌, ◌*◌}
use Rattle.layout.proofs.+fill_layout_fill_tuple.Given as goal

abbrev pub decreases-fill_layout : goal.decreases-fill_layout
decreases-fill_layout l = 2 * l.tuples + 1

abbrev pub decreases-fill_tuple : goal.decreases-fill_tuple
decreases-fill_tuple l = 2 * l.tuples
