use Rattle.std.proofs.Common.{◌≡◌, length}
use Rattle.collecting.specs.inner.Cells.{AreEmptyCells}
use Rattle.collecting.proofs.cells.empty_cells.Given as goal

abbrev pub invariant-loop-number : goal.invariant-loop-number
invariant-loop-number l = (length l.rows.items ≡ l.number) × AreEmptyCells l.loops l.rows.items
