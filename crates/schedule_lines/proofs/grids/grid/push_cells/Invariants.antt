use Rattle.std.proofs.Common.{◌≡◌, ◌++◌, take}
use Rattle.schedule_lines.specs.inner.Grids.{cells_in}
use Rattle.schedule_lines.proofs.grids.grid.push_cells.Given as goal

abbrev pub invariant-loop-column : goal.invariant-loop-column
invariant-loop-column l = l.text.items ≡ l.initial.text.items ++ cells_in l.slots (take l.column-index l.columns) l.row
