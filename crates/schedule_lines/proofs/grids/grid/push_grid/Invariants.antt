use Rattle.std.proofs.Common.{◌≡◌, ◌++◌}
use Rattle.std.specs.List.{flat_map, range_with_len}
use Rattle.schedule_lines.specs.Columns.{row_line}
use Rattle.schedule_lines.proofs.grids.grid.push_grid.Given as goal

abbrev pub invariant-loop-row : goal.invariant-loop-row
invariant-loop-row l = l.text.items ≡ l.initial.text.items ++ flat_map (row_line l.machine l.grid.slots) (range_with_len 0 l.row)
