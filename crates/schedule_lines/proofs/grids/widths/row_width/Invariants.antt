use Rattle.std.proofs.Common.{◌≡◌, ◌∷◌, map}
use Rattle.std.specs.Prelude.{codes, decimal}
use Rattle.std.specs.List.{range_with_len}
use Rattle.schedule_lines.specs.Columns.{width_of}
use Rattle.schedule_lines.proofs.grids.widths.row_width.Given as goal

abbrev pub invariant-loop-row : goal.invariant-loop-row
invariant-loop-row l = l.width ≡ width_of (codes "row" ∷ map decimal (range_with_len 0 l.row))
