use Rattle.std.proofs.Common.{◌≡◌, take}
use Rattle.std.specs.List.{fold}
use Rattle.unit_sets.specs.Fullest.{with_row}
use Rattle.unit_sets.proofs.units.with_rows.Given as goal

abbrev pub invariant-loop-row : goal.invariant-loop-row
invariant-loop-row l = l.units ≡ fold with_row l.set (take l.row-index l.rows)
