use Rattle.std.proofs.Common.{◌≡◌, map, take}
use Rattle.schedule_lines.specs.inner.Grids.{column_of}
use Rattle.schedule_lines.proofs.grids.columns.columns_of.Given as goal

abbrev pub invariant-loop-unit : goal.invariant-loop-unit
invariant-loop-unit l = l.columns.items ≡ map (column_of l.machine l.slots) (take l.unit-index l.unit-items)
