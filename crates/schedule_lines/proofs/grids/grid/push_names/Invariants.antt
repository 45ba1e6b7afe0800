use Rattle.std.proofs.Common.{◌≡◌, ◌++◌, take}
use Rattle.schedule_lines.specs.inner.Grids.{names_in}
use Rattle.schedule_lines.proofs.grids.grid.push_names.Given as goal

abbrev pub invariant-loop-column : goal.invariant-loop-column
invariant-loop-column l = l.text.items ≡ l.initial.text.items ++ names_in l.machine (take l.column-index l.columns)
