use Rattle.std.proofs.Common.{◌≡◌, ◌++◌, take}
use Rattle.schedule_lines.specs.inner.Grids.{uses_in}
use Rattle.schedule_lines.proofs.grids.uses.push_percents.Given as goal

abbrev pub invariant-loop-column : goal.invariant-loop-column
invariant-loop-column l = l.text.items ≡ l.initial.text.items ++ uses_in l.machine l.takers (take l.column-index l.columns)
