use Rattle.std.proofs.Common.{◌≡◌, ◌++◌, [], get_or}
use Rattle.loop_data.specs.Run.{MemoryData, opening_cells}
use Rattle.lines_of_runs.specs.Plain.{stretch_lines}
use Rattle.lines_of_runs.proofs.cells.push_cells.Given as goal

abbrev pub invariant-loop-index : goal.invariant-loop-index
invariant-loop-index l = (opening : MemoryData) → get_or opening.arrays l.number [] ≡ opening_cells l.after.trip l.written
    → l.text.items ≡ l.initial.text.items ++ stretch_lines opening l.after l.number l.name l.from l.index
