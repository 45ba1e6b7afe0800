-- The line of the fullest set of units of a problem.
use Rattle.std.specs.Prelude.{ℕ, List}
use Rattle.problems.specs.declared.draft.Draft.{Draft}
use Rattle.solution_text.specs.Names.{unit_name}
use Rattle.reason_lines.specs.SetLines as lines
use Rattle.unit_sets.specs.declared.fullest.UnitSet.{UnitSet}

-- the line by the problem's names of its units
abbrev pub set_line : Draft → UnitSet → List ℕ
set_line draft set = lines.set_line (unit_name draft) draft.units set
