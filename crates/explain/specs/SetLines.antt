-- The line of the fullest set of a machine's units.
use Rattle.std.specs.Prelude.{ℕ, List, [], length}
use Rattle.std.specs.List.{slice_index_or}
use Rattle.machine_data.specs.Machines.{MachineData}
use Rattle.unit_sets.specs.declared.fullest.UnitSet.{UnitSet}
use Rattle.reason_lines.specs.SetLines as lines

-- the line by the machine's names of its units
abbrev pub set_line : MachineData → UnitSet → List ℕ
set_line machine set = lines.set_line (λ unit. slice_index_or machine.units unit []) (length machine.units) set
