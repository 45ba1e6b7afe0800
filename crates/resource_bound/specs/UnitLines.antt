-- The lines of the units of a machine that a loop uses.
use Rattle.std.specs.Prelude.{ℕ, zero, suc, ◌==◌, Bool, if◌then◌else◌, codes, List, [], ◌++◌, length}
use Rattle.std.specs.List.{flat_map, range_with_len, slice_index_or}
use Rattle.machine_data.specs.Machines.{MachineData}
use Rattle.loop_data.specs.Loops.{LoopData}
use Rattle.unit_bound.specs.Units.{chosen_rows, greatest_use, use_of}
use Rattle.graph.specs.Units.{operations_of}
use Rattle.graph_text.specs.Names.{op_name}
use Rattle.lower_bounds.specs.Texts.{numbers_of}
use Rattle.writing.specs.Words.{told}
use Rattle.resource_bound.specs.Choices.{rows_at}

-- `*K` after the name of an operation that uses a unit K times, where K is above 1
abbrev pub times_text : ℕ → List ℕ
times_text zero = []
times_text (suc zero) = []
times_text (suc (suc n)) = told (codes "*") (suc (suc n))

-- an operation after a blank, with how often it uses a unit; nothing where it does not
abbrev pub user_text : LoopData → ℕ → ℕ → List ℕ
user_text loop number zero = []
user_text loop number (suc n) = (codes " " ++ op_name loop number) ++ times_text (suc n)

-- the operations that use a unit by these choices, in text order
abbrev pub users_text : MachineData → LoopData → List ℕ → ℕ → List ℕ
users_text machine loop choices unit =
    flat_map (λ number. user_text loop number (use_of (rows_at (operations_of machine loop) choices number) unit)) (numbers_of loop)

-- what marks the fullest unit
abbrev pub full_text : Bool → List ℕ
full_text full = if full then codes " full" else []

-- `unit U uses N`, and the mark
abbrev pub uses_text : MachineData → ℕ → ℕ → Bool → List ℕ
uses_text machine unit uses full = (codes "unit " ++ slice_index_or machine.units unit []) ++ (told (codes " uses ") uses ++ full_text full)

-- `unit U uses N full: NAME NAME*2 ..`, with a line feed; nothing where the unit is not used
abbrev pub line_with : MachineData → LoopData → List ℕ → ℕ → ℕ → ℕ → List ℕ
line_with machine loop choices unit zero greatest = []
line_with machine loop choices unit (suc n) greatest =
    uses_text machine unit (suc n) (suc n == greatest) ++ ((codes ":" ++ users_text machine loop choices unit) ++ codes "\n")

-- the line of a unit, by the uses of all units under these choices
abbrev pub unit_line : MachineData → LoopData → List ℕ → ℕ → List ℕ
unit_line machine loop choices unit =
    let rows = chosen_rows (operations_of machine loop) choices in
    line_with machine loop choices unit (use_of rows unit) (greatest_use rows)

-- the lines of all units that are used, in the machine's order
abbrev pub unit_lines_of : MachineData → LoopData → List ℕ → List ℕ
unit_lines_of machine loop choices = flat_map (unit_line machine loop choices) (range_with_len 0 (length machine.units))
