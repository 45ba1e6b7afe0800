-- The text of a schedule.
use Rattle.std.specs.Prelude.{ℕ, zero, suc, ◌-◌, codes, decimal, List, [], ◌++◌, length, Option, Some, None, slice_index}
use Rattle.std.specs.List.{flat_map, range_with_len, slice_index_or}
use Rattle.machine_data.specs.declared.alternative.Row.{Row}
use Rattle.machine_data.specs.Machines.{MachineData}
use Rattle.loop_data.specs.Loops.{LoopData}
use Rattle.graph_text.specs.Names.{op_name}
use Rattle.loop_schedules.specs.Schedules.{ScheduleData, stages_of}
use Rattle.registers.specs.declared.lifetime.Lifetime.{Lifetime}
use Rattle.overlap.specs.Allotments.{AllotmentData}
use Rattle.overlap.specs.Lifetimes.{lifetimes_of}
use Rattle.rotating.specs.Crowds.{nobody}
use Rattle.figures.specs.declared.figures.Figures.{Figures}
use Rattle.figures.specs.Slots.{operations_in, percent_of, rows_at, rows_in, used_units}
use Rattle.writing.specs.Words.{told}
use Rattle.schedule_lines.specs.Columns.{head_line, row_line, unit_name}

-- `iteration C cycles`
abbrev pub iteration_line : ℕ → List ℕ
iteration_line cycles = told (codes "iteration ") cycles ++ codes " cycles\n"

-- `N iterations take N+D turns`, where the letter N stands as it is
abbrev pub turns_line : ℕ → List ℕ
turns_line more = told (codes "N iterations take N+") more ++ codes " turns\n"

-- ` UNIT@OFFSET`
abbrev pub row_text : MachineData → Row → List ℕ
row_text machine row = codes " " ++ (unit_name machine row.unit ++ told (codes "@") row.offset)

-- `op NAME at T slack K: UNIT@OFFSET UNIT@OFFSET ..`
abbrev pub op_line : MachineData → ScheduleData → ℕ → ℕ → List ℕ
op_line machine schedule slack op =
    (codes "op " ++ op_name schedule.problem.loop op)
    ++ (told (codes " at ") (slice_index schedule.times op)
    ++ (told (codes " slack ") slack ++ (codes ":" ++ (flat_map (row_text machine) (rows_at schedule op) ++ codes "\n"))))

-- the lines of the operations, each with the slack at its place
abbrev pub op_lines : MachineData → ScheduleData → List ℕ → List ℕ
op_lines machine schedule slacks = flat_map (λ op. op_line machine schedule (slice_index slacks op) op) (operations_in schedule)

-- `value NAME lives F to L register K`
abbrev pub value_line : LoopData → Lifetime → ℕ → List ℕ
value_line loop life number =
    (codes "value " ++ op_name loop life.operation)
    ++ (told (codes " lives ") life.first ++ (told (codes " to ") life.last ++ (told (codes " register ") number ++ codes "\n")))

-- the lines of values, each with the number at its place
abbrev pub value_lines : LoopData → List Lifetime → List ℕ → List ℕ
value_lines loop lives numbers = flat_map (λ k. value_line loop (slice_index_or lives k nobody) (slice_index numbers k)) (range_with_len 0 (length lives))

-- the names of the columns, and the rows
abbrev pub grid_text : MachineData → ScheduleData → List ℕ
grid_text machine schedule = head_line machine schedule ++ flat_map (row_line machine schedule) (rows_in schedule)

-- `idle units N`, nothing where N is 0
abbrev pub idle_line : ℕ → List ℕ
idle_line zero = []
idle_line (suc n) = told (codes "idle units ") (suc n) ++ codes "\n"

-- a least number of registers, or that it is greater than what a machine may have
abbrev pub need_word : Option ℕ → List ℕ
need_word None = codes "more than 256"
need_word (Some registers) = decimal registers

-- `registers need N`
abbrev pub need_line : Option ℕ → List ℕ
need_line need = (codes "registers need " ++ need_word need) ++ codes "\n"

-- ` UNIT P%`
abbrev pub use_text : MachineData → ScheduleData → ℕ → List ℕ
use_text machine schedule unit = codes " " ++ (unit_name machine unit ++ (told (codes " ") (percent_of schedule unit) ++ codes "%"))

-- `use UNIT P% UNIT P% ..`, for the units of the grid
abbrev pub use_line : MachineData → ScheduleData → List ℕ
use_line machine schedule = codes "use" ++ (flat_map (use_text machine schedule) (used_units machine schedule) ++ codes "\n")

-- how long an iteration takes and how many turns a run has, the lines of the operations and of the values, how many registers are
-- needed, the grid, how much of the interval its units are taken, and how many units are left out of it
unfoldable pub schedule_text : MachineData → ScheduleData → AllotmentData → Figures → List ℕ
schedule_text machine schedule allotment figures =
    iteration_line figures.cycles
    ++ (turns_line (stages_of schedule - 1)
    ++ (op_lines machine schedule figures.slacks.items
    ++ (value_lines schedule.problem.loop (lifetimes_of schedule) allotment.numbers
    ++ (need_line figures.need
    ++ (grid_text machine schedule ++ (use_line machine schedule ++ idle_line (length machine.units - length (used_units machine schedule))))))))
