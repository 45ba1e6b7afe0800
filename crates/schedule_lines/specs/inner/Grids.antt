-- What is known of a grid before its text is written.
use Rattle.std.specs.Prelude.{◌≡◌, ℕ, ◌-◌, ◌<◌, codes, decimal, List, ◌++◌, length, map, slice_index}
use Rattle.std.specs.List.{All, flat_map}
use Rattle.machine_data.specs.declared.limits.TheConstants.{MAX_UNITS}
use Rattle.machine_data.specs.Machines.{MachineData}
use Rattle.loop_schedules.specs.Schedules.{ScheduleData}
use Rattle.figures.specs.LiveCounts.{greatest_live, live_counts}
use Rattle.figures.specs.Slots.{used_units}
use Rattle.schedule_lines.specs.declared.grids.columns.Column.{Column}
use Rattle.schedule_lines.specs.declared.grids.grid.Grid.{Grid}
use Rattle.schedule_lines.specs.Columns.{cell_after, full_mark, live_width, padded, row_width, unit_name, unit_width}
use Rattle.schedule_lines.specs.ScheduleTexts.{grid_text, idle_line, use_line, use_text}
use Rattle.schedule_lines.specs.SlotTexts.{slot_text}

-- the column of a unit, and those of the units in use
abbrev pub column_of : MachineData → ScheduleData → ℕ → Column
column_of machine schedule unit = record { unit = unit; width = unit_width machine schedule unit }

abbrev pub columns_in : MachineData → ScheduleData → List Column
columns_in machine schedule = map (column_of machine schedule) (used_units machine schedule)

-- the grid of the schedule whose slots it has
pub record IsGrid (machine : MachineData) (grid : Grid) : Type 0 where
  pub columns : grid.columns.items ≡ columns_in machine grid.slots
  pub few : All (λ (column : Column). column.unit < MAX_UNITS) grid.columns.items
  pub counts : grid.counts.items ≡ live_counts grid.slots
  pub greatest : grid.greatest ≡ greatest_live grid.slots
  pub row_width : grid.row_width ≡ row_width grid.slots
  pub live_width : grid.live_width ≡ live_width grid.slots

-- the cells of a line in the columns of units
abbrev pub names_in : MachineData → List Column → List ℕ
names_in machine columns = flat_map (λ (column : Column). cell_after column.width (unit_name machine column.unit)) columns

abbrev pub cells_in : ScheduleData → List Column → ℕ → List ℕ
cells_in schedule columns row = flat_map (λ (column : Column). cell_after column.width (slot_text schedule column.unit row)) columns

-- how much of the interval the units of columns are taken
abbrev pub uses_in : MachineData → ScheduleData → List Column → List ℕ
uses_in machine schedule columns = flat_map (λ (column : Column). use_text machine schedule column.unit) columns

-- the lines by what the grid keeps
abbrev pub head_in : MachineData → Grid → List ℕ
head_in machine grid =
    padded grid.row_width (codes "row") ++ (names_in machine grid.columns.items ++ (cell_after grid.live_width (codes "live") ++ codes "\n"))

abbrev pub row_in : Grid → ℕ → List ℕ
row_in grid row =
    let count = slice_index grid.counts.items row in
    padded grid.row_width (decimal row)
    ++ (cells_in grid.slots grid.columns.items row ++ (cell_after grid.live_width (decimal count) ++ (full_mark count grid.greatest ++ codes "\n")))

-- a grid, how much of the interval its units are taken, and how many units are left out of it
abbrev pub table_text : MachineData → ScheduleData → List ℕ
table_text machine schedule =
    grid_text machine schedule ++ (use_line machine schedule ++ idle_line (length machine.units - length (used_units machine schedule)))
