-- The grid of a schedule: its columns, their widths, and its lines.
use Rattle.std.specs.Prelude.{ℕ, ◌-◌, ◌==◌, ◌&&◌, nat_lt, if◌then◌else◌, codes, decimal, List, [], ◌∷◌, ◌++◌, length, map, replicate}
use Rattle.std.specs.List.{flat_map, slice_index_or}
use Rattle.machine_data.specs.Machines.{MachineData}
use Rattle.unit_bound.specs.Units.{greatest_of}
use Rattle.loop_schedules.specs.Schedules.{ScheduleData}
use Rattle.figures.specs.LiveCounts.{greatest_live, live_count, live_counts}
use Rattle.figures.specs.Slots.{rows_in, used_units}
use Rattle.schedule_lines.specs.SlotTexts.{slot_text}

-- the width of a column: the length of its longest cell, in bytes
abbrev pub width_of : List (List ℕ) → ℕ
width_of cells = greatest_of (map length cells)

-- a cell that stands to the right in its column, and the same after a blank
abbrev pub padded : ℕ → List ℕ → List ℕ
padded width cell = replicate (width - length cell) 32 ++ cell

abbrev pub cell_after : ℕ → List ℕ → List ℕ
cell_after width cell = codes " " ++ padded width cell

abbrev pub unit_name : MachineData → ℕ → List ℕ
unit_name machine unit = slice_index_or machine.units unit []

-- the first column: `row`, and the numbers of the rows
unfoldable pub row_width : ScheduleData → ℕ
row_width schedule = width_of (codes "row" ∷ map decimal (rows_in schedule))

-- the column of a unit: its name, and what stands in its slots
unfoldable pub unit_width : MachineData → ScheduleData → ℕ → ℕ
unit_width machine schedule unit = width_of (unit_name machine unit ∷ map (slot_text schedule unit) (rows_in schedule))

-- the last column: `live`, and how many registers are live in each row
unfoldable pub live_width : ScheduleData → ℕ
live_width schedule = width_of (codes "live" ∷ map decimal (live_counts schedule))

-- the mark of a row with `count` live registers: ` full` where that is `greatest`, what the fullest row has, and not 0
abbrev pub full_mark : ℕ → ℕ → List ℕ
full_mark count greatest = if nat_lt 0 count && (count == greatest) then codes " full" else []

-- the line of the names of the columns
unfoldable pub head_line : MachineData → ScheduleData → List ℕ
head_line machine schedule =
    padded (row_width schedule) (codes "row")
    ++ (flat_map (λ unit. cell_after (unit_width machine schedule unit) (unit_name machine unit)) (used_units machine schedule)
    ++ (cell_after (live_width schedule) (codes "live") ++ codes "\n"))

-- the line of a row
unfoldable pub row_line : MachineData → ScheduleData → ℕ → List ℕ
row_line machine schedule row =
    padded (row_width schedule) (decimal row)
    ++ (flat_map (λ unit. cell_after (unit_width machine schedule unit) (slot_text schedule unit row)) (used_units machine schedule)
    ++ (cell_after (live_width schedule) (decimal (live_count schedule row)) ++ (full_mark (live_count schedule row) (greatest_live schedule) ++ codes "\n")))
