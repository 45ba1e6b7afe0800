-- The lines by what a grid keeps are those of its schedule.
use Rattle.std.proofs.Common.{◌≡◌, ℕ, ◌<◌, ◌≤◌, List, length, ap, ◌∙◌, arith}
use Rattle.std.specs.Prelude.{slice_index}
use Rattle.std.specs.List.{flat_map, range_with_len}
use Rattle.std.proofs.lemmas.List.Folds.{flat_map-map}
use Rattle.std.proofs.lemmas.List.FromFn.{get_or-map-range_with_len, length-map-range_with_len, length-range_with_len}
use Rattle.std.proofs.lemmas.List.Sums.{count_by-le-length, length-filter}
use Rattle.machine_data.specs.Machines.{MachineData}
use Rattle.loop_schedules.specs.Schedules.{ScheduleData}
use Rattle.figures.specs.LiveCounts.{live_count}
use Rattle.figures.specs.Slots.{is_used, used_units}
use Rattle.schedule_lines.specs.declared.grids.columns.Column.{Column}
use Rattle.schedule_lines.specs.declared.grids.grid.Grid.{Grid}
use Rattle.schedule_lines.specs.Columns.{cell_after, head_line, row_line, unit_name}
use Rattle.schedule_lines.specs.SlotTexts.{slot_text}
use Rattle.schedule_lines.specs.inner.Grids.{IsGrid, column_of, columns_in, head_in, row_in}

-- what is told of columns is told of the units in use
pub in-columns : (f : Column → List ℕ) (machine : MachineData) (schedule : ScheduleData) (columns : List Column) → columns ≡ columns_in machine schedule
    → flat_map f columns ≡ flat_map (λ unit. f (column_of machine schedule unit)) (used_units machine schedule)
in-columns f machine schedule columns is = ap (flat_map f) is ∙ flat_map-map f (column_of machine schedule) (used_units machine schedule)

pub head-is : (machine : MachineData) (grid : Grid) → IsGrid machine grid → head_in machine grid ≡ head_line machine grid.slots
unfolding head_line
head-is machine grid is =
    let names = in-columns (λ (column : Column). cell_after column.width (unit_name machine column.unit)) machine grid.slots grid.columns.items is.columns in
    let first = is.row_width in
    let last = is.live_width in
    cc

pub row-is : (machine : MachineData) (grid : Grid) → IsGrid machine grid → (row : ℕ) → row < grid.slots.ii → row_in grid row ≡ row_line machine grid.slots row
unfolding row_line
row-is machine grid is row lt =
    let cells = in-columns (λ (column : Column). cell_after column.width (slot_text grid.slots column.unit row)) machine grid.slots grid.columns.items is.columns in
    let count : slice_index grid.counts.items row ≡ live_count grid.slots row
    = ap (λ counts. slice_index counts row) is.counts ∙ get_or-map-range_with_len (live_count grid.slots) 0 grid.slots.ii row row 0 lt (omega arith) in
    let first = is.row_width in
    let last = is.live_width in
    let greatest = is.greatest in
    cc

pub rows-counted : (machine : MachineData) (grid : Grid) → IsGrid machine grid → length grid.counts.items ≡ grid.slots.ii
rows-counted machine grid is = ap length is.counts ∙ length-map-range_with_len (live_count grid.slots) 0 grid.slots.ii

pub units-few : (machine : MachineData) (schedule : ScheduleData) → length (used_units machine schedule) ≤ length machine.units
unfolding used_units
units-few machine schedule =
    let units : List ℕ = range_with_len 0 (length machine.units) in
    let used = length-filter (is_used schedule) units in
    let most = count_by-le-length (is_used schedule) units in
    let all = length-range_with_len 0 (length machine.units) in
    omega arith
