-- Which operation of a schedule takes each slot of its modulo reservation table, and how much of the interval units are taken.
use Rattle.std.specs.Prelude.{◌≡◌, ℕ, ◌*◌, ◌/◌, ◌<◌, Bool, true, List, length, count_by, filter, Option, is_some, slice_get, slice_index}
use Rattle.std.specs.List.{list_any, range_with_len}
use Rattle.machine_data.specs.declared.alternative.Row.{Row}
use Rattle.machine_data.specs.Machines.{MachineData}
use Rattle.mrt.specs.Placements.{rows_of}
use Rattle.mrt.specs.Taken.{takes}
use Rattle.loop_schedules.specs.Schedules.{IsSchedule, ScheduleData}

-- the numbers of the operations, and of the rows
abbrev pub operations_in : ScheduleData → List ℕ
operations_in schedule = range_with_len 0 (length schedule.problem.operations)

abbrev pub rows_in : ScheduleData → List ℕ
rows_in schedule = range_with_len 0 schedule.ii

-- the reservation table by which an operation is issued
abbrev pub rows_at : ScheduleData → ℕ → List Row
rows_at schedule op = rows_of schedule.problem.operations op (slice_index schedule.choices op)

-- the operation takes the slot
abbrev pub takes_slot : ScheduleData → ℕ → ℕ → ℕ → Bool
takes_slot schedule unit row op = takes schedule.ii (rows_at schedule op) (slice_index schedule.times op) unit row

-- the first operation in text order that takes the slot, or none; in a schedule no other one takes it
abbrev pub slot_taker : ScheduleData → ℕ → ℕ → Option ℕ
slot_taker schedule unit row = slice_get (filter (takes_slot schedule unit row) (operations_in schedule)) 0

-- some operation takes the unit in some row
unfoldable pub is_used : ScheduleData → ℕ → Bool
is_used schedule unit = list_any (λ row. is_some (slot_taker schedule unit row)) (rows_in schedule)

-- the units that some operation takes, in the machine's order
unfoldable pub used_units : MachineData → ScheduleData → List ℕ
used_units machine schedule = filter (is_used schedule) (range_with_len 0 (length machine.units))

-- in how many rows some operation takes the unit
unfoldable pub busy_count : ScheduleData → ℕ → ℕ
busy_count schedule unit = count_by (λ row. is_some (slot_taker schedule unit row)) (rows_in schedule)

-- in how many hundredths of the interval the unit is taken, rounded down
abbrev pub percent_of : ScheduleData → ℕ → ℕ
percent_of schedule unit = (100 * busy_count schedule unit) / schedule.ii

-- law: in a schedule no two operations take one slot

abbrev pub SlotsHaveOneTaker : Type 0
SlotsHaveOneTaker = (schedule : ScheduleData) (unit row op other : ℕ) → IsSchedule schedule
    → op < length schedule.problem.operations → other < length schedule.problem.operations
    → takes_slot schedule unit row op ≡ true → takes_slot schedule unit row other ≡ true → op ≡ other
