-- The table of which operation takes each slot.
use Rattle.std.specs.Prelude.{◌≡◌, ℕ, ◌+◌, ◌*◌, ◌-◌, ◌<◌, suc, List, length, filter, Option, Some, None, slice_get, slice_index}
use Rattle.machine_data.specs.declared.limits.TheConstants.{MAX_UNITS}
use Rattle.std.specs.List.{range_with_len}
use Rattle.loop_schedules.specs.Schedules.{ScheduleData}
use Rattle.figures.specs.Slots.{takes_slot}

-- the place of a slot in a table that has 64 units in each row
abbrev pub taker_in : List ℕ → ℕ → ℕ → ℕ
taker_in takers unit row = slice_index takers (row * 64 + unit)

-- what stands there: the number and 1 of the operation that takes the slot, or 0
abbrev pub place_of : Option ℕ → ℕ
place_of None = 0
place_of (Some op) = suc op

-- each slot has the place of the first of the operations from this one on that take it
pub record AreTakersFrom (schedule : ScheduleData) (from : ℕ) (takers : List ℕ) : Type 0 where
  pub each : (unit row : ℕ) → unit < MAX_UNITS → row < schedule.ii
      → taker_in takers unit row ≡ place_of (slice_get (filter (takes_slot schedule unit row) (range_with_len from (length schedule.problem.operations - from))) 0)
