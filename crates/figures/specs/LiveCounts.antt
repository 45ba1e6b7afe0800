-- How many registers hold a value in each row of a schedule.
use Rattle.std.specs.Prelude.{ℕ, List, length, map}
use Rattle.unit_bound.specs.Units.{greatest_of}
use Rattle.loop_schedules.specs.Schedules.{ScheduleData}
use Rattle.overlap.specs.Lifetimes.{lifetimes_of}
use Rattle.rotating.specs.Crowds.{crowd_in}
use Rattle.figures.specs.Slots.{rows_in}

-- how many registers hold a value in a row, how many in each, and how many in the fullest one
unfoldable pub live_count : ScheduleData → ℕ → ℕ
live_count schedule row = crowd_in schedule.ii row (lifetimes_of schedule) (length (lifetimes_of schedule))

abbrev pub live_counts : ScheduleData → List ℕ
live_counts schedule = map (live_count schedule) (rows_in schedule)

abbrev pub greatest_live : ScheduleData → ℕ
greatest_live schedule = greatest_of (live_counts schedule)
