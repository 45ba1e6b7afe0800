-- How many registers the values of a schedule need.
use Rattle.std.specs.Prelude.{ℕ, ◌<◌, ◌≤◌, List, Option, Some, None}
use Rattle.machine_data.specs.declared.limits.TheConstants.{MAX_REGISTERS}
use Rattle.loop_schedules.specs.Schedules.{ScheduleData}
use Rattle.overlap.specs.Allotments.{AreLeast, NoneFor}
use Rattle.overlap.specs.Lifetimes.{lifetimes_of}

-- each value gets its least number with this many registers, and with fewer some value has none
pub record IsLeastNeed (schedule : ScheduleData) (registers : ℕ) : Type 0 where
  pub some : 1 ≤ registers
  pub few : registers ≤ MAX_REGISTERS
  pub numbers : List ℕ
  pub are_least : AreLeast schedule.ii registers (lifetimes_of schedule) numbers
  pub fewer : (number : ℕ) → 1 ≤ number → number < registers → NoneFor schedule number

-- the least number of registers for which there is an allotment, or none up to the greatest number that a machine may have
abbrev pub IsNeed : ScheduleData → Option ℕ → Type 0
IsNeed schedule (Some registers) = IsLeastNeed schedule registers
IsNeed schedule None = (number : ℕ) → 1 ≤ number → number ≤ MAX_REGISTERS → NoneFor schedule number
