-- What allotting comes to: registers for all values, or the first value that has none.
use Rattle.std.specs.Prelude.{◌≡◌, ℕ}
use Rattle.loop_schedules.specs.Schedules.{ScheduleData}
use Rattle.overlap.specs.Allotments.{LeastFor}
use Rattle.overlap.specs.Lifetimes.{lifetimes_of}
use Rattle.registers.specs.Numberless.{HasNone}
use Rattle.rotating.specs.declared.numbers.allotment.Allotted.{Allotted}
use Rattle.rotating.specs.declared.numbers.allotment.Allotted.TheVariants.{All, Lacks}

-- the least allotment of this number of registers, or the first value for which no register is left
abbrev pub IsAllotted : ScheduleData → ℕ → Allotted → Type 0
IsAllotted schedule registers (All allotment) = (allotment.registers ≡ registers) × LeastFor schedule allotment
IsAllotted schedule registers (Lacks life) = HasNone schedule.ii registers (lifetimes_of schedule) life
