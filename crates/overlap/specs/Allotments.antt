-- Allotments of rotating registers to the values of a scheduled loop.
use Rattle.std.specs.Prelude.{ℕ, slice_index}
use Rattle.loop_data.specs.Loops.{LoopData}
use Rattle.loop_schedules.specs.Schedules.{ScheduleData}
pub use Rattle.registers.specs.Allotments.{AllotmentData, DoMeet, IsLawfulAllotment, IsLeast, AreLeast, HaveNone, IsAllotment}
use Rattle.overlap.specs.Lifetimes.{lifetimes_of, rank_of}

-- the allotment is lawful for the schedule's values
abbrev pub Suits : ScheduleData → AllotmentData → Type 0
Suits schedule allotment = IsLawfulAllotment schedule.ii allotment.registers (lifetimes_of schedule) allotment.numbers

-- the least allotment of the schedule's values, and that there is none
abbrev pub LeastFor : ScheduleData → AllotmentData → Type 0
LeastFor schedule allotment = AreLeast schedule.ii allotment.registers (lifetimes_of schedule) allotment.numbers

abbrev pub NoneFor : ScheduleData → ℕ → Type 0
NoneFor schedule registers = HaveNone schedule.ii registers (lifetimes_of schedule)

-- the number of a statement's value
abbrev pub allotted_number : LoopData → AllotmentData → ℕ → ℕ
allotted_number loop allotment statement = slice_index allotment.numbers (rank_of loop statement)
