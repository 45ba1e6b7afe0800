-- What the check of an allotment answers.
use Rattle.std.specs.Prelude.{◌≡◌, ℕ, List, Result, Ok, Err, Vec}
use Rattle.std.specs.Global.{Global}
use Rattle.loop_schedules.specs.Schedules.{ScheduleData}
use Rattle.overlap.specs.Allotments.{AllotmentData, IsLawfulAllotment}
use Rattle.overlap.specs.Lifetimes.{lifetimes_of}

-- what the check of some numbers answers: the allotment of them where they are lawful, and else the numbers
abbrev pub CheckAnswers : ScheduleData → ℕ → List ℕ → Result AllotmentData (Vec ℕ Global) → Type 0
CheckAnswers schedule registers numbers (Ok allotment) =
    (allotment ≡ record { registers = registers; numbers = numbers }) × IsLawfulAllotment schedule.ii registers (lifetimes_of schedule) numbers
CheckAnswers schedule registers numbers (Err back) =
    (back.items ≡ numbers) × (¬ IsLawfulAllotment schedule.ii registers (lifetimes_of schedule) numbers)
