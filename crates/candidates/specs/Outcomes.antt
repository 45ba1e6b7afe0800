-- What a loop gives at an interval: a kernel, or the cause for which it gives none.
use Rattle.std.specs.Prelude.{◌≡◌, ℕ, ◌≤◌}
use Rattle.modulo.specs.declared.outcome.attempts.Failure.TheVariants as failure
use Rattle.ims.specs.declared.outcome.attempts.Try.TheVariants as try
use Rattle.ims.specs.Attempts.{AnswersAttempt}
use Rattle.loop_schedules.specs.Problems.{ProblemData, IsProblem, mii_of, budget_of}
use Rattle.loop_schedules.specs.Schedules.{ScheduleData}
use Rattle.kernel.specs.declared.kernels.parts.Parts.{Parts}
use Rattle.overlap.specs.Allotments.{AllotmentData, LeastFor, NoneFor}
use Rattle.overlap.specs.Emission.{emitted}
use Rattle.loop_listings.specs.declared.causes.Cause.{Cause}
use Rattle.loop_listings.specs.declared.causes.Cause.TheVariants.{Table, Budget, Stages, Registers}
use Rattle.candidates.specs.declared.outcomes.Outcome.{Outcome}
use Rattle.candidates.specs.declared.outcomes.Outcome.TheVariants.{Met, Failed}

-- the attempt places all operations, as the schedule says
abbrev pub IsPlacedAs : ProblemData → ℕ → ScheduleData → Type 0
IsPlacedAs problem ii schedule = AnswersAttempt problem ii (budget_of problem) (try.Placed schedule)

-- the kernel of a schedule with the least registers of its values
pub record HasKernel (schedule : ScheduleData) (kernel : Parts) : Type 0 where
  pub allotment : AllotmentData
  pub same_registers : allotment.registers ≡ schedule.problem.registers
  pub is_least : LeastFor schedule allotment
  pub is_kernel : kernel ≡ emitted schedule allotment

-- the attempt places all operations, their values have registers, and the kernel is that of both
pub record GivesKernel (problem : ProblemData) (ii : ℕ) (kernel : Parts) : Type 0 where
  pub schedule : ScheduleData
  pub is_schedule : IsPlacedAs problem ii schedule
  pub has_kernel : HasKernel schedule kernel

-- the attempt places all operations, and some value has no register
pub record LacksRegisters (problem : ProblemData) (ii : ℕ) : Type 0 where
  pub schedule : ScheduleData
  pub is_schedule : IsPlacedAs problem ii schedule
  pub none : NoneFor schedule schedule.problem.registers

-- why an interval gives no kernel
abbrev pub FailsBy : ProblemData → ℕ → Cause → Type 0
FailsBy problem ii Table = AnswersAttempt problem ii (budget_of problem) (try.Failed failure.Table)
FailsBy problem ii Budget = AnswersAttempt problem ii (budget_of problem) (try.Failed failure.Budget)
FailsBy problem ii Stages = AnswersAttempt problem ii (budget_of problem) (try.Failed failure.Stages)
FailsBy problem ii Registers = LacksRegisters problem ii

-- what an interval gives
abbrev pub Gives : ProblemData → ℕ → Outcome → Type 0
Gives problem ii (Met kernel) = GivesKernel problem ii kernel
Gives problem ii (Failed cause) = FailsBy problem ii cause

-- an interval gives one thing
abbrev pub OneOutcome : Type 0
OneOutcome = (problem : ProblemData) (ii : ℕ) (one other : Outcome) → IsProblem problem → mii_of problem ≤ ii
    → Gives problem ii one → Gives problem ii other → one ≡ other
