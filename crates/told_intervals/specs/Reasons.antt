-- Why an interval failed, and what it gives with the evidence of it.
use Rattle.std.specs.Prelude.{◌≡◌, ℕ, Some}
use Rattle.ims.specs.Culprits.{AnswersCulprit}
use Rattle.loop_schedules.specs.Problems.{ProblemData, budget_of}
use Rattle.loop_schedules.specs.Schedules.{ScheduleData}
use Rattle.registers.specs.declared.lifetime.Lifetime.{Lifetime}
use Rattle.registers.specs.Numberless.{HasNone}
use Rattle.overlap.specs.Allotments.{LeastFor}
use Rattle.overlap.specs.Emission.{emitted}
use Rattle.overlap.specs.Lifetimes.{lifetimes_of}
use Rattle.loop_listings.specs.declared.causes.Cause.{Cause}
use Rattle.loop_listings.specs.declared.causes.Cause.TheVariants.{Registers}
use Rattle.loop_listings.specs.Causes.{culprit_cause}
use Rattle.candidates.specs.declared.outcomes.Outcome.{Outcome}
use Rattle.candidates.specs.declared.outcomes.Outcome.TheVariants as outcome
use Rattle.candidates.specs.Outcomes.{FailsBy, Gives, IsPlacedAs}
use Rattle.told_intervals.specs.declared.evidence.Met as evidence
use Rattle.told_intervals.specs.declared.evidence.Reason.{Reason}
use Rattle.told_intervals.specs.declared.evidence.Reason.TheVariants.{Attempt, Register}
use Rattle.told_intervals.specs.declared.evidence.Tried.{Tried}
use Rattle.told_intervals.specs.declared.evidence.Tried.TheVariants.{Met, Failed}

-- the cause that a reason is after
abbrev pub reason_cause : Reason → Cause
reason_cause (Attempt culprit) = culprit_cause culprit
reason_cause (Register life schedule) = Registers

-- the attempt places all operations as the schedule says, and this is the first value that has no register
pub record LacksFor (problem : ProblemData) (ii : ℕ) (life : Lifetime) (schedule : ScheduleData) : Type 0 where
  pub is_schedule : IsPlacedAs problem ii schedule
  pub none : HasNone schedule.ii problem.registers (lifetimes_of schedule) life

-- why an interval failed
abbrev pub IsReason : ProblemData → ℕ → Reason → Type 0
IsReason problem ii (Attempt culprit) = AnswersCulprit problem ii (budget_of problem) (Some culprit)
IsReason problem ii (Register life schedule) = LacksFor problem ii life schedule

-- an interval gives no kernel, by the cause of this reason, and for this reason
pub record FailsFor (problem : ProblemData) (ii : ℕ) (reason : Reason) : Type 0 where
  pub fails : FailsBy problem ii (reason_cause reason)
  pub is : IsReason problem ii reason

-- the attempt places all operations as the schedule says, the allotment is the least one of the loop's registers, and the kernel is that of both
pub record IsMet (problem : ProblemData) (ii : ℕ) (met : evidence.Met) : Type 0 where
  pub is_schedule : IsPlacedAs problem ii met.schedule
  pub same_registers : met.allotment.registers ≡ problem.registers
  pub is_least : LeastFor met.schedule met.allotment
  pub is_kernel : met.kernel ≡ emitted met.schedule met.allotment

-- what an interval comes to, with the evidence of it
abbrev pub IsTried : ProblemData → ℕ → Tried → Type 0
IsTried problem ii (Met met) = IsMet problem ii met
IsTried problem ii (Failed reason) = FailsFor problem ii reason

-- the same without the evidence
abbrev pub outcome_of : Tried → Outcome
outcome_of (Met met) = outcome.Met met.kernel
outcome_of (Failed reason) = outcome.Failed (reason_cause reason)

-- what is told of an interval with its evidence is what it gives
abbrev pub TriedIsGiven : Type 0
TriedIsGiven = (problem : ProblemData) (ii : ℕ) (tried : Tried) → IsTried problem ii tried → Gives problem ii (outcome_of tried)
