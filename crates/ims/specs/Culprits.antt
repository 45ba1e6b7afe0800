-- What keeps an attempt from a schedule.
use Rattle.std.specs.Prelude.{ℕ, Option, Some, None}
use Rattle.ims.specs.declared.outcome.answers.Answer.{Answer}
use Rattle.ims.specs.declared.outcome.answers.Answer.TheVariants.{Placed, Failed}
use Rattle.ims.specs.declared.outcome.attempts.Try.TheVariants as try
use Rattle.ims.specs.Attempts.{AnswersAttempt}
use Rattle.loop_schedules.specs.Problems.{ProblemData, without_loop}
use Rattle.loop_schedules.specs.Schedules.{ScheduleData}
use Rattle.modulo.specs.declared.outcome.attempts.Culprit.{Culprit}
use Rattle.modulo.specs.Culprits as modulo

-- what keeps an attempt from a schedule: what does without the loop, and nothing where there is a schedule of the loop
abbrev pub AnswersCulprit : ProblemData → ℕ → ℕ → Option Culprit → Type 0
AnswersCulprit problem ii budget (Some culprit) = modulo.AnswersCulprit (without_loop problem) ii budget (Some culprit)
AnswersCulprit problem ii budget None = (schedule : ScheduleData) × AnswersAttempt problem ii budget (try.Placed schedule)

-- what an attempt answers, with what keeps it from a schedule
abbrev pub IsAnswer : ProblemData → ℕ → ℕ → Answer → Type 0
IsAnswer problem ii budget (Placed schedule) = AnswersAttempt problem ii budget (try.Placed schedule)
IsAnswer problem ii budget (Failed culprit) = AnswersCulprit problem ii budget (Some culprit)

-- where there is a culprit, the attempt fails so
abbrev pub CulpritsAreFailures : Type 0
CulpritsAreFailures = (problem : ProblemData) (ii budget : ℕ) (culprit : Culprit) → AnswersCulprit problem ii budget (Some culprit)
    → AnswersAttempt problem ii budget (try.Failed (modulo.failure_of culprit))
