-- The evidence of an interval.
use Rattle.std.proofs.Common.{ℕ, Some, sym, ap, ◌∙◌}
use Rattle.modulo.specs.declared.outcome.attempts.Culprit.{Culprit}
use Rattle.modulo.specs.declared.outcome.attempts.Failure.{Failure}
use Rattle.modulo.specs.declared.outcome.attempts.Failure.TheVariants as failure
use Rattle.modulo.specs.Culprits.{failure_of}
use Rattle.ims.specs.declared.outcome.attempts.Try.TheVariants as try
use Rattle.ims.specs.Attempts.{AnswersAttempt}
use Rattle.ims.specs.Culprits.{AnswersCulprit}
use Rattle.loop_schedules.specs.Problems.{ProblemData, budget_of}
use Rattle.ims.proofs.answers.Promised.{culprits-are_failures}
use Rattle.loop_listings.specs.Causes.{cause_of}
use Rattle.candidates.specs.Outcomes.{FailsBy}
use Rattle.told_intervals.specs.declared.evidence.Reason.TheVariants.{Attempt}
use Rattle.told_intervals.specs.declared.evidence.Tried.TheVariants.{Met, Failed}
use Rattle.told_intervals.specs.Reasons.{FailsFor, TriedIsGiven}

-- an attempt that fails is the cause of its interval
pub fails-by : (p : ProblemData) (ii : ℕ) (f : Failure) → AnswersAttempt p ii (budget_of p) (try.Failed f) → FailsBy p ii (cause_of f)
fails-by p ii failure.Table a = a
fails-by p ii failure.Budget a = a
fails-by p ii failure.Stages a = a

-- what keeps the attempt from a schedule keeps the interval from a kernel
pub attempt-fails : (p : ProblemData) (ii : ℕ) (culprit : Culprit) → AnswersCulprit p ii (budget_of p) (Some culprit) → FailsFor p ii (Attempt culprit)
attempt-fails p ii culprit a = record { fails = fails-by p ii (failure_of culprit) (culprits-are_failures p ii (budget_of p) culprit a); is = a }

pub tried-is_given : TriedIsGiven
tried-is_given p ii (Met met) is = record {
  schedule = met.schedule;
  is_schedule = is.is_schedule;
  has_kernel = record {
    allotment = met.allotment;
    same_registers = is.same_registers ∙ sym (ap (λ (q : ProblemData). q.registers) is.is_schedule.2);
    is_least = is.is_least;
    is_kernel = is.is_kernel;
  };
}
tried-is_given p ii (Failed reason) is = is.fails
