-- Why an interval gives no solution, and its culprits.
use Rattle.std.specs.Prelude.{◌≡◌, ℕ, Option, Some, None}
use Rattle.modulo.specs.declared.outcome.attempts.Culprit.{Culprit}
use Rattle.modulo.specs.Culprits.{AnswersCulprit, failure_of}
use Rattle.schedules.specs.Problems.{budget_of}
use Rattle.problems.specs.Problems.{ProblemData}
use Rattle.solutions.specs.declared.solving.outcome.Cause.{Cause}
use Rattle.solutions.specs.declared.solving.outcome.Cause.TheVariants.{Table, Budget, Stages, Registers}
use Rattle.solutions.specs.declared.solving.tried.Failure.{Failure}
use Rattle.solutions.specs.Outcomes.{FailsBy, cause_of}

-- somebody keeps the attempt at an interval from a schedule, by this cause
pub record IsKeptBy (problem : ProblemData) (ii : ℕ) (cause : Cause) (found : Option Culprit) : Type 0 where
  pub culprit : Culprit
  pub is_found : found ≡ Some culprit
  pub same_cause : cause_of (failure_of culprit) ≡ cause
  pub is_culprit : AnswersCulprit problem.scheduling ii (budget_of problem.scheduling) (Some culprit)

-- the culprits of a cause; of a lack of registers nobody but the value that the cause names
abbrev pub IsEvidence : ProblemData → ℕ → Cause → Option Culprit → Type 0
IsEvidence problem ii Table found = IsKeptBy problem ii Table found
IsEvidence problem ii Budget found = IsKeptBy problem ii Budget found
IsEvidence problem ii Stages found = IsKeptBy problem ii Stages found
IsEvidence problem ii (Registers file value) found = found ≡ None

-- an interval gives no solution, by this cause, and these are its culprits
pub record FailsFor (problem : ProblemData) (ii : ℕ) (failure : Failure) : Type 0 where
  pub fails : FailsBy problem ii failure.cause
  pub is : IsEvidence problem ii failure.cause failure.culprit
