-- What a search for a solution tells.
use Rattle.std.specs.Prelude.{◌≡◌, ℕ, ◌+◌, ◌-◌, List, length, Option, Some, None, slice_get}
use Rattle.std.specs.List.{AllZip, range_with_len}
use Rattle.modulo.specs.declared.outcome.attempts.Culprit.{Culprit}
use Rattle.problems.specs.Problems.{ProblemData}
use Rattle.solutions.specs.declared.solving.outcome.Outcome.{Outcome}
use Rattle.solutions.specs.declared.solving.outcome.Outcome.TheVariants.{Met, Failed}
use Rattle.solutions.specs.declared.solving.solve.Solved.{Solved}
use Rattle.solutions.specs.declared.solving.told.Told.{Told}
use Rattle.solutions.specs.declared.solving.tried.Failure.{Failure}
use Rattle.solutions.specs.Failures.{FailsFor, IsEvidence}
use Rattle.solutions.specs.Outcomes.{IsSolved, first_of, last_of}
use Rattle.solutions.specs.Runs.{IsRightOutcome}

-- how many intervals are tried that give no solution: all before the one that does, or all
abbrev pub failures_of : ProblemData → Outcome → ℕ
failures_of problem (Met s) = s.ii - first_of problem
failures_of problem (Failed cause) = problem.scheduling.ceiling + 1

-- where there is no solution, its cause is that of the last failure
abbrev pub LastIs : Outcome → List Failure → Type 0
LastIs (Met s) failures = Unit {0}
LastIs (Failed cause) failures = (failure : Failure) × (slice_get failures (length failures - 1) ≡ Some failure) × (failure.cause ≡ cause)

-- the outcome of a problem, with a failure for each interval, from the lower bound on, that was tried and gives no solution
pub record IsTold (problem : ProblemData) (told : Told) : Type 0 where
  pub is_solved : IsSolved problem told.outcome
  pub is_right : IsRightOutcome told.outcome
  pub are_failures : AllZip (FailsFor problem) (range_with_len (first_of problem) (failures_of problem told.outcome)) told.failures.items
  pub last : LastIs told.outcome told.failures.items

-- the culprits of the last interval that is tried, where there is no solution
abbrev pub IsLastEvidence : ProblemData → Outcome → Option Culprit → Type 0
IsLastEvidence problem (Met s) found = found ≡ None
IsLastEvidence problem (Failed cause) found = IsEvidence problem (last_of problem) cause found

-- the outcome of a problem, with those culprits
pub record IsSearched (problem : ProblemData) (solved : Solved) : Type 0 where
  pub is_solved : IsSolved problem solved.outcome
  pub is_right : IsRightOutcome solved.outcome
  pub evidence : IsLastEvidence problem solved.outcome solved.culprit

-- the culprits as they are read off what is told: nobody where there is a solution, and else those of the last failure
abbrev pub culprit_in : Option Failure → Option Culprit
culprit_in None = None
culprit_in (Some failure) = failure.culprit

abbrev pub last_culprit : Outcome → List Failure → Option Culprit
last_culprit (Met s) failures = None
last_culprit (Failed cause) failures = culprit_in (slice_get failures (length failures - 1))
