-- A search before its last interval.
use Rattle.std.specs.Prelude.{ℕ, Option, Some, None}
use Rattle.problems.specs.Problems.{ProblemData}
use Rattle.settings.specs.Searches.{NoneGiven}
use Rattle.solutions.specs.declared.solving.outcome.Outcome.TheVariants.{Met}
use Rattle.solutions.specs.Outcomes.{Gives, IsSolved, first_of, last_of}
use Rattle.solutions.specs.Runs.{IsRightOutcome}
use Rattle.solutions.specs.Solutions.{SolutionData}

-- no interval from the first one on and before this one gives a solution
abbrev pub NoneBefore : ProblemData → ℕ → Type 0
NoneBefore problem end = NoneGiven (Gives problem) (first_of problem) end

-- the solution of the least interval that gives one, which is right, or none where no interval before the last one gives one
abbrev pub IsFirstMet : ProblemData → Option SolutionData → Type 0
IsFirstMet problem None = NoneBefore problem (last_of problem)
IsFirstMet problem (Some s) = IsSolved problem (Met s) × IsRightOutcome (Met s)
