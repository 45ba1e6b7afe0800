-- What an interval gives.
use Rattle.std.specs.Prelude.{ℕ, Option, MatchOption}
use Rattle.problems.specs.Problems.{ProblemData}
use Rattle.solutions.specs.declared.solving.outcome.Cause.{Cause}
use Rattle.solutions.specs.declared.solving.tried.Tried.{Tried}
use Rattle.solutions.specs.declared.solving.tried.Tried.TheVariants.{Met, Failed}
use Rattle.solutions.specs.Failures.{FailsFor}
use Rattle.solutions.specs.Outcomes.{FailsBy, Gives}
use Rattle.solutions.specs.Solutions.{SolutionData}

-- a solution, or why there is none, with the culprits
abbrev pub IsTried : ProblemData → ℕ → Tried → Type 0
IsTried problem ii (Met s) = Gives problem ii s
IsTried problem ii (Failed failure) = FailsFor problem ii failure

-- a solution, or that there is none, by some cause
abbrev pub IsMet : ProblemData → ℕ → Option SolutionData → Type 0
IsMet problem ii found = MatchOption found ((cause : Cause) × FailsBy problem ii cause) (Gives problem ii)
