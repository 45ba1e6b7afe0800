-- Laws of attempts.
use Rattle.std.specs.Prelude.{◌≡◌, ℕ, ◌≤◌, List}
use Rattle.edges.specs.Schedules.{IsLawfulSchedule}
use Rattle.modulo.specs.Attempts.{EndsPlaced}
use Rattle.loop_schedules.specs.Problems.{ProblemData, IsProblem, mii_of, without_loop}
use Rattle.ims.specs.declared.outcome.attempts.Try.{Try}
use Rattle.ims.specs.Attempts.{AnswersAttempt}

-- the end of an attempt keeps each edge and each unit
abbrev pub AttemptsAreLawful : Type 0
AttemptsAreLawful = (problem : ProblemData) (ii budget : ℕ) (times choices : List ℕ)
    → IsProblem problem → mii_of problem ≤ ii → EndsPlaced (without_loop problem) ii budget times choices
    → IsLawfulSchedule ii problem.operations problem.graph.edges times choices

-- an attempt has one answer
abbrev pub OneAnswer : Type 0
OneAnswer = (problem : ProblemData) (ii budget : ℕ) (one other : Try) → IsProblem problem
    → AnswersAttempt problem ii budget one → AnswersAttempt problem ii budget other → one ≡ other
