-- What a problem gives: its least interval that has a solution.
use Rattle.std.specs.Prelude.{◌≡◌, ℕ, ◌+◌, ◌<◌, List, length, Some, slice_get, slice_index}
use Rattle.modulo.specs.declared.outcome.attempts.Failure.{Failure}
use Rattle.modulo.specs.declared.outcome.attempts.Failure.TheVariants as failure
use Rattle.modulo.specs.declared.outcome.attempts.Try.TheVariants as try
use Rattle.modulo.specs.Attempts.{AnswersAttempt}
use Rattle.schedules.specs.Problems.{mii_of, budget_of}
use Rattle.schedules.specs.Schedules.{ScheduleData}
use Rattle.problems.specs.declared.draft.Draft.{Draft}
use Rattle.problems.specs.declared.draft.File.TheVariants.{Rotating}
use Rattle.problems.specs.Problems.{ProblemData}
use Rattle.registers.specs.Allotments.{AreLeast}
use Rattle.registers.specs.Numberless.{HasNoneAt}
use Rattle.settings.specs.Searches.{IsLeastGiven, IsNoneGiven}
use Rattle.solutions.specs.declared.solving.outcome.Cause.{Cause}
use Rattle.solutions.specs.declared.solving.outcome.Cause.TheVariants.{Table, Budget, Stages, Registers}
use Rattle.solutions.specs.declared.solving.outcome.Outcome.{Outcome}
use Rattle.solutions.specs.declared.solving.outcome.Outcome.TheVariants.{Met, Failed}
use Rattle.solutions.specs.Files.{in_file, place_in}
use Rattle.solutions.specs.Solutions.{SolutionData, HasLeastNumbers, files_of, lives_at, schedule_of}

-- the attempt places all operations, as the schedule says
abbrev pub IsPlacedAs : ProblemData → ℕ → ScheduleData → Type 0
IsPlacedAs problem ii schedule = AnswersAttempt problem.scheduling ii (budget_of problem.scheduling) (try.Placed schedule)

-- the attempt places all operations, and the numbers are the least ones
pub record Gives (problem : ProblemData) (ii : ℕ) (s : SolutionData) : Type 0 where
  pub same_problem : s.problem ≡ problem
  pub same_interval : s.ii ≡ ii
  pub is_placed : IsPlacedAs problem ii (schedule_of s)
  pub least : HasLeastNumbers s

-- after the least numbers of those before it in its file, which is rotating, the value has no number. Those before it have one each
pub record HasNoNumber (draft : Draft) (schedule : ScheduleData) (file value : ℕ) : Type 0 where
  pub registers : ℕ
  pub is_rotating : slice_get draft.files.items file ≡ Some (Rotating registers)
  pub there : value < length draft.values.items
  pub is_file : slice_index (files_of draft) value ≡ file
  pub numbers : List ℕ
  pub has_none : HasNoneAt schedule.ii registers (in_file (files_of draft) file (lives_at draft schedule)) numbers (place_in (files_of draft) file value)

-- the attempt places all operations, and this is the first value of the first file that has no number
pub record LacksRegister (problem : ProblemData) (ii file value : ℕ) : Type 0 where
  pub schedule : ScheduleData
  pub is_placed : IsPlacedAs problem ii schedule
  pub has_none : HasNoNumber problem.draft schedule file value
  pub before : (sooner registers : ℕ) → sooner < file → slice_get problem.draft.files.items sooner ≡ Some (Rotating registers)
      → (numbers : List ℕ) × AreLeast schedule.ii registers (in_file (files_of problem.draft) sooner (lives_at problem.draft schedule)) numbers

-- the cause that a failed attempt is
abbrev pub cause_of : Failure → Cause
cause_of failure.Table = Table
cause_of failure.Budget = Budget
cause_of failure.Stages = Stages

-- why an interval gives no solution
abbrev pub FailsBy : ProblemData → ℕ → Cause → Type 0
FailsBy problem ii Table = AnswersAttempt problem.scheduling ii (budget_of problem.scheduling) (try.Failed failure.Table)
FailsBy problem ii Budget = AnswersAttempt problem.scheduling ii (budget_of problem.scheduling) (try.Failed failure.Budget)
FailsBy problem ii Stages = AnswersAttempt problem.scheduling ii (budget_of problem.scheduling) (try.Failed failure.Stages)
FailsBy problem ii (Registers file value) = LacksRegister problem ii file value

-- the first and the last interval that are tried
abbrev pub first_of : ProblemData → ℕ
first_of problem = mii_of problem.scheduling

abbrev pub last_of : ProblemData → ℕ
last_of problem = mii_of problem.scheduling + problem.scheduling.ceiling

-- the solution of the least interval that gives one, or why the last one gives none
abbrev pub IsSolved : ProblemData → Outcome → Type 0
IsSolved problem (Met s) = IsLeastGiven (Gives problem) (first_of problem) (last_of problem) s.ii s
IsSolved problem (Failed cause) = IsNoneGiven (Gives problem) (FailsBy problem) (first_of problem) (last_of problem) cause
