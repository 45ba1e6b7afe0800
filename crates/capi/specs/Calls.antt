-- What a call does for its caller.
use Rattle.std.specs.Prelude.{◌≡◌, ◌≢◌, ◌⊎◌, ℕ, ◌<◌, ◌≤◌, nat_lt, if◌then◌else◌, List, length, slice_index, Result, Ok, Err, Some}
use Rattle.machine_data.specs.declared.limits.TheConstants.{MAX_CEILING, MAX_RATIO}
use Rattle.problems.specs.declared.draft.Draft.{Draft}
use Rattle.problems.specs.declared.fault.Fault.{Fault as AnyFault}
use Rattle.problems.specs.declared.fault.Refusal.{Refusal}
use Rattle.problems.specs.declared.fault.Refusal.TheVariants.{Fault, Memory}
use Rattle.problems.specs.Faults.{first_fault_of}
use Rattle.problems.specs.Problems.{ProblemData, IsProblemOf}
use Rattle.solutions.specs.declared.solving.outcome.Outcome.{Outcome}
use Rattle.solutions.specs.declared.solving.outcome.Outcome.TheVariants.{Met, Failed}
use Rattle.solutions.specs.Outcomes.{IsSolved}
use Rattle.solutions.specs.Runs.{IsRightOutcome}
use Rattle.solutions.specs.Solutions.{SolutionData}
use Rattle.capi.specs.declared.answer.Answer.{Answer}
use Rattle.capi.specs.declared.given.Problem.{Problem as GivenProblem}
use Rattle.capi.specs.Answers.{nothing, misfit_answer, fault_answer, met_answer, failed_answer}
use Rattle.capi.specs.Given.{IsDraftOf}

-- the caller's arrays
pub record Arrays : Type 0 where
  pub times : List ℕ
  pub alternatives : List ℕ
  pub numbers : List ℕ

-- the first argument that is out of its range or too short, from 1; 0 where each one fits
abbrev pub misfit_of : GivenProblem → ℕ → ℕ → ℕ → ℕ → ℕ → ℕ
misfit_of given ratio ceiling times alternatives numbers =
    if nat_lt ratio 1 then 1
    else if nat_lt MAX_RATIO ratio then 1
    else if nat_lt MAX_CEILING ceiling then 2
    else if nat_lt times (length given.operations.now) then 3
    else if nat_lt alternatives (length given.operations.now) then 4
    else if nat_lt numbers (length given.values.now) then 5
    else 0

abbrev pub misfit_in : GivenProblem → ℕ → ℕ → Arrays → ℕ
misfit_in given ratio ceiling arrays = misfit_of given ratio ceiling (length arrays.times) (length arrays.alternatives) (length arrays.numbers)

-- an array begins with a list, and is as before after it
pub record IsWritten (xs before after : List ℕ) : Type 0 where
  pub same_length : length after ≡ length before
  pub room : length xs ≤ length before
  pub each : (k : ℕ) → k < length xs → slice_index after k ≡ slice_index xs k
  pub rest : (k : ℕ) → length xs ≤ k → k < length before → slice_index after k ≡ slice_index before k

-- the problem that is given
pub record IsGiven (given : GivenProblem) (ratio ceiling : ℕ) (problem : ProblemData) : Type 0 where
  pub draft : Draft
  pub is_draft : IsDraftOf given draft
  pub is_problem : IsProblemOf draft ratio ceiling problem

-- the first fault of the draft that is given
pub record IsAtFault (given : GivenProblem) (fault : AnyFault) : Type 0 where
  pub draft : Draft
  pub is_draft : IsDraftOf given draft
  pub is_first : first_fault_of draft ≡ Some fault

-- what is given comes to a problem, or to its first fault; memory may run out with either
abbrev pub EndsBy : GivenProblem → ℕ → ℕ → Result ProblemData Refusal → Type 0
EndsBy given ratio ceiling (Ok problem) = IsGiven given ratio ceiling problem
EndsBy given ratio ceiling (Err (Fault fault)) = IsAtFault given fault
EndsBy given ratio ceiling (Err (Memory cause)) = Unit {0}

-- the solution is in the arrays
pub record HasSolution (problem : ProblemData) (before after : Arrays) (answer : Answer) (s : SolutionData) : Type 0 where
  pub is_answer : answer ≡ met_answer problem s
  pub times : IsWritten s.times before.times after.times
  pub alternatives : IsWritten s.choices before.alternatives after.alternatives
  pub numbers : IsWritten s.numbers before.numbers after.numbers

-- of an outcome: the status, the answer and the arrays
abbrev pub Tells : ProblemData → Arrays → Arrays → Answer → ℕ → Outcome → Type 0
Tells problem before after answer status (Met s) = (status ≡ 0) × HasSolution problem before after answer s
Tells problem before after answer status (Failed cause) = (status ≡ 1) × (answer ≡ failed_answer problem cause) × (after ≡ before)

-- the problem that is given has this outcome, and it is told
pub record IsTold (given : GivenProblem) (ratio ceiling : ℕ) (before after : Arrays) (answer : Answer) (status : ℕ) : Type 0 where
  pub problem : ProblemData
  pub is_given : IsGiven given ratio ceiling problem
  pub outcome : Outcome
  pub is_solved : IsSolved problem outcome
  pub is_right : IsRightOutcome outcome
  pub tells : Tells problem before after answer status outcome

-- an argument does not fit
pub record IsMisfit (given : GivenProblem) (ratio ceiling : ℕ) (before after : Arrays) (answer : Answer) (status : ℕ) : Type 0 where
  pub is_status : status ≡ 2
  pub misfit : misfit_in given ratio ceiling before ≢ 0
  pub is_answer : answer ≡ misfit_answer (misfit_in given ratio ceiling before)
  pub same : after ≡ before

-- the problem is at fault
pub record IsFaulty (given : GivenProblem) (before after : Arrays) (answer : Answer) (status : ℕ) : Type 0 where
  pub is_status : status ≡ 5
  pub fault : AnyFault
  pub is_fault : IsAtFault given fault
  pub is_answer : answer ≡ fault_answer fault
  pub same : after ≡ before

-- memory ran out
pub record IsOutOfMemory (before after : Arrays) (answer : Answer) (status : ℕ) : Type 0 where
  pub is_status : status ≡ 7
  pub is_answer : answer ≡ nothing
  pub same : after ≡ before

-- where each argument fits, the outcome or the first fault; memory may run out with either
abbrev pub AnswersSolve : GivenProblem → ℕ → ℕ → Arrays → Arrays → Answer → ℕ → Type 0
AnswersSolve given ratio ceiling before after answer status = IsMisfit given ratio ceiling before after answer status
    ⊎ ((misfit_in given ratio ceiling before ≡ 0)
    × (IsTold given ratio ceiling before after answer status
    ⊎ (IsFaulty given before after answer status ⊎ IsOutOfMemory before after answer status)))
