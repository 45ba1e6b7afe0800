-- What keeps an attempt from a schedule.
use Rattle.std.specs.Prelude.{◌≡◌, ℕ, ◌/◌, ◌<◌, ◌≤◌, is_none, true, List, [], filter, length, Option, Some, None, slice_index}
use Rattle.machine_data.specs.declared.limits.TheConstants.{MAX_STAGES}
use Rattle.std.specs.List.{All, range_with_len, slice_index_or}
use Rattle.machine_data.specs.Alternative.{collides}
use Rattle.mrt.specs.Placements.{placement_of}
use Rattle.modulo.specs.declared.outcome.answers.Answer.{Answer}
use Rattle.modulo.specs.declared.outcome.answers.Answer.TheVariants.{Placed, Failed}
use Rattle.modulo.specs.declared.outcome.attempts.Failure.{Failure}
use Rattle.modulo.specs.declared.outcome.attempts.Failure.TheVariants.{Table, Budget, Stages}
use Rattle.modulo.specs.declared.outcome.attempts.Try.TheVariants as try
use Rattle.modulo.specs.declared.outcome.attempts.Culprit.{Culprit}
use Rattle.modulo.specs.declared.outcome.attempts.Culprit.TheVariants.{Blocked, Unplaced, Late}
use Rattle.modulo.specs.Attempts.{IsBlocked, EndsPlaced, AnswersAttempt}
use Rattle.schedules.specs.Problems.{ProblemData}
use Rattle.schedules.specs.Schedules.{ScheduleData}
use Rattle.modulo.specs.Scheduling.{State, Stops}

-- the first operation that has only alternatives that collide with themselves
pub record IsFirstBlocked (problem : ProblemData) (ii op : ℕ) : Type 0 where
  pub there : op < length problem.operations
  pub colliding : All (λ rows. collides ii rows ≡ true) (slice_index_or problem.operations op [])
  pub first : (sooner : ℕ) → sooner < op → All (λ rows. collides ii rows ≡ true) (slice_index_or problem.operations sooner []) → ⊥

-- the operations that are not placed, in order
abbrev pub unplaced_of : ProblemData → State → List ℕ
unplaced_of problem state = filter (λ op. is_none (placement_of state.placed op)) (range_with_len 0 (length problem.operations))

-- at the end these operations are not placed, at least one
pub record EndsWithout (problem : ProblemData) (ii budget : ℕ) (ops : List ℕ) : Type 0 where
  pub state : State
  pub stops : Stops problem ii budget state
  pub are : ops ≡ unplaced_of problem state
  pub some : 0 < length ops

-- at the end all operations are placed, and this is the first one in stage 64 or later, issued at the time
pub record EndsLateAt (problem : ProblemData) (ii budget op time : ℕ) : Type 0 where
  pub times : List ℕ
  pub choices : List ℕ
  pub ends : EndsPlaced problem ii budget times choices
  pub there : op < length problem.operations
  pub is_time : time ≡ slice_index times op
  pub late : MAX_STAGES ≤ time / ii
  pub first : (sooner : ℕ) → sooner < op → slice_index times sooner / ii < MAX_STAGES

-- what keeps an attempt from a schedule: of a failure for each cause the culprits, and nothing where there is a schedule
abbrev pub AnswersCulprit : ProblemData → ℕ → ℕ → Option Culprit → Type 0
AnswersCulprit problem ii budget (Some (Blocked op)) = IsFirstBlocked problem ii op
AnswersCulprit problem ii budget (Some (Unplaced ops)) = (IsBlocked problem ii → ⊥) × EndsWithout problem ii budget ops.items
AnswersCulprit problem ii budget (Some (Late op time)) = (IsBlocked problem ii → ⊥) × EndsLateAt problem ii budget op time
AnswersCulprit problem ii budget None = (schedule : ScheduleData) × AnswersAttempt problem ii budget (try.Placed schedule)

-- what an attempt answers, with what keeps it from a schedule
abbrev pub IsAnswer : ProblemData → ℕ → ℕ → Answer → Type 0
IsAnswer problem ii budget (Placed schedule) = AnswersAttempt problem ii budget (try.Placed schedule)
IsAnswer problem ii budget (Failed culprit) = AnswersCulprit problem ii budget (Some culprit)

-- the failure that a culprit is after
abbrev pub failure_of : Culprit → Failure
failure_of (Blocked op) = Table
failure_of (Unplaced ops) = Budget
failure_of (Late op time) = Stages

-- where there is a culprit, the attempt fails so
abbrev pub CulpritsAreFailures : Type 0
CulpritsAreFailures = (problem : ProblemData) (ii budget : ℕ) (culprit : Culprit) → AnswersCulprit problem ii budget (Some culprit)
    → AnswersAttempt problem ii budget (try.Failed (failure_of culprit))
