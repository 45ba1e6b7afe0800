-- Schedules as data.
use Rattle.std.specs.Prelude.{ℕ, ◌/◌, ◌%◌, ◌+◌, ◌<◌, ◌≤◌, List, map, slice_index}
use Rattle.machine_data.specs.declared.limits.TheConstants.{MAX_INTERVAL, MAX_STAGES}
use Rattle.std.specs.List.{All}
use Rattle.edges.specs.Schedules.{IsLawfulSchedule}
use Rattle.unit_bound.specs.Units.{greatest_of}
use Rattle.loop_schedules.specs.Problems.{ProblemData, IsProblem}

-- an interval, and each operation's issue time, in cycles, and alternative
pub record ScheduleData : Type 0 where
  pub problem : ProblemData
  pub ii : ℕ
  pub times : List ℕ
  pub choices : List ℕ

-- the stage of an operation: how many intervals after its iteration's beginning it is issued
abbrev pub stage_of : ScheduleData → ℕ → ℕ
stage_of schedule op = slice_index schedule.times op / schedule.ii

-- the cycle of the interval in which an operation is issued
abbrev pub row_of : ScheduleData → ℕ → ℕ
row_of schedule op = slice_index schedule.times op % schedule.ii

-- one more than the greatest stage
abbrev pub stages_of : ScheduleData → ℕ
stages_of schedule = greatest_of (map (λ time. time / schedule.ii) schedule.times) + 1

-- it keeps each edge and each unit, and has at most 64 stages
pub record IsSchedule (schedule : ScheduleData) : Type 0 where
  pub problem : IsProblem schedule.problem
  pub ii_some : 1 ≤ schedule.ii
  pub ii_few : schedule.ii ≤ MAX_INTERVAL
  pub lawful : IsLawfulSchedule schedule.ii schedule.problem.operations schedule.problem.graph.edges schedule.times schedule.choices
  pub stages : All (λ time. time / schedule.ii < MAX_STAGES) schedule.times

-- what a list of times and alternatives says
abbrev pub as_listed : ProblemData → ℕ → List (ℕ × ℕ) → ScheduleData
as_listed problem ii places = record { problem = problem; ii = ii; times = map (λ (p : ℕ × ℕ). p.0) places; choices = map (λ (p : ℕ × ℕ). p.1) places }
