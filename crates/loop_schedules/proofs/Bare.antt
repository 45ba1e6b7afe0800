-- A schedule of a problem without its loop is one of the loop.
use Rattle.std.proofs.Common.{◌≡◌, subst}
use Rattle.edges.specs.Schedules.{IsLawfulSchedule}
use Rattle.schedules.specs.Problems as problems
use Rattle.schedules.specs.Schedules as schedules
use Rattle.loop_schedules.specs.Problems.{ProblemData, IsProblem, without_loop}
use Rattle.loop_schedules.specs.Schedules.{ScheduleData, IsSchedule}

-- a schedule without its loop
abbrev pub bare : ScheduleData → schedules.ScheduleData
bare s = record { problem = without_loop s.problem; ii = s.ii; times = s.times; choices = s.choices }

-- a schedule of a loop, by one without it
abbrev pub of_loop : ProblemData → schedules.ScheduleData → ScheduleData
of_loop p s = record { problem = p; ii = s.ii; times = s.times; choices = s.choices }

pub bare-is : (s : ScheduleData) → IsSchedule s → schedules.IsSchedule (bare s)
bare-is s is = record {
  problem = is.problem.is_problem;
  ii_some = is.ii_some;
  ii_few = is.ii_few;
  lawful = is.lawful;
  stages = is.stages;
}

pub of-loop : (p : ProblemData) (s : schedules.ScheduleData) → IsProblem p → s.problem ≡ without_loop p → schedules.IsSchedule s → IsSchedule (of_loop p s)
of-loop p s is same h = record {
  problem = is;
  ii_some = h.ii_some;
  ii_few = h.ii_few;
  lawful = subst (λ (q : problems.ProblemData). IsLawfulSchedule s.ii q.operations q.graph.edges s.times s.choices) same h.lawful;
  stages = h.stages;
}
