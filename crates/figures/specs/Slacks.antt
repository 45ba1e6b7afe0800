-- By how many cycles operations could be issued later than they are.
use Rattle.std.specs.Prelude.{◌≡◌, ℕ, ◌+◌, ◌<◌, ◌≤◌, List, length, slice_index, slice_set}
use Rattle.std.specs.List.{All}
use Rattle.edges.specs.Schedules.{KeepsEdge}
use Rattle.loop_schedules.specs.Schedules.{ScheduleData}
use Rattle.overlap.specs.Lifetimes.{last_landing}

-- the schedule with one operation issued this many cycles later, and all others when they were
abbrev pub issued_later : ScheduleData → ℕ → ℕ → ScheduleData
issued_later schedule op more = record schedule { times = slice_set schedule.times op (slice_index schedule.times op + more) }

-- each dependence is kept then, and the iteration takes no longer
pub record MayBeLater (schedule : ScheduleData) (op more : ℕ) : Type 0 where
  pub keeps : All (KeepsEdge schedule.ii (issued_later schedule op more).times) schedule.problem.graph.edges
  pub no_longer : last_landing (issued_later schedule op more) ≤ last_landing schedule

-- the operation may be so many cycles later, and no more
pub record IsSlack (schedule : ScheduleData) (op slack : ℕ) : Type 0 where
  pub may : MayBeLater schedule op slack
  pub greatest : (more : ℕ) → MayBeLater schedule op more → more ≤ slack

-- the slack of each operation
pub record AreSlacks (schedule : ScheduleData) (slacks : List ℕ) : Type 0 where
  pub each : length slacks ≡ length schedule.problem.operations
  pub is : (op : ℕ) → op < length schedule.problem.operations → IsSlack schedule op (slice_index slacks op)
