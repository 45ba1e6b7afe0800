-- Laws of problems and schedules.
use Rattle.std.specs.Prelude.{◌≡◌, ℕ, ◌<◌, ◌≤◌, List, length}
use Rattle.machine_data.specs.declared.limits.TheConstants.{MAX_INTERVAL}
use Rattle.machine_data.specs.declared.alternative.Row.{Row}
use Rattle.edges.specs.Graphs.{GraphData}
use Rattle.schedules.specs.declared.breach.Breach.{Breach}
use Rattle.schedules.specs.Problems.{ProblemData, IsProblemOf}
use Rattle.schedules.specs.Schedules.{ScheduleData, IsSchedule, as_listed, stage_of, stages_of}
use Rattle.schedules.specs.Breaches.{IsFirstBreach}

-- edges, latencies, alternatives and settings have one problem
abbrev pub OneProblem : Type 0
OneProblem = (graph : GraphData) (operations : List (List (List Row))) (ratio ceiling : ℕ) (one other : ProblemData)
    → IsProblemOf graph operations ratio ceiling one → IsProblemOf graph operations ratio ceiling other → one ≡ other

-- a schedule has 1 to 64 stages, and each operation's is one of them
abbrev pub StagesAreFew : Type 0
StagesAreFew = (schedule : ScheduleData) → IsSchedule schedule
    → (stages_of schedule ≤ 64) × ((op : ℕ) → op < length schedule.problem.operations → stage_of schedule op < stages_of schedule)

-- a list of times and alternatives that breaks something is no schedule
abbrev pub BreachesBreak : Type 0
BreachesBreak = (problem : ProblemData) (ii : ℕ) (places : List (ℕ × ℕ)) (breach : Breach) → 1 ≤ ii → ii ≤ MAX_INTERVAL
    → IsFirstBreach problem ii places breach → IsSchedule (as_listed problem ii places) → ⊥

-- a list of times and alternatives breaks one thing first
abbrev pub OneBreach : Type 0
OneBreach = (problem : ProblemData) (ii : ℕ) (places : List (ℕ × ℕ)) (one other : Breach)
    → IsFirstBreach problem ii places one → IsFirstBreach problem ii places other → one ≡ other
