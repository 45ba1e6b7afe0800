-- Laws of prepared loops and their schedules.
use Rattle.std.specs.Prelude.{◌≡◌, ℕ, ◌<◌, ◌≤◌, length}
use Rattle.machine_data.specs.Machines.{MachineData}
use Rattle.loop_data.specs.Loops.{LoopData}
use Rattle.graph.specs.Graphs.{IsGraphOf}
use Rattle.graph.specs.Promises.{KeepsDependences}
use Rattle.loop_schedules.specs.Problems.{ProblemData, IsProblemOf}
use Rattle.loop_schedules.specs.Schedules.{ScheduleData, IsSchedule, stage_of, stages_of}

-- a schedule keeps each dependence of its loop
abbrev pub SchedulesKeepDependences : Type 0
SchedulesKeepDependences = (schedule : ScheduleData) → IsSchedule schedule
    → KeepsDependences schedule.problem.loop schedule.problem.graph.latencies schedule.ii schedule.times

-- a loop, a machine and settings have one problem
abbrev pub OneProblem : Type 0
OneProblem = (machine : MachineData) (loop : LoopData) (ratio ceiling : ℕ) (one other : ProblemData)
    → IsProblemOf machine loop ratio ceiling one → IsProblemOf machine loop ratio ceiling other → one ≡ other

-- a problem of a loop on a machine has its graph there
abbrev pub ProblemsHaveGraphs : Type 0
ProblemsHaveGraphs = (machine : MachineData) (loop : LoopData) (ratio ceiling : ℕ) (problem : ProblemData)
    → IsProblemOf machine loop ratio ceiling problem → IsGraphOf machine loop problem.graph

-- a schedule has 1 to 64 stages, and each operation's is one of them
abbrev pub StagesAreFew : Type 0
StagesAreFew = (schedule : ScheduleData) → IsSchedule schedule
    → (stages_of schedule ≤ 64) × ((op : ℕ) → op < length schedule.problem.operations → stage_of schedule op < stages_of schedule)
