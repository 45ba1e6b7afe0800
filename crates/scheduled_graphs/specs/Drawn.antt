-- The graph of a loop by what an interval came to, with a circuit that needs the recurrence-constrained lower bound.
use Rattle.std.specs.Prelude.{ℕ, List}
use Rattle.edges.specs.Edges.{EdgeData}
use Rattle.graph_text.specs.Drawings.{IsCritical}
use Rattle.loop_schedules.specs.Problems.{ProblemData}
use Rattle.loop_schedules.specs.Schedules.{ScheduleData}
use Rattle.loop_listings.specs.declared.causes.Cause.{Cause}
use Rattle.told_intervals.specs.declared.evidence.Tried.{Tried}
use Rattle.told_intervals.specs.declared.evidence.Tried.TheVariants.{Met, Failed}
use Rattle.told_intervals.specs.Reasons.{reason_cause}
use Rattle.scheduled_graphs.specs.Graphs.{IsScheduledText, IsUnscheduledText}

-- the graph of a loop with a schedule, where such a circuit is red
abbrev pub IsScheduledGraph : ScheduleData → List ℕ → Type 0
IsScheduledGraph schedule text =
    (circuit : List EdgeData) × IsCritical schedule.problem.graph.edges schedule.problem.recurrences circuit × IsScheduledText schedule circuit text

-- .. and of one that has no kernel
abbrev pub IsUnscheduledGraph : ProblemData → Cause → List ℕ → Type 0
IsUnscheduledGraph problem cause text =
    (circuit : List EdgeData) × IsCritical problem.graph.edges problem.recurrences circuit × IsUnscheduledText problem circuit cause text

-- by what the interval came to: the schedule of its kernel, or why it gives none
abbrev pub IsDrawnBy : ProblemData → Tried → List ℕ → Type 0
IsDrawnBy problem (Met met) text = IsScheduledGraph met.schedule text
IsDrawnBy problem (Failed reason) text = IsUnscheduledGraph problem (reason_cause reason) text
