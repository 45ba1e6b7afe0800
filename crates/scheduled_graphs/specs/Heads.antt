-- What stands before the operations.
use Rattle.std.specs.Prelude.{ℕ, ◌+◌, codes, List, ◌++◌}
use Rattle.loop_schedules.specs.Problems.{ProblemData, mii_of}
use Rattle.loop_schedules.specs.Schedules.{ScheduleData, stages_of}
use Rattle.loop_listings.specs.declared.causes.Cause.{Cause}
use Rattle.candidates.specs.Choices.{last_of}
use Rattle.loop_listings.specs.Texts.{cause_word}
use Rattle.graph_marks.specs.Labels.{failed_label, met_label, nodes_filled, nodes_plain}
use Rattle.writing.specs.Words.{told}

-- ` res R rec C mii M`: the two lower bounds of the interval, and the greater one
abbrev pub bounds_told : ProblemData → List ℕ
bounds_told problem = (told (codes " res ") problem.resources ++ told (codes " rec ") problem.recurrences) ++ told (codes " mii ") (mii_of problem)

-- `digraph "NAME" {`, and the label up to `NAME res R rec C mii M`
abbrev pub head_of : ProblemData → List ℕ
head_of problem = ((codes "digraph \"" ++ problem.loop.name) ++ (codes "\" {\n  label=\"" ++ problem.loop.name)) ++ bounds_told problem

-- then the interval and the stages, and how the operations look
abbrev pub scheduled_head : ScheduleData → List ℕ
scheduled_head schedule = (head_of schedule.problem ++ met_label schedule.ii (stages_of schedule)) ++ nodes_filled

-- or the last interval that is tried and why it gives no kernel, and how the operations look
abbrev pub unscheduled_head : ProblemData → Cause → List ℕ
unscheduled_head problem cause = (head_of problem ++ failed_label (last_of problem) (cause_word cause)) ++ nodes_plain
