-- The operations of a loop, as JSON.
use Rattle.std.specs.Prelude.{ℕ, codes, List, slice_index}
use Rattle.serde_json.specs.Data.{Data, string, object, member, no_members}
use Rattle.graph_text.specs.Names.{op_name, opcode_word}
use Rattle.loop_schedules.specs.Problems.{ProblemData}
use Rattle.loop_schedules.specs.Schedules.{ScheduleData, row_of, stage_of}
use Rattle.told_choices.specs.declared.chosen.Chosen.{Chosen}
use Rattle.told_choices.specs.declared.chosen.Chosen.TheVariants.{Met, Failed}
use Rattle.explain_json.specs.Parts.{array_of, count_value}
use Rattle.explain_json.specs.Units.{operations_in}

-- an operation of a loop that has no kernel; the heights are those of all operations
abbrev pub operation_object : ProblemData → List ℕ → ℕ → Data
operation_object problem heights op =
    object (member (codes "height") (count_value (slice_index heights op))
    (member (codes "latency") (count_value (slice_index problem.graph.latencies op))
    (member (codes "name") (string (op_name problem.loop op))
    (member (codes "opcode") (string (opcode_word problem.loop op)) no_members))))

-- an operation of a loop that is scheduled: also its alternative, its row, by how much it could be later, its stage and when it is issued;
-- the slacks are those of all operations
abbrev pub placed_object : ProblemData → List ℕ → ScheduleData → List ℕ → ℕ → Data
placed_object problem heights schedule slacks op =
    object (member (codes "alternative") (count_value (slice_index schedule.choices op))
    (member (codes "height") (count_value (slice_index heights op))
    (member (codes "latency") (count_value (slice_index problem.graph.latencies op))
    (member (codes "name") (string (op_name problem.loop op))
    (member (codes "opcode") (string (opcode_word problem.loop op))
    (member (codes "row") (count_value (row_of schedule op))
    (member (codes "slack") (count_value (slice_index slacks op))
    (member (codes "stage") (count_value (stage_of schedule op))
    (member (codes "time") (count_value (slice_index schedule.times op)) no_members)))))))))

-- all operations, in text order
abbrev pub operations_value : ProblemData → List ℕ → Chosen → Data
operations_value problem heights (Met ii met figures) = array_of (placed_object problem heights met.schedule figures.slacks.items) (operations_in problem)
operations_value problem heights (Failed cause) = array_of (operation_object problem heights) (operations_in problem)
