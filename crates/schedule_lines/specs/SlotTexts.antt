-- The texts in the slots of the modulo reservation table of a schedule.
use Rattle.std.specs.Prelude.{ℕ, List, codes, ◌++◌, Option, Some, None}
use Rattle.graph_text.specs.Names.{op_name}
use Rattle.loop_schedules.specs.Schedules.{ScheduleData, stage_of}
use Rattle.figures.specs.Slots.{slot_taker}
use Rattle.writing.specs.Words.{told}

-- `NAME/STAGE`
abbrev pub label_of : ScheduleData → ℕ → List ℕ
label_of schedule op = op_name schedule.problem.loop op ++ told (codes "/") (stage_of schedule op)

abbrev pub taker_text : ScheduleData → Option ℕ → List ℕ
taker_text schedule None = codes "."
taker_text schedule (Some op) = label_of schedule op

-- what stands in a slot
unfoldable pub slot_text : ScheduleData → ℕ → ℕ → List ℕ
slot_text schedule unit row = taker_text schedule (slot_taker schedule unit row)
