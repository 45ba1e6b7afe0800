use Rattle.std.proofs.Common.{◌≡◌, ◌++◌, take}
use Rattle.std.specs.List.{flat_map}
use Rattle.schedule_lines.specs.ScheduleTexts.{row_text}
use Rattle.schedule_lines.proofs.operations.push_rows.Given as goal

abbrev pub invariant-loop-row : goal.invariant-loop-row
invariant-loop-row l = l.text.items ≡ l.initial.text.items ++ flat_map (row_text l.machine) (take l.row-index l.rows)
