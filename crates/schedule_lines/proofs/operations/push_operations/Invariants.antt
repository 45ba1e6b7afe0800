use Rattle.std.proofs.Common.{◌≡◌, ◌++◌}
use Rattle.std.specs.Prelude.{slice_index}
use Rattle.std.specs.List.{flat_map, range_with_len}
use Rattle.schedule_lines.specs.ScheduleTexts.{op_line}
use Rattle.schedule_lines.proofs.operations.push_operations.Given as goal

abbrev pub invariant-loop-op : goal.invariant-loop-op
invariant-loop-op l = l.text.items ≡ l.initial.text.items ++ flat_map (λ op. op_line l.machine l.schedule (slice_index l.slacks op) op) (range_with_len 0 l.op)
