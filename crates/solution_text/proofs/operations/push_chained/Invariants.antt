use Rattle.std.proofs.Common.{◌≡◌, ◌++◌}
use Rattle.std.specs.List.{flat_map, range_with_len}
use Rattle.solution_text.specs.Operations.{op_line}
use Rattle.solution_text.proofs.operations.push_chained.Given as goal

abbrev pub invariant-loop-op : goal.invariant-loop-op
invariant-loop-op l = l.text.items ≡ l.initial.text.items ++ flat_map (op_line l.solution) (range_with_len 0 l.op)
