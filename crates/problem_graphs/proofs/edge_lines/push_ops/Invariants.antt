use Rattle.std.proofs.Common.{◌≡◌, ◌++◌}
use Rattle.std.specs.List.{flat_map, range_with_len}
use Rattle.problem_graphs.specs.Edges.{op_line}
use Rattle.problem_graphs.proofs.edge_lines.push_ops.Given as goal

abbrev pub invariant-loop-op : goal.invariant-loop-op
invariant-loop-op l = l.text.items ≡ l.initial.text.items ++ flat_map (op_line l.problem l.heights) (range_with_len 0 l.op)
