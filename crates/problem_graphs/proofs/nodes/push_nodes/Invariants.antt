use Rattle.std.proofs.Common.{◌≡◌, ◌++◌}
use Rattle.std.specs.List.{flat_map, range_with_len}
use Rattle.problem_graphs.specs.Nodes.{node_line}
use Rattle.problem_graphs.proofs.nodes.push_nodes.Given as goal

abbrev pub invariant-loop-op : goal.invariant-loop-op
invariant-loop-op l = l.text.items ≡ l.initial.text.items ++ flat_map (node_line l.draft) (range_with_len 0 l.op)
