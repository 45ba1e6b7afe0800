use Rattle.std.proofs.Common.{◌≡◌, ◌++◌}
use Rattle.std.specs.List.{flat_map, range_with_len}
use Rattle.graph_text.specs.Dot.{node_line}
use Rattle.scheduled_graphs.proofs.nodes.push_nodes.Given as goal

abbrev pub invariant-loop-number : goal.invariant-loop-number
invariant-loop-number l = l.text.items ≡ l.initial.text.items ++ flat_map (node_line l.innermost) (range_with_len 0 l.number)
