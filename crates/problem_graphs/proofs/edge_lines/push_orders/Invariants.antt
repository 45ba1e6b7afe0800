use Rattle.std.proofs.Common.{◌≡◌, ◌++◌, take}
use Rattle.std.specs.List.{flat_map}
use Rattle.problem_graphs.specs.Edges.{order_line}
use Rattle.problem_graphs.proofs.edge_lines.push_orders.Given as goal

abbrev pub invariant-loop-order : goal.invariant-loop-order
invariant-loop-order l = l.text.items ≡ l.initial.text.items ++ flat_map (order_line l.draft) (take l.order-index l.draft.orders.items)
