use Rattle.std.proofs.Common.{◌≡◌, ◌++◌, map, take}
use Rattle.problems.specs.Drafts.{order_edge}
use Rattle.problems.proofs.making.edge_list.push_orders.Given as goal

abbrev pub invariant-loop-order : goal.invariant-loop-order
invariant-loop-order l = l.edges.items ≡ l.initial.edges.items ++ map order_edge (take l.order-index l.draft.orders.items)
