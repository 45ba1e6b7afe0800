use Rattle.std.proofs.Common.{◌≡◌, ℕ, List, ◌++◌, take}
use Rattle.problem_graphs.specs.Arrows.{AreOrders}
use Rattle.problem_graphs.proofs.arrows.push_orders.Given as goal

abbrev pub invariant-loop-order : goal.invariant-loop-order
invariant-loop-order l = (arrows : List ℕ) × AreOrders l.look l.draft l.circuit (take l.order-index l.draft.orders.items) arrows × (l.text.items ≡ l.initial.text.items ++ arrows)
